use Rattle.std.proofs.Common.{◌<◌, ℕ, ◌+◌, ◌/◌, length, take, All, Option, Some, arith, refl, sym, ap, ◌∙◌, subst, get_or-set_other}
use Rattle.std.proofs.lemmas.List.{get_or-replicate, length-set, take_more_set}
use Rattle.std.proofs.lemmas.Grind.{common_steps}
use Rattle.phys_mem.specs.Memory.{entry_in}
use Rattle.region_book.specs.RegionCalls.{mapped}
use Rattle.region_book.proofs.PageRanges.{all_more, range_empty, range_more, range_broken}
use Rattle.region_book.proofs.pages.pages_of.Goals as goal

pub loop-i-init : goal.loop-i-init
loop-i-init c = record {
  most = omega arith;
  limit = grind (arith, common_steps);
  count = refl;
  room = refl;
  found = range_empty (mapped (entry_in c.args.mem.now) (length c.args.mem.now / 4096) c.args.root) (c.args.va / 4096);
  behind = λ k inside above. get_or-replicate 16 k 0 0 inside;
  below = λ k d inside. absurd (omega arith);
}

pub returns-in-None-clause-none : goal.returns-in-None-clause-none
returns-in-None-clause-none c =
    let a = c.args in
    let at : ℕ → Option ℕ = mapped (entry_in a.mem.now) (length a.mem.now / 4096) a.root in
    range_broken at (a.va / 4096) (a.size / 4096) c.loop-i.i (omega arith)
    (ap (λ i. at (a.va / 4096 + i)) (sym c.from.ensures) ∙ sym c.in-None.ensures.frame)

pub loop-i-preserved : goal.loop-i-preserved
loop-i-preserved c =
    let a = c.args in
    let at : ℕ → Option ℕ = mapped (entry_in a.mem.now) (length a.mem.now / 4096) a.root in
    let more = take_more_set c.loop-i.pages.frames c.loop-i.i c.in-Some.frame (omega arith) in
    record {
      most = omega arith;
      limit = c.loop-i.invariant.limit;
      count = c.loop-i.invariant.count;
      room = length-set c.loop-i.pages.frames c.loop-i.i c.in-Some.frame ∙ c.loop-i.invariant.room;
      found =
          range_more at (a.va / 4096) c.loop-i.i c.in-Some.frame _ c.loop-i.invariant.found
          (ap (λ i. at (a.va / 4096 + i)) (sym c.from.ensures) ∙ sym c.in-Some.ensures.frame)
          ∙ ap Some (sym more);
      behind = λ k inside above.
          get_or-set_other c.loop-i.pages.frames c.loop-i.i k c.in-Some.frame 0 (λ is. omega (arith, is, above))
          ∙ c.loop-i.invariant.behind k inside (omega (arith, above));
      below = subst (All (λ f. f < length a.mem.now / 4096)) (sym more)
          (all_more (length a.mem.now / 4096) (take c.loop-i.i c.loop-i.pages.frames) c.in-Some.frame c.loop-i.invariant.below c.in-Some.ensures.bound);
    }
