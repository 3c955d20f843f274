use Rattle.std.proofs.Common.{◌≡◌, ◌+◌, ℕ, List, ap, arith, drop, sym, take, ◌∙◌}
use Rattle.std.specs.Prelude.{slice_index, slice_set}
use Rattle.std.proofs.lemmas.List.{drop_all, drop_more}
use Rattle.nk_bits.specs.declared.kind.Kind.{Kind}
use Rattle.nk_bits.specs.declared.kind.Kind.TheVariants.{Guarded}
use Rattle.page_desc.specs.DescriptorBytes.{kinds_in}
use Rattle.page_desc.specs.FrameDescriptors.{Descriptors}
use Rattle.region_book.specs.RegionCalls.{guarded}
use Rattle.region_book.proofs.GuardedKinds.{differs_twice, guarded_more, guarded_none}
use Rattle.region_book.proofs.pages.guard.Goals as goal

pub loop-frame-preserved : goal.loop-frame-preserved
loop-frame-preserved c =
    let list : List ℕ = c.list-list.result.now in
    let index : ℕ = c.loop-frame.frame-index in
    let kinds : List Kind = kinds_in c.loop-frame.mem in
    let now : kinds_in c.set_kind.new.mem ≡ slice_set kinds (slice_index list index) Guarded =
    ap (λ (d : Descriptors). d.kinds) c.set_kind.ensures.set ∙ ap (λ f. slice_set kinds f Guarded) c.from.ensures in
    record {
      left = c.loop-frame.invariant.left ∙ ap (guarded kinds) (drop_more list index 0 c.loop-frame-test.true)
          ∙ guarded_more kinds (slice_index list index) (drop (index + 1) list)
          ∙ ap (λ ks. guarded ks (drop (index + 1) list)) (sym now);
      loose = ap (λ (d : Descriptors). d.loose) c.set_kind.ensures.set ∙ c.loop-frame.invariant.loose;
      links = ap (λ (d : Descriptors). d.links) c.set_kind.ensures.set ∙ c.loop-frame.invariant.links;
      stays = c.set_kind.ensures.stays ∙ c.loop-frame.invariant.stays;
      held = c.set_kind.ensures.held;
      elsewhere = differs_twice c.args.mem.now c.loop-frame.mem c.set_kind.new.mem c.loop-frame.invariant.elsewhere
          c.set_kind.ensures.elsewhere;
    }

pub returns-clause-guarded : goal.returns-clause-guarded
returns-clause-guarded c =
    let was : List Kind = kinds_in c.args.mem.now in
    let kinds : List Kind = kinds_in c.loop-frame.mem in
    let done : kinds ≡ guarded was (take c.args.pages.now.count c.args.pages.now.frames) =
    sym (c.loop-frame.invariant.left
    ∙ ap (guarded kinds) (drop_all c.loop-frame.frame-index c.list-list.result.now (omega arith)) ∙ guarded_none kinds)
    ∙ ap (guarded was) c.list-list.ensures in
    λ i. record { kinds = done i; loose = c.loop-frame.invariant.loose i; links = c.loop-frame.invariant.links i }
