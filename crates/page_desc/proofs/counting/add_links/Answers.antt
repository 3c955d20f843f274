use Rattle.std.proofs.Common.{◌≡◌, ◌==◌, ◌&&◌, ℕ, arith, ap, ◌∙◌}
use Rattle.phys_mem.specs.Memory.{entry_in}
use Rattle.page_desc.specs.FrameCounts.{is_link_to, count_if}
use Rattle.page_desc.proofs.Counts.{one_most}
use Rattle.page_desc.proofs.CountingSteps.{row_step}
use Rattle.page_desc.proofs.FieldPasses.{differs_none, differs_more, entry_left}
use Rattle.page_desc.proofs.Sums.{sum_start}
use Rattle.page_desc.proofs.counting.add_links.Goals as goal

pub loop-index-init : goal.loop-index-init
loop-index-init c = record {
  small = omega arith;
  room = λ other inside. c.requires.room other inside;
  each = λ other inside. omega (arith, sum_start (λ i. count_if (is_link_to other (entry_in c.args.mem.now c.args.frame i))));
  differs = differs_none c.args.count 8 c.args.mem.now;
}

pub loop-index-preserved : goal.loop-index-preserved
loop-index-preserved c =
    let entry : c.entry-value.result ≡ entry_in c.args.mem.now c.args.frame c.loop-index.index =
    c.entry-value.ensures
    ∙ entry_left c.args.count 8 c.args.mem.now c.loop-index.mem c.args.frame c.loop-index.index c.loop-index.invariant.differs c.requires.apart c.loop-index-test.true in
    let one : (other : ℕ) → count_if (c.is_present.result && c.frame.result == other) ≡ count_if (is_link_to other (entry_in c.args.mem.now c.args.frame c.loop-index.index)) =
    λ other. (λ j. count_if (c.is_present.ensures.value j && c.frame.ensures.value j == other)) ∙ ap (λ e. count_if (is_link_to other e)) entry in
    record {
      small = omega arith;
      room = λ other inside.
          omega (arith, c.loop-index.invariant.room other inside, c.raise.ensures.each other inside, one_most (c.is_present.result && c.frame.result == other));
      each = λ other inside.
          row_step _ _ _ _ c.loop-index.index (λ i. count_if (is_link_to other (entry_in c.args.mem.now c.args.frame i)))
          (c.loop-index.invariant.each other inside) (c.raise.ensures.each other inside) (one other);
      differs = differs_more c.args.count 8 c.args.mem.now c.loop-index.mem c.raise.new.mem c.loop-index.invariant.differs c.raise.ensures.differs;
    }
