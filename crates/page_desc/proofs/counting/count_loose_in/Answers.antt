use Rattle.std.proofs.Common.{◌≡◌, ◌||◌, ◌==◌, true, false, arith, sym, ap, ◌∙◌}
use Rattle.std.specs.Prelude.{nat_lt}
use Rattle.nk_bits.specs.declared.kind.Kind.{Kind}
use Rattle.nk_bits.specs.Kinds.{level_of}
use Rattle.phys_mem.specs.MaskedMemory.{is_book_frame}
use Rattle.phys_mem.specs.Memory.{entry_in}
use Rattle.page_desc.specs.FrameCounts.{holds_leaves, is_loose_leaf}
use Rattle.page_desc.proofs.CountingSteps.{leaves_by_mark, row_counted, row_passed}
use Rattle.page_desc.proofs.FieldPasses.{table_seen}
use Rattle.page_desc.proofs.MemoryCounts.{leaves_may}
use Rattle.page_desc.proofs.counting.count_loose_in.Goals as goal

pub add_leaves-requires-clause-apart : goal.add_leaves-requires-clause-apart
add_leaves-requires-clause-apart c =
    let holds : holds_leaves c.args.kinds.now (entry_in c.args.mem.now) c.args.frame ≡ true =
    sym (leaves_by_mark c.args.kinds.now (entry_in c.args.mem.now) c.args.frame c.field-mark.result (c.field-mark.ensures ∙ c.requires.marked))
    ∙ ap (λ (k : Kind). level_of k == 1 || (c.args.frame == 8 || nat_lt 0 c.field-mark.result)) (sym c.kind_at.ensures)
    ∙ sym c.holds_leaves.ensures ∙ c.if-holds_leaves.true in
    ap (λ k. is_book_frame k c.args.frame) c.requires.count
    ∙ table_seen c.args.kinds.now c.args.mem.now c.args.frame c.requires.readable
    (leaves_may c.args.kinds.now (entry_in c.args.mem.now) c.args.frame c.requires.readable.slot holds)

pub returns-then-holds_leaves-clause-each : goal.returns-then-holds_leaves-clause-each
returns-then-holds_leaves-clause-each c =
    let holds : holds_leaves c.args.kinds.now (entry_in c.args.mem.now) c.args.frame ≡ true =
    sym (leaves_by_mark c.args.kinds.now (entry_in c.args.mem.now) c.args.frame c.field-mark.result (c.field-mark.ensures ∙ c.requires.marked))
    ∙ ap (λ (k : Kind). level_of k == 1 || (c.args.frame == 8 || nat_lt 0 c.field-mark.result)) (sym c.kind_at.ensures)
    ∙ sym c.holds_leaves.ensures ∙ c.if-holds_leaves.true in
    λ other inside.
    omega (arith, c.add_leaves.ensures.each other inside, row_counted 512 (holds_leaves c.args.kinds.now (entry_in c.args.mem.now) c.args.frame) (λ i. is_loose_leaf other (entry_in c.args.mem.now c.args.frame i)) holds)

pub returns-else-holds_leaves-clause-each : goal.returns-else-holds_leaves-clause-each
returns-else-holds_leaves-clause-each c =
    let holds : holds_leaves c.args.kinds.now (entry_in c.args.mem.now) c.args.frame ≡ false =
    sym (leaves_by_mark c.args.kinds.now (entry_in c.args.mem.now) c.args.frame c.field-mark.result (c.field-mark.ensures ∙ c.requires.marked))
    ∙ ap (λ (k : Kind). level_of k == 1 || (c.args.frame == 8 || nat_lt 0 c.field-mark.result)) (sym c.kind_at.ensures)
    ∙ sym c.holds_leaves.ensures ∙ c.if-holds_leaves.false in
    λ other inside.
    omega (arith, row_passed 512 (holds_leaves c.args.kinds.now (entry_in c.args.mem.now) c.args.frame) (λ i. is_loose_leaf other (entry_in c.args.mem.now c.args.frame i)) holds)
