use Rattle.std.proofs.Common.{◌≡◌, true, false, arith, sym, ap, ◌∙◌}
use Rattle.nk_bits.specs.declared.kind.Kind.{Kind}
use Rattle.nk_bits.specs.Kinds.{level_of}
use Rattle.phys_mem.specs.Memory.{entry_in}
use Rattle.page_desc.specs.FrameCounts.{holds_links, is_link_level, is_link_to}
use Rattle.page_desc.proofs.CountingSteps.{row_counted, row_passed}
use Rattle.page_desc.proofs.counting.count_links_in.Goals as goal

pub returns-then-is_link_level-clause-each : goal.returns-then-is_link_level-clause-each
unfolding holds_links
returns-then-is_link_level-clause-each c =
    let holds : holds_links c.args.kinds.now c.args.frame ≡ true =
    ap (λ (k : Kind). is_link_level (level_of k)) (sym c.kind_at.ensures) ∙ ap is_link_level (sym c.level.ensures)
    ∙ sym c.is_link_level.ensures ∙ c.if-is_link_level.true in
    λ other inside.
    omega (arith, c.add_links.ensures.each other inside, row_counted 512 (holds_links c.args.kinds.now c.args.frame) (λ i. is_link_to other (entry_in c.args.mem.now c.args.frame i)) holds)

pub returns-else-is_link_level-clause-each : goal.returns-else-is_link_level-clause-each
unfolding holds_links
returns-else-is_link_level-clause-each c =
    let holds : holds_links c.args.kinds.now c.args.frame ≡ false =
    ap (λ (k : Kind). is_link_level (level_of k)) (sym c.kind_at.ensures) ∙ ap is_link_level (sym c.level.ensures)
    ∙ sym c.is_link_level.ensures ∙ c.if-is_link_level.false in
    λ other inside.
    omega (arith, row_passed 512 (holds_links c.args.kinds.now c.args.frame) (λ i. is_link_to other (entry_in c.args.mem.now c.args.frame i)) holds)
