use Rattle.std.proofs.Common.{ℕ, ◌∙◌}
use Rattle.exec_quick.specs.QuickForms.{next_address, went}
use Rattle.cpu_step.proofs.LongerCode.{DecodingFacts}
use Rattle.cpu_step.proofs.PageFetches.{PageFacts}
use Rattle.cpu_step.proofs.LineTurns.{left_on, one_on, went_cpl}
use Rattle.cpu_step.proofs.line_turns.line_turn.Goals as goal

pub returns-clause-made : goal.returns-clause-made
returns-clause-made c = λ quick.
    let next : ℕ = next_address c.args.at c.args.quick.now.size in
    let pages : PageFacts = record { held = c.access_law.ensures.held; found_again = c.access_law.ensures.found_again } in
    let decodings : DecodingFacts = record { right = c.decoding_law.ensures.right; only = c.decoding_law.ensures.only } in
    one_on c.args.control.now c.args.tlb.now pages decodings c.args.code.now c.args.line.now c.args.quick.now c.args.at c.args.regs.now c.args.mem.now c.args.window.now
    c.bytes_law.ensures c.requires.kept c.requires.code c.requires.form c.requires.here (c.make_at.ensures.quick quick) (c.make_at.ensures.supervisor quick)
    (went c.make_at.result next c.make_at.new.regs) c.make_at.new.mem c.make_at.new.window (c.make_at.ensures.made quick) c.make_at.ensures.code c.make_at.ensures.off c.make_at.ensures.length
    (went_cpl c.make_at.result next c.make_at.new.regs ∙ c.make_at.ensures.privilege) c.make_at.ensures.window

pub returns-clause-left : goal.returns-clause-left
returns-clause-left c = λ left.
    let both = c.make_at.ensures.left left in
    left_on c.args.control.now c.args.tlb.now c.args.at c.args.regs.now c.make_at.new.regs c.args.mem.now c.make_at.new.mem c.args.window.now c.make_at.new.window
    both.0 both.1 c.make_at.ensures.off c.make_at.ensures.window
