use Rattle.std.proofs.Common.{ap, ◌∙◌, ◌++◌, ℕ}
use Rattle.x86_regs.specs.declared.registers.Regs.{Regs}
use Rattle.step_trace.specs.StepLines.{size_by}
use Rattle.step_trace.specs.ToldSteps.{kept_lists, was_before}
use Rattle.step_trace.proofs.StepParts.{rip_part, step_text}
use Rattle.step_trace.proofs.ToldChanges.{step_told}
use Rattle.step_trace.proofs.line.put_step.Goals as goal

pub returns-clause-text : goal.returns-clause-text
returns-clause-text c p m it copy =
    step_text _ c.args.step.now p c.args.cpu.now m c.args.mem.now c.args.before.now.regs c.args.before.now.control _ _ _ _ _ _ _ _ _
    it.regs it.control it.kept it.halted c.requires.kept copy.size
    c.in_ok-size.ensures.text
    (c.in_ok-put_rip.ensures
    ∙ ap (λ (size : ℕ). c.put_was.new.line.items ++ rip_part size c.args.before.now.regs c.regs.result.now) c.in_ok-size.ensures.size
    ∙ ap (λ (regs : Regs). c.put_was.new.line.items ++ rip_part (size_by (was_before c.args.before.now c.args.step.now c.args.event)) c.args.before.now.regs regs) c.regs.ensures)
    (c.in_ok-told.ensures.text m copy)
    c.in_ok-put_text.ensures

pub returns-clause-told : goal.returns-clause-told
returns-clause-told c p m it copy =
    step_told _ _ c.args.step.now p c.args.cpu.now m c.args.mem.now c.args.before.now.regs
    c.args.before.now.control (kept_lists c.args.before.now.kept) (kept_lists c.args.after.now)
    c.args.before.now.halted c.put_rip.new.line.items c.put_changes.new.line.items
    it.regs it.control it.kept it.halted c.requires.kept copy.size
    (c.in_ok-told.ensures.stored m copy) c.in_ok-told.ensures.more (c.in_ok-told.ensures.text m copy)
