use Rattle.std.proofs.Common.{true, sym, ap, ◌∙◌}
use Rattle.cpu_step.specs.Processor.{Processor}
use Rattle.cpu_step.specs.Turns.{is_at_body}
use Rattle.cpu_step.proofs.TouchedFrames.{touched_at_body}
use Rattle.cpu_step.proofs.TurnLemmas.{instructed_at_body}
use Rattle.cpu_step.proofs.processor.Cpu.instruct.Goals as goal

pub returns-then-is_at_body-clause-instructed : goal.returns-then-is_at_body-clause-instructed
returns-then-is_at_body-clause-instructed c =
    c.refuse_body.ensures.refused
    ∙ sym (instructed_at_body c.args.self.now c.args.mem.now
    (ap (λ (p : Processor). is_at_body p.regs) (sym c.self.view_is) ∙ sym c.if-is_at_body.ensures))

pub returns-then-is_at_body-clause-told : goal.returns-then-is_at_body-clause-told
returns-then-is_at_body-clause-told c =
    touched_at_body c.args.self.now c.args.mem.now true
    (ap (λ (p : Processor). is_at_body p.regs) (sym c.self.view_is) ∙ sym c.if-is_at_body.ensures)
