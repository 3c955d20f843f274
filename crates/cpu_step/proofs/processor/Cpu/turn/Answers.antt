use Rattle.std.proofs.Common.{false, Some, None, sym, ap, ◌∙◌}
use Rattle.cpu_step.specs.Processor.{Processor}
use Rattle.cpu_step.specs.Turns.{instructed, trapped}
use Rattle.cpu_step.specs.FramesTouched.{instruction_touched}
use Rattle.cpu_step.proofs.TouchedFrames.{touched_by_vector}
use Rattle.cpu_step.proofs.TurnLemmas.{turned_by_vector}
use Rattle.cpu_step.proofs.processor.Cpu.turn.Goals as goal

pub returns-in-Some-clause-turned : goal.returns-in-Some-clause-turned
returns-in-Some-clause-turned c =
    c.deliver.ensures.trapped
    ∙ ap (λ (p : Processor). trapped c.in-Some.vector None p c.args.mem.now) c.wake.ensures
    ∙ sym (turned_by_vector c.args.self.now c.args.mem.now (Some c.in-Some.vector)
    (sym c.deliverable.ensures.vector ∙ c.in-Some.is))

pub returns-in-None-clause-turned : goal.returns-in-None-clause-turned
returns-in-None-clause-turned c =
    c.instruct.ensures.instructed
    ∙ ap (λ (p : Processor). instructed (record p { shielded = false }) c.args.mem.now) c.self.view_is
    ∙ sym (turned_by_vector c.args.self.now c.args.mem.now None (sym c.deliverable.ensures.vector ∙ c.in-None.is))

pub returns-in-Some-clause-told : goal.returns-in-Some-clause-told
returns-in-Some-clause-told c =
    touched_by_vector c.args.self.now c.args.mem.now (Some c.in-Some.vector)
    (sym c.deliverable.ensures.vector ∙ c.in-Some.is)

pub returns-in-None-clause-told : goal.returns-in-None-clause-told
returns-in-None-clause-told c =
    c.instruct.ensures.told
    ∙ ap (λ (p : Processor). instruction_touched (record p { shielded = false }) c.args.mem.now) c.self.view_is
    ∙ touched_by_vector c.args.self.now c.args.mem.now None (sym c.deliverable.ensures.vector ∙ c.in-None.is)
