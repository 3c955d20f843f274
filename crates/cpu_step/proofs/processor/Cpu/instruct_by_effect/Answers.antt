use Rattle.std.proofs.Common.{◌≡◌, Result, Ok, Err, IfOk, false, subst, refl, sym, ap, ◌∙◌}
use Rattle.nk_bits.specs.Outcomes.{outcome_of}
use Rattle.x86_regs.specs.declared.effects.Effect.{Effect}
use Rattle.x86_regs.specs.declared.faults.Fault.{Fault}
use Rattle.x86_regs.specs.Effects.{LeavesToDelivery, memory_after}
use Rattle.cpu_step.specs.Processor.{Processor}
use Rattle.cpu_step.specs.Turns.{Turned, acted, is_at_body, fault_raised}
use Rattle.cpu_step.proofs.TouchedFrames.{touched_by_made}
use Rattle.cpu_step.proofs.TurnLemmas.{turned_by_act, turned_by_fault}
use Rattle.cpu_step.proofs.processor.Cpu.instruct_by_effect.Goals as goal

pub returns-in-Ok-clause-instructed : goal.returns-in-Ok-clause-instructed
returns-in-Ok-clause-instructed c =
    let self = c.args.self.now in
    let effect : Effect = c.in-Ok.effect in
    let after = memory_after effect.write c.args.mem.now in
    let at : is_at_body self.regs ≡ false = c.requires.elsewhere in
    c.finish.ensures.acted
    ∙ ap (λ (q : Processor). acted effect.act (record effect.regs { rip = q.regs.rip }) (record q { regs = effect.regs }) after) c.make.ensures.rest
    ∙ sym (turned_by_act self c.args.mem.now effect c.make.new.self.tlb at
    (ap (λ (it : Result Effect Fault). outcome_of it c.make.new.self.tlb) (sym c.in-Ok.is) ∙ c.make.ensures.outcome)
    (subst (λ (it : Result Effect Fault). IfOk it (LeavesToDelivery self.regs)) c.in-Ok.is c.make.ensures.delivered))

pub returns-in-Err-clause-instructed : goal.returns-in-Err-clause-instructed
returns-in-Err-clause-instructed c =
    let self = c.args.self.now in
    let at : is_at_body self.regs ≡ false = c.requires.elsewhere in
    c.raise.ensures.raised
    ∙ ap (λ (q : Processor). fault_raised c.in-Err.fault q c.args.mem.now) c.make.ensures.rest
    ∙ sym (turned_by_fault self c.args.mem.now c.in-Err.fault c.make.new.self.tlb at
    (ap (λ (it : Result Effect Fault). outcome_of it c.make.new.self.tlb) (sym c.in-Err.is) ∙ c.make.ensures.outcome))

pub returns-in-Ok-clause-told : goal.returns-in-Ok-clause-told
returns-in-Ok-clause-told c =
    let at : is_at_body c.args.self.now.regs ≡ false = c.requires.elsewhere in
    c.touched_by.ensures
    ∙ touched_by_made c.args.self.now c.args.mem.now (Ok c.in-Ok.effect) c.make.new.self.tlb c.finish.new.shown at
    (ap (λ (it : Result Effect Fault). outcome_of it c.make.new.self.tlb) (sym c.in-Ok.is) ∙ c.make.ensures.outcome)
    (ap (λ (t : Turned). t.stepped) (returns-in-Ok-clause-instructed c))

pub returns-in-Err-clause-told : goal.returns-in-Err-clause-told
returns-in-Err-clause-told c =
    let at : is_at_body c.args.self.now.regs ≡ false = c.requires.elsewhere in
    touched_by_made c.args.self.now c.args.mem.now (Err c.in-Err.fault) c.make.new.self.tlb _ at
    (ap (λ (it : Result Effect Fault). outcome_of it c.make.new.self.tlb) (sym c.in-Err.is) ∙ c.make.ensures.outcome)
    refl
