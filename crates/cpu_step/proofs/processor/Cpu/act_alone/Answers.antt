use Rattle.std.proofs.Common.{Ok, None, refl, sym, ap, ◌∙◌}
use Rattle.x86_regs.specs.declared.effects.Effect.{Effect}
use Rattle.cpu_step.specs.Processor.{Processor}
use Rattle.cpu_step.specs.Turns.{Turned, acted}
use Rattle.cpu_step.proofs.TouchedFrames.{touched_by_made, turned_outside}
use Rattle.cpu_step.proofs.TurnLemmas.{turned_by_act}
use Rattle.cpu_step.proofs.processor.Cpu.act_alone.Goals as goal

pub returns-in-Some-clause-instructed : goal.returns-in-Some-clause-instructed
returns-in-Some-clause-instructed c = λ made.
    let self : Processor = c.args.self.now in
    let it : Effect = record { regs = c.sole_act.new.self.regs; write = None; act = c.in-Some.act } in
    c.act.ensures.acted
    ∙ ap (λ (p : Processor). acted it.act (record it.regs { rip = p.regs.rip }) c.sole_act.new.self c.args.mem.now) c.self.view_is
    ∙ ap (λ (q : Processor). acted it.act (record q.regs { rip = self.regs.rip }) q c.args.mem.now) c.sole_act.ensures.rest
    ∙ sym (turned_by_act self c.args.mem.now it self.tlb c.requires.elsewhere c.in-Some.ensures.made c.in-Some.ensures.delivered)

pub returns-in-Some-clause-touched : goal.returns-in-Some-clause-touched
returns-in-Some-clause-touched c = λ made.
    turned_outside c.memory_law.ensures c.places_law.ensures c.in-Some.act None _ _ c.args.mem.now _ _ c.act.ensures.acted refl tt tt

pub returns-in-Some-clause-told : goal.returns-in-Some-clause-told
returns-in-Some-clause-told c = λ made.
    touched_by_made c.args.self.now c.args.mem.now (Ok (record { regs = c.sole_act.new.self.regs; write = None; act = c.in-Some.act })) c.args.self.now.tlb c.act.new.shown
    c.requires.elsewhere c.in-Some.ensures.made (ap (λ (t : Turned). t.stepped) (returns-in-Some-clause-instructed c made))
