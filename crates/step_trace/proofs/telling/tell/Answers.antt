use Rattle.std.proofs.Common.{◌≡◌, List, [], refl, sym, subst}
use Rattle.std.specs.Prelude.{⊤, if◌then◌else◌}
use Rattle.irq_plan.specs.declared.event.Event.{Event}
use Rattle.gate_state.specs.MachineOf.{real_of}
use Rattle.gate_state.specs.MachineSteps.{move_of, step_by}
use Rattle.gate_state.specs.WholeMachine.{HeldState}
use Rattle.step_trace.specs.declared.kept.Kept.{Kept}
use Rattle.step_trace.specs.CopiesOfMemory.{IsCopyFor}
use Rattle.step_trace.specs.RestsOfTraces.{head_text, held_of, step_shown}
use Rattle.step_trace.specs.ToldSteps.{IsHere}
use Rattle.step_trace.proofs.LineTexts.{shown_put}
use Rattle.step_trace.proofs.TakenTexts.{none_cut, part_taken, whole_taken}
use Rattle.step_trace.proofs.telling.tell.Given.{Over}
use Rattle.step_trace.proofs.telling.tell.Goals.{After-put_wanted}
use Rattle.step_trace.proofs.telling.tell.Goals as goal

-- the text that was to be put
text_put : (g : Over) (c : After-put_wanted g) (plan : List Event) (h : HeldState) → IsHere c.args.here.now plan h
    → IsCopyFor c.args.touched c.args.copy.now h.real (real_of c.args.next.now) → c.args.step.now ≡ step_by (move_of plan h.state) h.state
    → c.args.line.now.items ≡ head_text h.state.turns h.state.processor
    → (if c.is_wanted-wanted.result then c.deref.result.now else [])
    ≡ step_shown c.args.shown.now plan h (held_of c.args.next.now)
text_put g c plan h is it same head =
    let copy : IsCopyFor c.args.touched c.args.copy.now h.real c.memory.result.now =
    subst (IsCopyFor c.args.touched c.args.copy.now h.real) (sym c.memory.ensures.real) it in
    shown_put c.args.here.now plan h (held_of c.args.next.now) c.args.step.now c.processor-cpu.result.now
    h.real c.memory.result.now is same refl c.processor-cpu.ensures.processor c.memory.ensures.real
    c.in-Ok-put_step.told c.args.shown.now c.is_wanted-wanted.result c.args.line.now.items c.put_step.new.line.items
    c.deref.result.now head (λ p before. c.in-Ok-put_step.ensures.text p h.real before copy)
    (λ p before. c.in-Ok-put_step.ensures.told p h.real before copy) c.is_wanted-wanted.ensures
    c.deref.ensures.value

pub returns-in_default-clause-told : goal.returns-in_default-clause-told
returns-in_default-clause-told g c plan h is it same head =
    none_cut g.O.Sink.taken g.O.Sink.faults _ c.args.sink.now
    (step_shown c.args.shown.now plan h (held_of c.args.next.now))

pub returns-in_default-put_step-clause-told : goal.returns-in_default-put_step-clause-told
returns-in_default-put_step-clause-told g c plan h is it same head =
    none_cut g.O.Sink.taken g.O.Sink.faults _ c.args.sink.now
    (step_shown c.args.shown.now plan h (held_of c.args.next.now))

pub returns-in-Err-clause-told : goal.returns-in-Err-clause-told
returns-in-Err-clause-told g c plan h is it same head =
    part_taken g.O.Sink.taken g.O.Sink.faults ⊤ Kept c.in-Err.fault c.args.sink.now c.put_wanted.new.sink _
    (step_shown c.args.shown.now plan h (held_of c.args.next.now))
    (text_put g (goal.at.returns-in-Err-clause-told g c).After-put_wanted plan h is it same head) c.in-Err.ensures

pub returns-clause-told : goal.returns-clause-told
returns-clause-told g c plan h is it same head =
    whole_taken g.O.Sink.taken g.O.Sink.faults c.in_default-put_wanted.field-0 c.in-Ok.kept c.args.sink.now
    c.put_wanted.new.sink _ (step_shown c.args.shown.now plan h (held_of c.args.next.now))
    (text_put g (goal.at.returns-clause-told g c).After-put_wanted plan h is it same head)
    c.in_default-put_wanted.ensures
