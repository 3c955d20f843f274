use Rattle.std.proofs.Common.{◌≡◌, ℕ, List, refl, sym, ap, subst, ◌∙◌}
use Rattle.nk_body.specs.NestedRecord.{books_in}
use Rattle.gate_state.specs.MachineStates.{MachineState, Opening}
use Rattle.gate_state.specs.MachineSteps.{after_turn, shown_by_turn, turn_of}
use Rattle.gate_state.specs.SafeStates.{TakesTurn}
use Rattle.gate_state.specs.StepsTouched.{KeepsOutside, ShowsWithin, of_turn}
use Rattle.gate_state.specs.WholeMachine.{HeldState}
use Rattle.gate_state.specs.declared.seen.Seen.{Seen}
use Rattle.gate_state.specs.declared.seen.Step.TheVariants as step
use Rattle.gate_state.specs.declared.touched.StepTouched.{StepTouched}
use Rattle.gate_state.specs.declared.touched.StepTouched.TheVariants.{Frames}
use Rattle.phys_mem.specs.Memory.{byte_at}
use Rattle.cpu_step.specs.FramesTouched.{turn_touched}
use Rattle.cpu_step.specs.Turns.{Turned, turned}
use Rattle.gate_state.proofs.ShownTouches.{turn_within}
use Rattle.gate_state.proofs.TurnTouches.{kept_outside}
use Rattle.gate_state.proofs.WholeLemmas.{masked_is, shown_is, sound_is, state_by, turn_is, turn_whole}
use Rattle.gate_state.proofs.whole.Whole.turn.Goals as goal

pub step_touching-stepped-requires-clause-sound : goal.step_touching-stepped-requires-clause-sound
step_touching-stepped-requires-clause-sound c =
    let o : Opening = record { image = c.self.inside.image.now; frames = c.self.inside.layout.now.frames } in
    let s : MachineState = state_by c.self.inside.cpu c.self.inside.mem c.self.inside.kernel c.self.inside.turns c.self.inside.taken in
    sound_is c.mask_law.ensures.length o s c.self.inside.kernel c.self.inside.mem c.self.invariant.0 c.self.inside.cpu
    (c.steps_law.ensures.sound o s c.self.invariant.0.admitted c.self.invariant.0.guarded)

pub invariant_of-self : goal.invariant_of-self
invariant_of-self c =
    let o : Opening = record { image = c.self.inside.image.now; frames = c.self.inside.layout.now.frames } in
    let s : MachineState = state_by c.self.inside.cpu c.self.inside.mem c.self.inside.kernel c.self.inside.turns c.self.inside.taken in
    let takes : TakesTurn s.processor = subst (λ (w : HeldState). TakesTurn w.state.processor) (sym c.self.view_is) c.requires.takes in
    let masked = masked_is c.mask_law.ensures.length o s c.self.inside.kernel c.self.inside.mem c.self.invariant.0 in (
      turn_whole c.mask_law.ensures.length o c.self.inside.cpu c.self.inside.mem c.self.inside.kernel c.self.inside.turns c.self.inside.taken
          c.self.invariant.0 c.step_touching-stepped.new.self c.step_touching-stepped.new.mem c.step_touching-stepped.result.0 c.step_touching-stepped.ensures.turned
          (c.steps_law.ensures.masked_turn o s c.self.inside.mem c.self.invariant.0.admitted takes c.self.invariant.0.guarded masked)
          (c.steps_law.ensures.turn o s c.self.invariant.0.admitted takes c.self.invariant.0.guarded)
          (λ place. c.steps_law.ensures.masked_stays o s c.self.inside.mem place c.self.invariant.0.admitted takes c.self.invariant.0.guarded masked)
          (c.steps_law.ensures.books o s (books_in c.self.inside.kernel c.self.inside.mem) c.self.invariant.0.admitted takes c.self.invariant.0.guarded refl c.self.invariant.0.kept.books)
          c.held_law.ensures.stays
          (c.steps_law.ensures.stays o s c.self.invariant.0.admitted takes c.self.invariant.0.guarded),
      c.self.invariant.1,
    )

pub returns-clause-turned : goal.returns-clause-turned
returns-clause-turned c =
    let o : Opening = record { image = c.self.inside.image.now; frames = c.self.inside.layout.now.frames } in
    let s : MachineState = state_by c.self.inside.cpu c.self.inside.mem c.self.inside.kernel c.self.inside.turns c.self.inside.taken in
    let takes : TakesTurn s.processor = subst (λ (w : HeldState). TakesTurn w.state.processor) (sym c.self.view_is) c.requires.takes in
    let masked = masked_is c.mask_law.ensures.length o s c.self.inside.kernel c.self.inside.mem c.self.invariant.0 in
    let turned_is = turn_is c.mask_law.ensures.length o c.self.inside.cpu c.self.inside.mem c.self.inside.kernel c.self.inside.turns c.self.inside.taken
    c.self.invariant.0 c.step_touching-stepped.new.self c.step_touching-stepped.new.mem c.step_touching-stepped.result.0 c.step_touching-stepped.ensures.turned
    (c.steps_law.ensures.masked_turn o s c.self.inside.mem c.self.invariant.0.admitted takes c.self.invariant.0.guarded masked)
    (c.steps_law.ensures.turn o s c.self.invariant.0.admitted takes c.self.invariant.0.guarded)
    (λ place. c.steps_law.ensures.masked_stays o s c.self.inside.mem place c.self.invariant.0.admitted takes c.self.invariant.0.guarded masked)
    (c.steps_law.ensures.books o s (books_in c.self.inside.kernel c.self.inside.mem) c.self.invariant.0.admitted takes c.self.invariant.0.guarded refl c.self.invariant.0.kept.books)
    c.held_law.ensures.stays in
    ap (λ (t : MachineState). record { opening = o; state = t; source = c.self.inside.source.items }) turned_is
    ∙ ap (λ (w : HeldState). record { opening = w.opening; state = after_turn w.state; source = w.source }) c.self.view_is

pub returns-clause-seen : goal.returns-clause-seen
returns-clause-seen c =
    let o : Opening = record { image = c.self.inside.image.now; frames = c.self.inside.layout.now.frames } in
    let s : MachineState = state_by c.self.inside.cpu c.self.inside.mem c.self.inside.kernel c.self.inside.turns c.self.inside.taken in
    let takes : TakesTurn s.processor = subst (λ (w : HeldState). TakesTurn w.state.processor) (sym c.self.view_is) c.requires.takes in
    let masked = masked_is c.mask_law.ensures.length o s c.self.inside.kernel c.self.inside.mem c.self.invariant.0 in
    let stepped_is = shown_is c.mask_law.ensures.length o c.self.inside.cpu c.self.inside.mem c.self.inside.kernel c.self.inside.turns c.self.inside.taken
    c.self.invariant.0 c.step_touching-stepped.new.self c.step_touching-stepped.new.mem c.step_touching-stepped.result.0 c.step_touching-stepped.ensures.turned
    (c.steps_law.ensures.masked_turn o s c.self.inside.mem c.self.invariant.0.admitted takes c.self.invariant.0.guarded masked)
    (c.steps_law.ensures.turn o s c.self.invariant.0.admitted takes c.self.invariant.0.guarded)
    (λ place. c.steps_law.ensures.masked_stays o s c.self.inside.mem place c.self.invariant.0.admitted takes c.self.invariant.0.guarded masked)
    (c.steps_law.ensures.books o s (books_in c.self.inside.kernel c.self.inside.mem) c.self.invariant.0.admitted takes c.self.invariant.0.guarded refl c.self.invariant.0.kept.books)
    c.held_law.ensures.stays in
    c.seen_of.ensures ∙ ap shown_by_turn stepped_is ∙ ap (λ (w : HeldState). shown_by_turn (turn_of w.state).stepped) c.self.view_is

pub returns-clause-touched : goal.returns-clause-touched
returns-clause-touched c =
    let o : Opening = record { image = c.self.inside.image.now; frames = c.self.inside.layout.now.frames } in
    let s : MachineState = state_by c.self.inside.cpu c.self.inside.mem c.self.inside.kernel c.self.inside.turns c.self.inside.taken in
    let takes : TakesTurn s.processor = subst (λ (w : HeldState). TakesTurn w.state.processor) (sym c.self.view_is) c.requires.takes in
    let masked = masked_is c.mask_law.ensures.length o s c.self.inside.kernel c.self.inside.mem c.self.invariant.0 in
    let after_is : c.step_touching-stepped.new.mem ≡ (turned s.processor c.self.inside.mem).memory = ap (λ (t : Turned). t.memory) c.step_touching-stepped.ensures.turned in
    let kept : KeepsOutside (of_turn c.step_touching-stepped.result.1) c.self.inside.mem c.step_touching-stepped.new.mem =
    kept_outside c.step_touching-stepped.result.1 c.self.inside.mem c.step_touching-stepped.new.mem c.step_touching-stepped.ensures.touched
    (λ any p apart. ap (λ (x : List ℕ). byte_at x p) after_is
    ∙ c.steps_law.ensures.trapped o s c.self.inside.mem p c.self.invariant.0.admitted takes c.self.invariant.0.guarded masked
    (sym c.step_touching-stepped.ensures.told ∙ any) apart) in
    subst (λ (h : HeldState). KeepsOutside c.of_turn.result h.real c.step_touching-stepped.new.mem) c.self.view_is
    (subst (λ (t : StepTouched). KeepsOutside t c.self.inside.mem c.step_touching-stepped.new.mem) (sym c.of_turn.ensures) kept)

pub returns-clause-told : goal.returns-clause-told
returns-clause-told c =
    c.of_turn.ensures ∙ ap of_turn c.step_touching-stepped.ensures.told
    ∙ ap (λ (h : HeldState). of_turn (turn_touched h.state.processor h.real)) c.self.view_is

pub returns-clause-shown : goal.returns-clause-shown
returns-clause-shown c =
    let stepped_is : c.step_touching-stepped.result.0 ≡ (turned c.self.inside.cpu c.self.inside.mem).stepped =
    ap (λ (t : Turned). t.stepped) c.step_touching-stepped.ensures.turned in
    let seen_is : c.seen_of.result ≡ shown_by_turn (turned c.self.inside.cpu c.self.inside.mem).stepped = c.seen_of.ensures ∙ ap shown_by_turn stepped_is in
    let touched_is : c.of_turn.result ≡ of_turn (turn_touched c.self.inside.cpu c.self.inside.mem) =
    c.of_turn.ensures ∙ ap of_turn c.step_touching-stepped.ensures.told in
    subst (λ (it : Seen). ShowsWithin (step.Seen it) c.of_turn.result (Frames 3 3)) (sym seen_is)
    (subst (λ (it : StepTouched). ShowsWithin (step.Seen (shown_by_turn (turned c.self.inside.cpu c.self.inside.mem).stepped)) it (Frames 3 3)) (sym touched_is)
    (turn_within c.self.inside.cpu c.self.inside.mem))
