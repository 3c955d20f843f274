use Rattle.std.proofs.Common.{◌+◌, ap, ◌∙◌}
use Rattle.gate_state.specs.MachineStates.{MachineState, Opening}
use Rattle.gate_state.specs.MachineSteps.{after_event}
use Rattle.gate_state.specs.WholeMachine.{HeldState}
use Rattle.gate_state.proofs.WholeLemmas.{event_whole, masked_is, sound_is, state_by}
use Rattle.gate_state.proofs.whole.Whole.take.Goals as goal

pub take_event-requires-clause-sound : goal.take_event-requires-clause-sound
take_event-requires-clause-sound c =
    let o : Opening = record { image = c.self.inside.image.now; frames = c.self.inside.layout.now.frames } in
    let s : MachineState = state_by c.self.inside.cpu c.self.inside.mem c.self.inside.kernel c.self.inside.turns c.self.inside.taken in
    sound_is c.mask_law.ensures.length o s c.self.inside.kernel c.self.inside.mem c.self.invariant.0 c.self.inside.cpu
    (c.steps_law.ensures.sound o s c.self.invariant.0.admitted c.self.invariant.0.guarded)

pub invariant_of-self : goal.invariant_of-self
invariant_of-self c =
    let o : Opening = record { image = c.self.inside.image.now; frames = c.self.inside.layout.now.frames } in
    let s : MachineState = state_by c.self.inside.cpu c.self.inside.mem c.self.inside.kernel c.self.inside.turns c.self.inside.taken in
    let seen_alike = c.steps_law.ensures.masked_event o s c.self.inside.mem c.args.what c.self.invariant.0.admitted c.self.invariant.0.guarded
    (masked_is c.mask_law.ensures.length o s c.self.inside.kernel c.self.inside.mem c.self.invariant.0) in (
      event_whole o s c.self.inside.kernel c.self.inside.mem c.args.what c.take_event.new.self c.self.invariant.0
          (c.steps_law.ensures.event o s c.args.what c.self.invariant.0.admitted c.requires.what c.self.invariant.0.guarded)
          (c.take_event.ensures.taken ∙ seen_alike),
      c.self.invariant.1,
    )

pub returns-clause-taken : goal.returns-clause-taken
returns-clause-taken c =
    let o : Opening = record { image = c.self.inside.image.now; frames = c.self.inside.layout.now.frames } in
    let s : MachineState = state_by c.self.inside.cpu c.self.inside.mem c.self.inside.kernel c.self.inside.turns c.self.inside.taken in
    let seen_alike = c.steps_law.ensures.masked_event o s c.self.inside.mem c.args.what c.self.invariant.0.admitted c.self.invariant.0.guarded
    (masked_is c.mask_law.ensures.length o s c.self.inside.kernel c.self.inside.mem c.self.invariant.0) in
    ap (λ p. record { opening = o; state = record s { processor = p; taken = s.taken + 1 }; source = c.self.inside.source.items; real = c.self.inside.mem }) (c.take_event.ensures.taken ∙ seen_alike)
    ∙ ap (λ (w : HeldState). record w { state = after_event c.args.what w.state }) c.self.view_is
