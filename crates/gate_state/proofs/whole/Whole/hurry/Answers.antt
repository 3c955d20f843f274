use Rattle.std.proofs.Common.{◌+◌, ◌≤◌, ap, arith}
use Rattle.gate_state.specs.MachineStates.{MachineState, Opening}
use Rattle.gate_state.specs.WholeMachine.{known_of}
use Rattle.gate_state.proofs.QuietTurns.{TurnLaws, control_then, hurried_then, nearer_then, whole_then}
use Rattle.gate_state.proofs.WholeLemmas.{sound_is, state_by}
use Rattle.gate_state.proofs.whole.Whole.hurry.Goals as goal

pub quick_turns-requires : goal.quick_turns-requires
quick_turns-requires c =
    let o : Opening = record { image = c.self.inside.image.now; frames = c.self.inside.layout.now.frames } in
    let s : MachineState = state_by c.self.inside.cpu c.self.inside.mem c.self.inside.kernel c.self.inside.turns c.self.inside.taken in
    record {
      sound = sound_is c.mask_law.ensures.length o s c.self.inside.kernel c.self.inside.mem c.self.invariant.0 c.self.inside.cpu
          (c.steps_law.ensures.sound o s c.self.invariant.0.admitted c.self.invariant.0.guarded);
    }

pub invariant_of-self : goal.invariant_of-self
invariant_of-self c =
    let o : Opening = record { image = c.self.inside.image.now; frames = c.self.inside.layout.now.frames } in
    let laws : TurnLaws o = record {
      turn = c.steps_law.ensures.turn o;
      stays = c.steps_law.ensures.stays o;
      books = c.steps_law.ensures.books o;
      safe = c.steps_law.ensures.safe o;
      nearer = c.window_law.ensures.turn o;
      masked_turn = c.steps_law.ensures.masked_turn o;
      masked_stays = c.steps_law.ensures.masked_stays o;
      keep = c.mask_law.ensures.length;
      held = c.held_law.ensures.stays;
    } in
    let most : c.self.inside.turns + c.quick_turns.result ≤ c.until-until.result =
    omega (arith, c.quick_turns.ensures.most, c.if-self-until.true) in (
      whole_then o laws c.self.inside.kernel c.args.plan.now c.self.inside.taken (known_of c.args.self.now) c.quick_turns.result c.args.limit
          c.until-until.result c.self.inside.cpu c.self.inside.mem c.self.inside.turns c.quick_turns.new.self c.quick_turns.new.mem
          c.self.inside.source.items (ap known_of c.self.view_is) c.self.invariant.0 c.until-until.ensures.event most c.until-until.ensures.limit
          c.quick_turns.ensures.turns,
      c.self.invariant.1,
    )

pub returns-then-self-until-clause-hurried : goal.returns-then-self-until-clause-hurried
returns-then-self-until-clause-hurried c =
    let o : Opening = record { image = c.self.inside.image.now; frames = c.self.inside.layout.now.frames } in
    let laws : TurnLaws o = record {
      turn = c.steps_law.ensures.turn o;
      stays = c.steps_law.ensures.stays o;
      books = c.steps_law.ensures.books o;
      safe = c.steps_law.ensures.safe o;
      nearer = c.window_law.ensures.turn o;
      masked_turn = c.steps_law.ensures.masked_turn o;
      masked_stays = c.steps_law.ensures.masked_stays o;
      keep = c.mask_law.ensures.length;
      held = c.held_law.ensures.stays;
    } in
    let most : c.self.inside.turns + c.quick_turns.result ≤ c.until-until.result =
    omega (arith, c.quick_turns.ensures.most, c.if-self-until.true) in
    hurried_then o laws c.self.inside.kernel c.args.plan.now c.self.inside.taken (known_of c.args.self.now) c.quick_turns.result c.args.limit
    c.until-until.result c.self.inside.cpu c.self.inside.mem c.self.inside.turns c.quick_turns.new.self c.quick_turns.new.mem
    c.self.inside.source.items (ap known_of c.self.view_is) c.self.invariant.0 c.until-until.ensures.event most c.until-until.ensures.limit
    c.quick_turns.ensures.turns

pub returns-then-self-until-clause-control : goal.returns-then-self-until-clause-control
returns-then-self-until-clause-control c =
    let o : Opening = record { image = c.self.inside.image.now; frames = c.self.inside.layout.now.frames } in
    let laws : TurnLaws o = record {
      turn = c.steps_law.ensures.turn o;
      stays = c.steps_law.ensures.stays o;
      books = c.steps_law.ensures.books o;
      safe = c.steps_law.ensures.safe o;
      nearer = c.window_law.ensures.turn o;
      masked_turn = c.steps_law.ensures.masked_turn o;
      masked_stays = c.steps_law.ensures.masked_stays o;
      keep = c.mask_law.ensures.length;
      held = c.held_law.ensures.stays;
    } in
    let most : c.self.inside.turns + c.quick_turns.result ≤ c.until-until.result =
    omega (arith, c.quick_turns.ensures.most, c.if-self-until.true) in
    control_then o laws c.self.inside.kernel c.args.plan.now c.self.inside.taken (known_of c.args.self.now) c.quick_turns.result c.args.limit
    c.until-until.result c.self.inside.cpu c.self.inside.mem c.self.inside.turns c.quick_turns.new.self c.quick_turns.new.mem
    c.self.inside.source.items (ap known_of c.self.view_is) c.self.invariant.0 c.until-until.ensures.event most c.until-until.ensures.limit
    c.quick_turns.ensures.turns

pub returns-then-self-until-clause-nearer : goal.returns-then-self-until-clause-nearer
returns-then-self-until-clause-nearer c =
    let o : Opening = record { image = c.self.inside.image.now; frames = c.self.inside.layout.now.frames } in
    let laws : TurnLaws o = record {
      turn = c.steps_law.ensures.turn o;
      stays = c.steps_law.ensures.stays o;
      books = c.steps_law.ensures.books o;
      safe = c.steps_law.ensures.safe o;
      nearer = c.window_law.ensures.turn o;
      masked_turn = c.steps_law.ensures.masked_turn o;
      masked_stays = c.steps_law.ensures.masked_stays o;
      keep = c.mask_law.ensures.length;
      held = c.held_law.ensures.stays;
    } in
    let most : c.self.inside.turns + c.quick_turns.result ≤ c.until-until.result =
    omega (arith, c.quick_turns.ensures.most, c.if-self-until.true) in
    nearer_then o laws c.self.inside.kernel c.args.plan.now c.self.inside.taken (known_of c.args.self.now) c.quick_turns.result c.args.limit
    c.until-until.result c.self.inside.cpu c.self.inside.mem c.self.inside.turns c.quick_turns.new.self c.quick_turns.new.mem
    c.self.inside.source.items (ap known_of c.self.view_is) c.self.invariant.0 c.until-until.ensures.event most c.until-until.ensures.limit
    c.quick_turns.ensures.turns
