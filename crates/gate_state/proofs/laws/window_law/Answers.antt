use Rattle.gate_state.specs.GuardedStates.{IsAdmitted}
use Rattle.gate_state.specs.MachineStates.{Opening}
use Rattle.gate_state.proofs.RunsShort.{StepsNearer, next_nearer}
use Rattle.gate_state.proofs.TurnNearer.{event_left}
use Rattle.gate_state.proofs.WindowNearer.{left_within}
use Rattle.gate_state.proofs.laws.window_law.Goals as goal

pub returns : goal.returns
returns c =
    let nearer : (o : Opening) → IsAdmitted o → StepsNearer o = λ o admitted. record {
      turn = λ s takes guarded clear. c.steps_law.ensures.turn_left o s admitted takes guarded clear;
      body = λ s enters guarded. c.steps_law.ensures.body_left o s admitted enters guarded;
    } in
    record {
      within = λ p. left_within _ _;
      turn = λ o s admitted guarded takes clear. c.steps_law.ensures.turn_left o s admitted takes guarded clear;
      body = λ o s admitted guarded enters. c.steps_law.ensures.body_left o s admitted enters guarded;
      event = event_left;
      step = λ o plan s admitted guarded clear. next_nearer o (nearer o admitted) plan s guarded clear;
    }
