use Rattle.gate_state.specs.GuardedStates.{IsAdmitted}
use Rattle.gate_state.specs.MachineOpening.{opening_state}
use Rattle.gate_state.specs.MachineSteps.{state}
use Rattle.gate_state.specs.MachineStates.{Opening}
use Rattle.gate_state.proofs.CallComesBack.{called_back}
use Rattle.gate_state.proofs.RunsSafe.{StepsKept, state_guarded, state_made}
use Rattle.gate_state.proofs.RunsShort.{StepsNearer, short_window}
use Rattle.gate_state.proofs.laws.safety_law.Goals as goal

pub returns : goal.returns
returns c =
    let steps : (o : Opening) → IsAdmitted o → StepsKept o = λ o admitted. record {
      event = λ s what plannable guarded. c.steps_law.ensures.event o s what admitted plannable guarded;
      turn = λ s takes guarded. c.steps_law.ensures.turn o s admitted takes guarded;
      body = λ s at guarded. c.steps_law.ensures.body o s admitted at guarded;
      stays = λ s takes guarded. c.steps_law.ensures.stays o s admitted takes guarded;
      serves = λ s guarded. c.steps_law.ensures.serves o s admitted guarded;
    } in
    let nearer : (o : Opening) → IsAdmitted o → StepsNearer o = λ o admitted. record {
      turn = λ s takes guarded clear. c.steps_law.ensures.turn_left o s admitted takes guarded clear;
      body = λ s enters guarded. c.steps_law.ensures.body_left o s admitted enters guarded;
    } in
    record {
      opening = c.steps_law.ensures.opening;
      guarded = λ o input plan k admitted in_form.
          state_guarded o (steps o admitted) plan in_form (opening_state o input) k (c.steps_law.ensures.opening o input admitted);
      delivers = c.steps_law.ensures.delivers;
      safe = λ o input plan k admitted in_form.
          c.steps_law.ensures.safe o (state plan (opening_state o input) k) admitted
          (state_guarded o (steps o admitted) plan in_form (opening_state o input) k (c.steps_law.ensures.opening o input admitted));
      nested = λ o input plan k admitted in_form.
          state_made o (steps o admitted) plan in_form (opening_state o input) k (c.steps_law.ensures.opening o input admitted);
      called = λ o input plan n k admitted in_form calling.
          c.steps_law.ensures.called o (state plan (opening_state o input) n) plan k admitted in_form
          (state_guarded o (steps o admitted) plan in_form (opening_state o input) n (c.steps_law.ensures.opening o input admitted)) calling;
      comes_back = λ o input plan n admitted in_form calling.
          called_back plan (state plan (opening_state o input) n) (λ k.
          c.steps_law.ensures.called o (state plan (opening_state o input) n) plan k admitted in_form
          (state_guarded o (steps o admitted) plan in_form (opening_state o input) n (c.steps_law.ensures.opening o input admitted)) calling);
      window = λ o input plan admitted in_form.
          short_window o (nearer o admitted) plan (steps o admitted) in_form (opening_state o input)
          (c.steps_law.ensures.opening o input admitted);
    }
