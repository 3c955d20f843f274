use Rattle.std.proofs.Common.{◌≡◌, subst}
use Rattle.phys_mem.specs.MaskedMemory.{seen}
use Rattle.gate_state.specs.GuardedStates.{IsGuarded}
use Rattle.gate_state.specs.MachineStates.{MachineState}
use Rattle.gate_state.proofs.TurnsSeen.{takes_turn, turn_next, turn_seen}
use Rattle.gate_state.proofs.laws.turns_law.Goals as goal

pub returns : goal.returns
returns c = record {
  guarded = λ o plan s admitted guarded turns.
      subst (IsGuarded o) (turn_next plan s turns)
      (c.steps_law.ensures.turn o s admitted (takes_turn plan s turns) guarded);
  seen = λ o plan s admitted guarded turns same.
      subst (λ (t : MachineState). seen t.memory ≡ t.memory) (turn_next plan s turns)
      (turn_seen o s guarded (c.steps_law.ensures.turn o s admitted (takes_turn plan s turns) guarded)
      (λ hides. (c.steps_law.ensures.masked_turn o s s.memory admitted (takes_turn plan s turns) guarded hides).2)
      same);
}
