-- A call doesn't come back where the machine rests: at a concrete state, which stays as it is over any number of steps.
use Rattle.std.proofs.Common.{◌≡◌, ℕ, zero, suc, ◌+◌, ◌≤◌, true, false, List, [], refl, ap, arith}
use Rattle.nk_bits.specs.declared.kind.Kind.{Kind}
use Rattle.nk_body.specs.NestedRecord.{Ledger}
use Rattle.gate_state.specs.GateCalls.{ComesLater, IsCalledBack}
use Rattle.gate_state.specs.MachineStates.{MachineState}
use Rattle.gate_state.specs.MachineSteps.{next, state}

module _ (general m : List ℕ) (kinds : List Kind) (ledger : Ledger) (turns : ℕ) where
  -- the supervisor is halted with IF clear
  abbrev resting : MachineState
  resting = record {
    processor = record {
      regs = record { general = general; rip = 0xFFFFFFFF80000001; flags = 2; cpl = 0; ss = 0x10 };
      control = record { cr0 = 0x80010001; cr2 = 0; root = 5; cr4 = 0x100020; efer = 0xD00 };
      tables = record { idt = 0xFFFFFF8000000000; limit = 767; tss = 0xFFFFFF8000000400 };
      tlb = record { pairs = []; upper = [] };
      input = [];
      pending = 0;
      shielded = false;
      halted = true;
    };
    memory = m;
    kinds = kinds;
    ledger = ledger;
    turns = turns;
    taken = 0;
  }

  rests_on : (k : ℕ) → state [] resting k ≡ resting
  unfolding state next
  rests_on zero = refl
  rests_on (suc k) = rests_on k

  no_turns_later : (n : ℕ) → ComesLater [] resting (n + 1) → ⊥
  no_turns_later n it =
      let there : (state [] resting it.steps).turns ≡ turns + (n + 1) = it.there in
      let stays : (state [] resting it.steps).turns ≡ turns = ap (λ (s : MachineState). s.turns) (rests_on it.steps) in
      omega (arith, there, stays)

  lost_call : IsCalledBack [] resting → ⊥
  lost_call it = no_turns_later 5 it.body

  unanswered_call : IsCalledBack [] resting → ⊥
  unanswered_call it = no_turns_later 13 it.back

-- fourteen turns later is behind fourteen steps and one for each event: without a plan no step more will do
late_return : (s : MachineState) (it : ComesLater [] s 14) → it.steps ≡ 15 → ⊥
late_return s it is = let few : it.steps ≤ 14 = it.few in omega (arith, is, few)
