-- States behind turns after which not as many turns fewer of WP clear are left as were taken, each named by the
-- sentence that it guards; and states of which the definition holds.
use Rattle.std.proofs.Common.{◌≡◌, ◌+◌, ℕ, false, [], ◌∷◌, refl, arith}
use Rattle.nk_bits.specs.KernelLayout.{gate_address}
use Rattle.nk_body.specs.NestedRecord.{Ledger}
use Rattle.gate_state.specs.MachineStates.{MachineState}
use Rattle.gate_state.specs.WindowLeft.{HasFewerLeft, left, left_at}

module _ (before after : MachineState) (it : HasFewerLeft before after) where
  -- a turn with as many left as before it, or one more
  turn_with_as_many_left : after.turns ≡ before.turns + 1 → left after.processor ≡ left before.processor → ⊥
  turn_with_as_many_left turn same = omega (arith, turn, same, it)

  turn_with_one_more_left : after.turns ≡ before.turns + 1 → left after.processor ≡ left before.processor + 1 → ⊥
  turn_with_one_more_left turn more = omega (arith, turn, more, it)

  -- two turns that leave one fewer
  two_turns_for_one : after.turns ≡ before.turns + 2 → left after.processor + 1 ≡ left before.processor → ⊥
  two_turns_for_one turns fewer = omega (arith, turns, fewer, it)

  -- a turn more than were left
  turn_past_the_last : after.turns ≡ before.turns + left before.processor + 1 → ⊥
  turn_past_the_last turns = omega (arith, turns, it)

  -- no turn, and more are left than before
  more_left_for_none : after.turns ≡ before.turns → left after.processor ≡ left before.processor + 1 → ⊥
  more_left_for_none none more = omega (arith, none, more, it)

-- the supervisor at an offset of the gates' text, with IF clear, after so many turns
abbrev at_gates : Ledger → ℕ → ℕ → MachineState
at_gates ledger offset turns = record {
  processor = record {
    regs = record {
      general = 0 ∷ 1 ∷ 2 ∷ 3 ∷ 4 ∷ 5 ∷ 6 ∷ 7 ∷ 8 ∷ 9 ∷ 10 ∷ 11 ∷ 12 ∷ 13 ∷ 14 ∷ 15 ∷ [];
      rip = gate_address + offset;
      flags = 2;
      cpl = 0;
      ss = 0x10;
    };
    control = record { cr0 = 0x80000001; cr2 = 0; root = 5; cr4 = 0x100020; efer = 0xD00 };
    tables = record { idt = 0; limit = 0; tss = 0 };
    tlb = record { pairs = []; upper = [] };
    input = [];
    pending = 0;
    shielded = false;
    halted = false;
  };
  memory = [];
  kinds = [];
  ledger = ledger;
  turns = turns;
  taken = 0;
}

-- at 16 six are left, at 17 five, and at 37 one
left_there : (ledger : Ledger) → (left (at_gates ledger 16 0).processor ≡ 6)
    × (left (at_gates ledger 17 0).processor ≡ 5) × (left (at_gates ledger 37 0).processor ≡ 1)
unfolding left_at
left_there ledger = (refl, refl, refl)

-- from 16 a turn leads to 17, and five to 37
one_turn_on : (ledger : Ledger) → HasFewerLeft (at_gates ledger 16 8) (at_gates ledger 17 9)
unfolding left_at
one_turn_on ledger = omega arith

five_turns_on : (ledger : Ledger) → HasFewerLeft (at_gates ledger 16 8) (at_gates ledger 37 13)
unfolding left_at
five_turns_on ledger = omega arith

-- but not six
six_turns_on : (ledger : Ledger) → HasFewerLeft (at_gates ledger 16 8) (at_gates ledger 37 14) → ⊥
unfolding left_at
six_turns_on ledger it = omega (arith, it)
