-- What a line doesn't tell, and what no trace is, each named by the sentence that it guards.
use Rattle.std.proofs.Common.{◌≡◌, ◌≢◌, ℕ, ◌+◌, ◌<◌, true, false, List, [], ◌∷◌, None, Option, Some, sym, ap, ◌∙◌, arith}
use Rattle.nk_bits.specs.declared.leaf.Leaf.{Leaf}
use Rattle.irq_plan.specs.declared.event.Event.{Event}
use Rattle.gate_state.specs.MachineStates.{MachineState}
use Rattle.gate_state.specs.MachineSteps.{move_of, next, state}
use Rattle.gate_state.specs.StepsTaken.{CountsSteps}
use Rattle.gate_state.specs.WholeMachine.{HeldState, is_rest, known_of, stepped_whole}
use Rattle.step_trace.specs.declared.asked.Shown.{Shown}
use Rattle.step_trace.specs.declared.ends.TraceEnd.{TraceEnd}
use Rattle.step_trace.specs.StepChanges.{Dropped, Flag, General, Stored, drops, flag_changes, general_changes, named_flags, runs}
use Rattle.step_trace.specs.Traces.{AreSteps, EndsWith, IsFirstReached, is_there}
use Rattle.step_trace.proofs.NearerSteps.{nearer}

-- a register's old value, one that stays, and the value of another
old_value : general_changes 0 (5 ∷ []) (7 ∷ []) ≢ General 0 5 ∷ []
old_value is = cc

staying_value : general_changes 0 (5 ∷ []) (5 ∷ []) ≢ General 0 5 ∷ []
staying_value is = cc

another_register : general_changes 0 (5 ∷ []) (7 ∷ []) ≢ General 1 7 ∷ []
another_register is = cc

-- a flag's old value, and another flag
old_flag : flag_changes named_flags 2 3 ≢ Flag 0 false ∷ []
old_flag is = cc

another_flag : flag_changes named_flags 2 3 ≢ Flag 6 true ∷ []
another_flag is = cc

-- a store that is left out, one at another place, one of the old bytes, and one that wasn't
store_left_out : runs 0 0 (1 ∷ 2 ∷ []) (1 ∷ 3 ∷ []) ≢ []
store_left_out is = cc

store_elsewhere : runs 0 0 (1 ∷ 2 ∷ []) (1 ∷ 3 ∷ []) ≢ Stored 0 (3 ∷ []) ∷ []
store_elsewhere is = cc

old_bytes : runs 0 0 (1 ∷ 2 ∷ []) (1 ∷ 3 ∷ []) ≢ Stored 1 (2 ∷ []) ∷ []
old_bytes is = cc

no_store : runs 0 0 (1 ∷ 2 ∷ []) (1 ∷ 2 ∷ []) ≢ Stored 1 (2 ∷ []) ∷ []
no_store is = cc

-- a translation that was there already isn't filled, and one that is there still isn't dropped
module _ (leaf : Leaf) where
  abbrev one : List (ℕ × Leaf)
  one = (1, leaf) ∷ []

  no_drop : drops one one ≢ Dropped 1 ∷ []
  no_drop is = cc

module _ (plan : List Event) (counts : (s : MachineState) → CountsSteps plan (move_of plan s) s (next plan s)) where
  -- no state where a step is left is the one behind itself
  stands_still : (h : HeldState) → is_rest (move_of plan h.state) ≡ false → known_of h ≡ stepped_whole plan (known_of h) → ⊥
  stands_still h goes same =
      let less = nearer (h.state.turns + 1) plan (known_of h) (known_of h) (omega arith) goes same (counts h.state) in
      absurd (omega (arith, less))

  -- two steps that are exchanged
  exchanged : (h a b : HeldState) → is_rest (move_of plan a.state) ≡ false
      → AreSteps plan h (a ∷ b ∷ []) → AreSteps plan h (b ∷ a ∷ []) → ⊥
  exchanged h a b goes one other =
      stands_still a goes
      (other.1.0.known ∙ ap (stepped_whole plan) (other.0.known ∙ sym one.0.known))

  -- a step that is left out
  left_out : (h a b : HeldState) → is_rest (move_of plan a.state) ≡ false
      → AreSteps plan h (a ∷ b ∷ []) → AreSteps plan h (b ∷ []) → ⊥
  left_out h a b goes both one =
      stands_still a goes
      (both.0.known ∙ sym one.0.known ∙ both.1.0.known)

-- a trace that goes on behind its end, and a whole one that has none
goes_on : (shown : Shown) (steps : ℕ) (plan : List Event) (why : TraceEnd) (last : Option TraceEnd) (h : HeldState) (later : List HeldState)
    → EndsWith shown steps plan (Some why) (h ∷ later) last → ⊥
goes_on shown steps plan why last h later it = let here : Some why ≡ None = it.0 in cc

-- a trace that begins at a later state than the first that is there
begins_late : (turns : ℕ) (plan : List Event) (first s : MachineState) → is_there turns plan first ≡ true
    → (it : IsFirstReached turns plan first s) → 0 < it.steps → ⊥
unfolding state
begins_late turns plan first s there it late = let before : is_there turns plan first ≡ false = it.not_before 0 late in cc
