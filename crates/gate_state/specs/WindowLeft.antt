-- How long WP stays clear: the turns that are left of it at each gate point, what a step makes of them, and the bound over
-- a run.
use Rattle.std.specs.Prelude.{◌≡◌, ◌⊎◌, ℕ, ◌+◌, ◌-◌, ◌%◌, ◌<◌, ◌≤◌, Bool, true, false, ◌==◌, ◌||◌, if◌then◌else◌, List}
use Rattle.nk_bits.specs.Accesses.{wp_of}
use Rattle.irq_plan.specs.declared.event.Event.{Event}
use Rattle.x86_alu.specs.SignedNumbers.{bit}
use Rattle.x86_regs.specs.Combinations.{interrupt_flag}
use Rattle.cpu_step.specs.Processor.{Processor}
use Rattle.nk_bits.specs.KernelLayout.{gate_address}
use Rattle.gate_state.specs.declared.moves.Move.{Move}
use Rattle.gate_state.specs.declared.moves.Move.TheVariants as move
use Rattle.gate_state.specs.MachineStates.{MachineState}
use Rattle.gate_state.specs.MachineSteps.{state}

-- a row of the table: so many with IF clear, and so many with IF set
abbrev pub left_with : ℕ → ℕ → Bool → ℕ
left_with clear set interrupts = if interrupts then set else clear

-- how many turns at most go by from this offset of the gates' text with WP clear until WP is set, the one that sets it
-- counted in. At the last four rows' points IF is clear; these are 17; 27 and 448; a stub's PUSH, 64 + 8v; and its JMP,
-- 66 + 8v, for the vectors v from 32 to 47
unfoldable pub left_at : ℕ → Bool → ℕ
left_at offset =
    if offset == 37 || offset == 457 then left_with 1 7
    else if offset == 32 || offset == 452 then left_with 2 8
    else if offset == 29 || offset == 449 then left_with 3 9
    else if offset == 45 || offset == 465 then left_with 4 10
    else if offset == 40 || offset == 460 then left_with 5 11
    else if offset == 16 then left_with 6 7
    else if offset == 17 then left_with 5 5
    else if offset == 27 || offset == 448 then left_with 4 4
    else if offset % 8 == 0 then left_with 6 6
    else left_with 5 5

abbrev pub left : Processor → ℕ
left p = left_at (p.regs.rip - gate_address) (bit p.regs.flags interrupt_flag)

-- what a step makes of a processor with WP clear: a turn, and the body, set WP or leave fewer turns; an event of the plan
-- leaves CR0 and as many; the machine that rests is as it was
abbrev pub IsNearer : Processor → Processor → Type 0
IsNearer before after = (wp_of after.control.cr0 ≡ true) ⊎ (left after < left before)

abbrev pub ComesNearer : Move → Processor → Processor → Type 0
ComesNearer move.Serve before after = left after < left before
ComesNearer (move.Take what) before after = (after.control.cr0 ≡ before.control.cr0) × (left after ≡ left before)
ComesNearer move.Turn before after = IsNearer before after
ComesNearer move.Rest before after = after ≡ before

-- where WP stays clear from one state to another, as many turns fewer are left as were taken between them
abbrev pub HasFewerLeft : MachineState → MachineState → Type 0
HasFewerLeft before after = after.turns + left after.processor ≤ before.turns + left before.processor

-- where WP is clear in each state of a run from number i to i + n, at most ten turns go by between these two: so a turn
-- from state i + n is at most the eleventh in a row that begins with WP clear
abbrev pub IsShortWindow : List Event → MachineState → Type 0
IsShortWindow plan first = (i n : ℕ)
    → ((k : ℕ) → k ≤ n → wp_of (state plan first (i + k)).processor.control.cr0 ≡ false)
    → (state plan first (i + n)).turns ≤ (state plan first i).turns + 10
