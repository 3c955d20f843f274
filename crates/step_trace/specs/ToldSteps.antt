-- What is kept of a state before its step, and what the step was, told by what it showed.
use Rattle.std.specs.Prelude.{◌≡◌, ◌==◌, ◌&&◌, ◌||◌, ◌++◌, Bool, true, false, not, ℕ, List, Option, Some, None, slice_get}
use Rattle.nk_bits.specs.Accesses.{wp_of}
use Rattle.nk_bits.specs.Translations.{Translations}
use Rattle.irq_plan.specs.declared.event.Event.{Event}
use Rattle.irq_plan.specs.declared.event.What.{What}
use Rattle.cpu_step.specs.Processor.{Processor, deliverable}
use Rattle.gate_state.specs.declared.seen.Seen.TheVariants as seen
use Rattle.gate_state.specs.declared.seen.Step.{Step}
use Rattle.gate_state.specs.declared.seen.Step.TheVariants as step
use Rattle.gate_state.specs.WholeMachine.{HeldState}
use Rattle.x86_regs.specs.declared.registers.Regs.{Regs}
use Rattle.step_trace.specs.declared.asked.Kind.{Kind}
use Rattle.step_trace.specs.declared.asked.Kind.TheVariants as kind
use Rattle.step_trace.specs.declared.asked.Shown.{Shown}
use Rattle.step_trace.specs.declared.kept.Kept.{Kept}
use Rattle.step_trace.specs.declared.line.Before.{Before}
use Rattle.step_trace.specs.declared.line.Told.{Told}
use Rattle.step_trace.specs.declared.telling.Here.{Here}
use Rattle.step_trace.specs.StepChanges.{Change, Flags, Privilege, Stack, cleared, flag_changes, general_changes, named_flags, where_so}
use Rattle.step_trace.specs.StepLines.{Called, Code, Planned, Was, code_here, has, is_rip, is_stored, turn_by}

-- the lists of what the processor keeps of walks
abbrev pub kept_lists : Kept → Translations
kept_lists kept = record { pairs = kept.pairs.items; upper = kept.upper.items }

-- of this processor, over this memory
pub record IsBefore (before : Before) (p : Processor) (m : List ℕ) : Type 0 where
  pub regs : before.regs ≡ p.regs
  pub control : before.control ≡ p.control
  pub halted : before.halted ≡ p.halted
  pub vector : before.vector ≡ deliverable p
  pub code : Code before.code.bytes.items before.code.found ≡ code_here p m
  pub kept : kept_lists before.kept ≡ p.tlb

-- what the step was, where this event of the plan was the next one
abbrev pub was_told : Step → Option What → Option ℕ → Was → Was
was_told (step.Called called) event vector code = Called called.call
was_told (step.Seen seen.Event) (Some what) vector code = Planned what
was_told (step.Seen seen.Event) None vector code = code
was_told _ event vector code = turn_by vector code

abbrev pub was_before : Before → Step → Option What → Was
was_before before it event = was_told it event before.vector (Code before.code.bytes.items before.code.found)

-- the body, a delivery, an event, and a byte of the console, told by what the step showed
abbrev pub is_called : Step → Bool
is_called (step.Called called) = true
is_called _ = false

abbrev pub is_delivery_step : Step → Bool
is_delivery_step (step.Seen (seen.Delivered it)) = true
is_delivery_step _ = false

abbrev pub is_taken_event : Step → Bool
is_taken_event (step.Seen seen.Event) = true
is_taken_event _ = false

abbrev pub is_console_byte : Step → Bool
is_console_byte (step.Seen (seen.Console byte)) = true
is_console_byte _ = false

-- a step is of a kind, where WP is set before it or isn't, and whether a byte of memory changed
abbrev pub is_kind_told : Kind → Bool → Step → Bool → Bool
is_kind_told kind.Gate in_outer it is_stored = not in_outer
is_kind_told kind.Call in_outer it is_stored = is_called it
is_kind_told kind.Delivery in_outer it is_stored = is_delivery_step it
is_kind_told kind.Event in_outer it is_stored = is_taken_event it
is_kind_told kind.Memory in_outer it is_stored = is_stored
is_kind_told kind.Console in_outer it is_stored = is_console_byte it

abbrev pub are_kinds_told : Option Kind → Bool → Step → Bool → Bool
are_kinds_told None in_outer it is_stored = true
are_kinds_told (Some kind) in_outer it is_stored = is_kind_told kind in_outer it is_stored

-- its line is shown
abbrev pub is_wanted_told : Shown → Bool → Step → Told → Bool
is_wanted_told shown in_outer it told =
    are_kinds_told shown.only in_outer it told.is_stored && (not shown.changes || (is_taken_event it || told.is_more))

-- what of the registers is told behind RIP
abbrev pub registers_behind : Regs → Regs → List Change
registers_behind before after =
    general_changes 0 before.general after.general
    ++ (flag_changes named_flags before.flags after.flags
    ++ (where_so (not (cleared named_flags before.flags == cleared named_flags after.flags)) (Flags after.flags)
    ++ (where_so (not (before.cpl == after.cpl)) (Privilege after.cpl)
    ++ where_so (not (before.ss == after.ss)) (Stack after.ss))))

-- what a line tells of its changes
pub record IsToldOf (told : Told) (changes : List Change) : Type 0 where
  pub stored : told.is_stored ≡ has is_stored changes
  pub more : told.is_more ≡ has (λ change. not (is_rip change)) changes

-- the event of a plan behind so many
abbrev pub what_in : Option Event → Option What
what_in None = None
what_in (Some event) = Some event.what

abbrev pub what_next : List Event → ℕ → Option What
what_next plan taken = what_in (slice_get plan taken)

-- what is kept of a state whose step is to be told
pub record IsHere (here : Here) (plan : List Event) (h : HeldState) : Type 0 where
  pub before : IsBefore here.before h.state.processor h.real
  pub outer : here.in_outer ≡ wp_of h.state.processor.control.cr0
  pub event : here.event ≡ what_next plan h.state.taken
