-- The stages of a call that is made through the gates: where the supervisor stands after so many turns, and what holds
-- of its registers there. Those up to the body speak of the state in which the call began, and those behind it of the one
-- in which the body ran. An event of the plan leaves a state at its stage.
use Rattle.std.proofs.Common.{◌≡◌, ◌≢◌, ℕ, ◌+◌, ◌^◌, ◌<◌, Bool, true, false, List}
use Rattle.std.specs.Prelude.{◌==◌, IfSome, slice_index}
use Rattle.nk_bits.specs.Accesses.{wp_of}
use Rattle.nk_bits.specs.Translations.{Translations}
use Rattle.irq_plan.specs.declared.event.What.{What}
use Rattle.irq_plan.specs.declared.event.What.TheVariants.{Irq, Drop, Fill, Keep, Forget}
use Rattle.irq_plan.specs.PlannedEvents.{IsPlannable}
use Rattle.x86_alu.specs.Flags.{with_flag, zero_flag}
use Rattle.x86_alu.specs.SignedNumbers.{bit}
use Rattle.x86_regs.specs.declared.registers.Regs.{Regs}
use Rattle.x86_regs.specs.Operands.{rax, rdx, rsp}
use Rattle.nk_body.specs.NestedRecord.{Nested}
use Rattle.gate_state.specs.GuardedStates.{IsAdmitted, IsGuarded}
use Rattle.gate_state.specs.MachineStates.{MachineState, Opening, nested_of}
use Rattle.gate_state.specs.MachineSteps.{after_event, answer_in}
use Rattle.gate_state.proofs.LowerLaws.{LowerLaws}
use Rattle.gate_state.proofs.StatesKept.{event_guarded}
use Rattle.gate_state.proofs.CallThroughTurn.{IsStanding}
use Rattle.gate_state.proofs.CallThroughWords.{wp_tested}

-- each is named by what the instruction there does: R10 keeps RSP, CR0 is read, WP is masked out, and cleared; IF is
-- cleared again, the nested stack is taken, the body serves the call; CR0 is read, WP is raised, set, tested, and
-- jumped on; RSP comes back, RAX takes the answer; and the call returns
pub data Stage : Type 0 where
  Keeping : Stage
  Reading : Stage
  Masking : Stage
  Clearing : Stage
  Closing : Stage
  Stacking : Stage
  Serving : Stage
  Rereading : Stage
  Raising : Stage
  Setting : Stage
  Testing : Stage
  Jumping : Stage
  Restoring : Stage
  Answering : Stage
  Returning : Stage

abbrev pub offset_of : Stage → ℕ
offset_of Keeping = 2
offset_of Reading = 5
offset_of Masking = 8
offset_of Clearing = 13
offset_of Closing = 16
offset_of Stacking = 17
offset_of Serving = 27
offset_of Rereading = 29
offset_of Raising = 32
offset_of Setting = 37
offset_of Testing = 40
offset_of Jumping = 45
offset_of Restoring = 47
offset_of Answering = 50
offset_of Returning = 53

-- behind the body
abbrev pub is_behind : Stage → Bool
is_behind Rereading = true
is_behind Raising = true
is_behind Setting = true
is_behind Testing = true
is_behind Jumping = true
is_behind Restoring = true
is_behind Answering = true
is_behind Returning = true
is_behind _ = false

-- the turns that were taken since the call began, and behind the body since that ran
abbrev pub turns_of : Stage → ℕ
turns_of Keeping = 0
turns_of Reading = 1
turns_of Masking = 2
turns_of Clearing = 3
turns_of Closing = 4
turns_of Stacking = 5
turns_of Serving = 6
turns_of Rereading = 1
turns_of Raising = 2
turns_of Setting = 3
turns_of Testing = 4
turns_of Jumping = 5
turns_of Restoring = 6
turns_of Answering = 7
turns_of Returning = 8

-- before the body: the record is what it was, and so are all registers but RAX, RSP and R10
pub record IsGoing (s : MachineState) (regs : Regs) (nk : Nested) : Type 0 where
  pub nested : nk ≡ nested_of s
  pub others : (k : ℕ) → k ≢ rax → k ≢ rsp → k ≢ 10
      → slice_index regs.general k ≡ slice_index s.processor.regs.general k

-- a register holds what RSP was as the call began, and behind the body what R10 was
abbrev pub HasStack : MachineState → ℕ → Regs → Type 0
HasStack s register regs = slice_index regs.general register ≡ slice_index s.processor.regs.general rsp

abbrev pub KeepsStack : MachineState → ℕ → Regs → Type 0
KeepsStack s register regs = slice_index regs.general register ≡ slice_index s.processor.regs.general 10

-- a register holds the answer of the body that ran in this state, and RDX the place of a region, where one was allocated
pub record HasAnswer (s : MachineState) (register : ℕ) (general : List ℕ) : Type 0 where
  pub value : s.ledger.book.next < 2 ^ 63 → slice_index general register ≡ (answer_in s).value
  pub place : IfSome (answer_in s).place (λ place. slice_index general rdx ≡ place)

-- what holds of registers, CR0 and the record at a stage
abbrev pub HoldsAt : Stage → MachineState → Regs → ℕ → Nested → Type 0
HoldsAt Keeping s regs cr0 nk = IsGoing s regs nk × HasStack s rsp regs
HoldsAt Reading s regs cr0 nk = IsGoing s regs nk × HasStack s 10 regs
HoldsAt Masking s regs cr0 nk = IsGoing s regs nk × HasStack s 10 regs × (slice_index regs.general rax ≡ cr0)
HoldsAt Clearing s regs cr0 nk =
    IsGoing s regs nk × HasStack s 10 regs × (slice_index regs.general rax ≡ with_flag 16 false cr0)
HoldsAt Closing s regs cr0 nk = IsGoing s regs nk × HasStack s 10 regs × (wp_of cr0 ≡ false)
HoldsAt Stacking s regs cr0 nk = IsGoing s regs nk × HasStack s 10 regs × (wp_of cr0 ≡ false)
HoldsAt Serving s regs cr0 nk = IsGoing s regs nk × HasStack s 10 regs × (wp_of cr0 ≡ false)
HoldsAt Rereading s regs cr0 nk = HasAnswer s 9 regs.general × KeepsStack s 10 regs
HoldsAt Raising s regs cr0 nk = HasAnswer s 9 regs.general × KeepsStack s 10 regs × (slice_index regs.general rax ≡ cr0)
HoldsAt Setting s regs cr0 nk =
    HasAnswer s 9 regs.general × KeepsStack s 10 regs × (slice_index regs.general rax ≡ with_flag 16 true cr0)
HoldsAt Testing s regs cr0 nk =
    HasAnswer s 9 regs.general × KeepsStack s 10 regs × (wp_of cr0 ≡ true)
    × ((wp_tested (slice_index regs.general rax) == 0) ≡ false)
HoldsAt Jumping s regs cr0 nk =
    HasAnswer s 9 regs.general × KeepsStack s 10 regs × (wp_of cr0 ≡ true) × (bit regs.flags zero_flag ≡ false)
HoldsAt Restoring s regs cr0 nk = HasAnswer s 9 regs.general × KeepsStack s 10 regs × (wp_of cr0 ≡ true)
HoldsAt Answering s regs cr0 nk = HasAnswer s 9 regs.general × KeepsStack s rsp regs × (wp_of cr0 ≡ true)
HoldsAt Returning s regs cr0 nk = HasAnswer s rax regs.general × KeepsStack s rsp regs × (wp_of cr0 ≡ true)

-- a state at a stage of the call that began in s, or whose body ran there
pub record IsAt (o : Opening) (stage : Stage) (s t : MachineState) : Type 0 where
  pub guarded : IsGuarded o t
  pub stands : IsStanding (offset_of stage) t.processor
  pub holds : HoldsAt stage s t.processor.regs t.processor.control.cr0 (nested_of t)
  pub turns : t.turns ≡ s.turns + turns_of stage

-- another pending set, and other translations
with_event : (o : Opening) (stage : Stage) (s t : MachineState) (pending : ℕ) (tlb : Translations) → IsAt o stage s t
    → IsGuarded o (record t { processor = record t.processor { pending = pending; tlb = tlb }; taken = t.taken + 1 })
    → IsAt o stage s (record t { processor = record t.processor { pending = pending; tlb = tlb }; taken = t.taken + 1 })
with_event o stage s t pending tlb at guarded = record {
  guarded = guarded;
  stands = record {
    supervisor = at.stands.supervisor;
    runs = at.stands.runs;
    uninterrupted = at.stands.uninterrupted;
    rip = at.stands.rip;
  };
  holds = at.holds;
  turns = at.turns;
}

module _ (laws : LowerLaws) (o : Opening) (admitted : IsAdmitted o) where
  pub event_stays : (stage : Stage) (s t : MachineState) (what : What) → IsPlannable what → IsAt o stage s t
      → IsAt o stage s (after_event what t)
  event_stays stage s t (Irq vector) plannable at =
      with_event o stage s t _ t.processor.tlb at (event_guarded laws o admitted t (Irq vector) plannable at.guarded)
  event_stays stage s t (Drop page) plannable at =
      with_event o stage s t t.processor.pending _ at (event_guarded laws o admitted t (Drop page) plannable at.guarded)
  event_stays stage s t (Fill page) plannable at =
      with_event o stage s t t.processor.pending _ at (event_guarded laws o admitted t (Fill page) plannable at.guarded)
  event_stays stage s t (Keep level page) plannable at =
      with_event o stage s t t.processor.pending _ at (event_guarded laws o admitted t (Keep level page) plannable at.guarded)
  event_stays stage s t (Forget level page) plannable at =
      with_event o stage s t t.processor.pending _ at (event_guarded laws o admitted t (Forget level page) plannable at.guarded)
