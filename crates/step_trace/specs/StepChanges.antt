-- What a step changes, as a list in the order in which its line tells it: of the state before and the one after, with memory
-- as it is, the nested kernel's books in it, and of what the step showed.
use Rattle.std.specs.Prelude.{ℕ, zero, suc, ◌+◌, ◌*◌, ◌==◌, Bool, true, false, not, ◌&&◌, ◌||◌, if◌then◌else◌, List, [], ◌∷◌, ◌++◌, length, take, ◌/◌, is_none}
use Rattle.nk_bits.specs.declared.call.Answer.{Answer}
use Rattle.nk_bits.specs.declared.call.Delivery.{Delivery}
use Rattle.nk_bits.specs.declared.control.Control.{Control}
use Rattle.nk_bits.specs.declared.leaf.Leaf.{Leaf}
use Rattle.nk_bits.specs.declared.leaf.Rights.{Rights}
use Rattle.nk_bits.specs.declared.leaf.Upper.{Upper}
use Rattle.nk_bits.specs.Translations.{Pairs, Translations, look}
use Rattle.nk_bits.specs.UpperEntries.{KeptEntry}
use Rattle.phys_mem.specs.Memory.{frame_bytes}
use Rattle.x86_alu.specs.Flags.{with_flag}
use Rattle.x86_alu.specs.SignedNumbers.{bit, differ}
use Rattle.x86_regs.specs.declared.registers.Regs.{Regs}
use Rattle.x86_regs.specs.Operands.{wrapped}
use Rattle.cpu_step.specs.Processor.{Processor}
use Rattle.gate_state.specs.declared.seen.Seen.TheVariants as seen
use Rattle.gate_state.specs.declared.seen.Step.{Step}
use Rattle.gate_state.specs.declared.seen.Step.TheVariants as step
use Rattle.gate_state.specs.declared.seen.Took.{Took}
use Rattle.gate_state.specs.declared.seen.Took.TheVariants as took

-- one change
pub data Change : Type 0 where
  -- RIP isn't behind the instruction's bytes
  Rip : ℕ → Change
  -- a general register, by its number
  General : ℕ → ℕ → Change
  -- a flag that has a name, by its place in RFLAGS, and the whole word where another bit of it changed
  Flag : ℕ → Bool → Change
  Flags : ℕ → Change
  -- the CPL, and SS
  Privilege : ℕ → Change
  Stack : ℕ → Change
  -- CR0, CR2, CR3 or CR4, by its number
  ControlRegister : ℕ → ℕ → Change
  -- bytes from a physical address on
  Stored : ℕ → List ℕ → Change
  -- the translation of a page, by the page's number, and an upper entry, by its level and the number that its pages share
  Filled : ℕ → Leaf → Change
  Dropped : ℕ → Change
  Kept : ℕ → ℕ → Upper → Change
  Forgotten : ℕ → ℕ → Change
  -- all translations and upper entries went
  Flushed : Change
  -- what the step shows: a byte of the console, a delivery, and the answer to a call
  Console : ℕ → Change
  Delivered : Delivery → Change
  Answered : Answer → Change
  Unread : Change
  -- the processor is halted now
  Halted : Change

-- a change where there is one
abbrev pub where_so : Bool → Change → List Change
where_so true change = change ∷ []
where_so false change = []

-- the general registers, from this number on
abbrev pub general_changes : ℕ → List ℕ → List ℕ → List Change
general_changes n (a ∷ before) (b ∷ after) = where_so (not (a == b)) (General n b) ++ general_changes (suc n) before after
general_changes n _ _ = []

-- the flags that have names (SDM volume 1, figure 3-8): CF, PF, AF, ZF, SF, IF, DF, OF
abbrev pub named_flags : List ℕ
named_flags = 0 ∷ 2 ∷ 4 ∷ 6 ∷ 7 ∷ 9 ∷ 10 ∷ 11 ∷ []

abbrev pub flag_changes : List ℕ → ℕ → ℕ → List Change
flag_changes [] before after = []
flag_changes (place ∷ places) before after =
    where_so (differ (bit before place) (bit after place)) (Flag place (bit after place)) ++ flag_changes places before after

-- the word with these flags clear
abbrev pub cleared : List ℕ → ℕ → ℕ
cleared [] word = word
cleared (place ∷ places) word = with_flag place false (cleared places word)

-- the registers, where the step's instruction has so many bytes
abbrev pub register_changes : ℕ → Regs → Regs → List Change
register_changes size before after =
    where_so (not (wrapped (before.rip + size) == after.rip)) (Rip after.rip)
    ++ (general_changes 0 before.general after.general
    ++ (flag_changes named_flags before.flags after.flags
    ++ (where_so (not (cleared named_flags before.flags == cleared named_flags after.flags)) (Flags after.flags)
    ++ (where_so (not (before.cpl == after.cpl)) (Privilege after.cpl)
    ++ where_so (not (before.ss == after.ss)) (Stack after.ss)))))

-- CR3 holds the address of the root's frame
abbrev pub control_changes : Control → Control → List Change
control_changes before after =
    where_so (not (before.cr0 == after.cr0)) (ControlRegister 0 after.cr0)
    ++ (where_so (not (before.cr2 == after.cr2)) (ControlRegister 2 after.cr2)
    ++ (where_so (not (before.root == after.root)) (ControlRegister 3 (4096 * after.root))
    ++ where_so (not (before.cr4 == after.cr4)) (ControlRegister 4 after.cr4)))

-- each of the first so many bytes stays
abbrev pub stay : ℕ → List ℕ → List ℕ → Bool
stay (suc n) (a ∷ before) (b ∷ after) = a == b && stay n before after
stay _ _ _ = true

-- how many bytes more a run has that goes on here: it ends before eight in a row that stay, and before the last ones that do
abbrev pub run_rest : List ℕ → List ℕ → ℕ
run_rest (a ∷ before) (b ∷ after) = if stay 8 (a ∷ before) (b ∷ after) then 0 else suc (run_rest before after)
run_rest _ _ = 0

-- the runs of bytes that change, from this place on, behind so many bytes of the run that goes on
abbrev pub runs : ℕ → ℕ → List ℕ → List ℕ → List Change
runs place (suc more) (a ∷ before) (b ∷ after) = runs (suc place) more before after
runs place zero (a ∷ before) (b ∷ after) =
    if a == b then runs (suc place) zero before after
    else Stored place (b ∷ take (run_rest before after) after) ∷ runs (suc place) (run_rest before after) before after
runs place _ _ _ = []

-- of so many frames from this one on
abbrev pub memory_changes : ℕ → ℕ → List ℕ → List ℕ → List Change
memory_changes zero frame before after = []
memory_changes (suc n) frame before after =
    runs (4096 * frame) 0 (frame_bytes before frame) (frame_bytes after frame) ++ memory_changes n (suc frame) before after

-- the same rights, translation, and upper entry
abbrev pub same_bool : Bool → Bool → Bool
same_bool a b = not (differ a b)

abbrev pub same_rights : Rights → Rights → Bool
same_rights a b = same_bool a.can_write b.can_write && (same_bool a.user b.user && same_bool a.exec b.exec)

abbrev pub same_pair : ℕ × Leaf → ℕ × Leaf → Bool
same_pair a b = a.0 == b.0 && (a.1.frame == b.1.frame && same_rights a.1.rights b.1.rights)

abbrev pub same_entry : KeptEntry → KeptEntry → Bool
same_entry a b = a.0 == b.0 && (a.1 == b.1 && (a.2.frame == b.2.frame && same_rights a.2.rights b.2.rights))

-- one of a list is this one, and an entry of a list has this level and these pages
abbrev pub has_pair : ℕ × Leaf → Pairs → Bool
has_pair pair [] = false
has_pair pair (other ∷ pairs) = same_pair pair other || has_pair pair pairs

abbrev pub has_entry : KeptEntry → List KeptEntry → Bool
has_entry entry [] = false
has_entry entry (other ∷ upper) = same_entry entry other || has_entry entry upper

abbrev pub has_span : KeptEntry → List KeptEntry → Bool
has_span entry [] = false
has_span entry (other ∷ upper) = (entry.0 == other.0 && entry.1 == other.1) || has_span entry upper

-- the translations that are kept afterwards and weren't before, and the pages of which one was kept and none is, each in the
-- order in which they are kept
abbrev pub fills : Pairs → Pairs → List Change
fills before [] = []
fills before (pair ∷ after) = where_so (not (has_pair pair before)) (Filled pair.0 pair.1) ++ fills before after

abbrev pub drops : Pairs → Pairs → List Change
drops [] after = []
drops (pair ∷ before) after = where_so (is_none (look after pair.0)) (Dropped pair.0) ++ drops before after

-- and the upper entries likewise
abbrev pub keeps : List KeptEntry → List KeptEntry → List Change
keeps before [] = []
keeps before (entry ∷ after) = where_so (not (has_entry entry before)) (Kept entry.0 entry.1 entry.2) ++ keeps before after

abbrev pub forgets : List KeptEntry → List KeptEntry → List Change
forgets [] after = []
forgets (entry ∷ before) after = where_so (not (has_span entry after)) (Forgotten entry.0 entry.1) ++ forgets before after

-- what the processor keeps of walks; where all goes, that is told in place of each
abbrev pub translation_changes : Bool → Translations → Translations → List Change
translation_changes true before after = Flushed ∷ []
translation_changes false before after =
    fills before.pairs after.pairs
    ++ (drops before.pairs after.pairs ++ (keeps before.upper after.upper ++ forgets before.upper after.upper))

-- the answer to a call, and that its source couldn't be read
abbrev pub is_unreadable : Took → Bool
is_unreadable took.Unreadable = true
is_unreadable _ = false

-- what the step shows
abbrev pub shown_changes : Step → List Change
shown_changes (step.Seen (seen.Console byte)) = Console byte ∷ []
shown_changes (step.Seen (seen.Delivered it)) = Delivered it ∷ []
shown_changes (step.Called called) = Answered called.answer ∷ where_so (is_unreadable called.source) Unread
shown_changes _ = []

-- the answer to a call may drop all that is kept of walks
abbrev pub flushes : Step → Bool
flushes (step.Called called) = called.answer.flush
flushes _ = false

-- all changes of a step behind which so many bytes of an instruction are passed: of the processor, of memory, of what is kept
-- of walks, what is shown, and that the processor is halted
unfoldable pub step_changes : ℕ → Step → Processor → Processor → List ℕ → List ℕ → List Change
step_changes size it before after m n =
    register_changes size before.regs after.regs
    ++ (control_changes before.control after.control
    ++ (memory_changes (length m / 4096) 0 m n
    ++ (translation_changes (flushes it) before.tlb after.tlb
    ++ (shown_changes it ++ where_so (not before.halted && after.halted) Halted))))
