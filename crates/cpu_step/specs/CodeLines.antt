-- Lines of code: bytes of code and the quick forms of instructions in them, and turns that they make.
use Rattle.std.specs.Prelude.{◌≡◌, ℕ, zero, suc, ◌+◌, ◌-◌, ◌/◌, ◌%◌, ◌<◌, ◌≤◌, true, false, List, [], ◌∷◌, All, length, slice_index_or, ⊤}
use Rattle.nk_bits.specs.declared.control.Control.{Control}
use Rattle.nk_bits.specs.Translations.{NamesFramesIn, Translations}
use Rattle.phys_mem.specs.Memory.{byte_at}
use Rattle.x86_decode.specs.Reader.{decoded_of}
use Rattle.x86_regs.specs.declared.registers.Regs.{Regs}
use Rattle.mem_access.specs.declared.window.Window.{Window}
use Rattle.mem_access.specs.Windows.{IsWindow}
use Rattle.exec_quick.specs.declared.quick.Quick.{Quick}
use Rattle.exec_quick.specs.QuickForms.{AreSameOnPages, IsQuick, StandsFor, has_register_first, is_slow}
use Rattle.cpu_step.specs.declared.kept_code.KeptCode.{KeptCode}
use Rattle.cpu_step.specs.declared.lines.Line.{Line}
use Rattle.cpu_step.specs.KeptFetches.{IsKeptCode}
use Rattle.cpu_step.specs.Processor.{Processor}
use Rattle.cpu_step.specs.QuickTurns.{AreQuickTurns}

-- the n bytes behind the first i bytes from place p on
abbrev pub code_behind : List ℕ → ℕ → ℕ → ℕ → List ℕ
code_behind m p i zero = []
code_behind m p i (suc n) = byte_at m (p + i) ∷ code_behind m p (suc i) n

-- a quick form that can be made, and that stands for what fifteen bytes of this code decode to from its place in it on,
-- unless there is none; they are among the first `size` bytes, with one more
pub record IsFormIn (code : List ℕ) (size : ℕ) (q : Quick) : Type 0 where
  pub ready : IsQuick q
  pub register : has_register_first q.kind ≡ true → q.to < 16
  pub within : q.at + 16 ≤ size
  pub stands : is_slow q.kind ≡ false → StandsFor q (decoded_of (code_behind code q.at 0 15))

-- the first so many forms stand one behind the other
pub record IsRow (forms : List Quick) (count : ℕ) : Type 0 where
  pub all : length forms ≡ 16
  pub few : count ≤ 16
  pub first : (d : Quick) → 0 < count → (slice_index_or forms 0 d).at ≡ 0
  pub next : (d : Quick) (i : ℕ) → i + 1 < count → (slice_index_or forms (i + 1) d).at ≡ (slice_index_or forms i d).at + (slice_index_or forms i d).size

-- quick forms stand one behind the other from this address on, in a line that begins at `start`
abbrev pub AreFrom : ℕ → ℕ → List Quick → Type 0
AreFrom start at [] = ⊤
AreFrom start at (q ∷ forms) = (at ≡ start + q.at) × AreFrom start (at + q.size) forms

-- a line whose forms are those of its code, and whose stamp isn't above this one
pub record IsLineBy (stamp : ℕ) (line : Line) : Type 0 where
  pub some : 16 ≤ line.size
  pub size : line.size ≤ 64
  pub whole : line.size % 8 ≡ 0
  pub forms : All (IsFormIn line.code line.size) line.forms
  pub row : IsRow line.forms line.count
  pub stamped : line.stamp ≤ stamp

-- memory has the line's code at the place of its address, which is in this code
pub record IsCodeIn (code : KeptCode) (m : List ℕ) (line : Line) : Type 0 where
  pub from : code.start ≤ line.at
  pub to : line.at + line.size ≤ code.start + code.last + 16
  pub same : (k : ℕ) → k < line.size → byte_at line.code k ≡ byte_at m (code.base + (line.at - code.start) + k)

-- the number among four codes of the one for this address
abbrev pub code_number : ℕ → ℕ
code_number at = at / 4096 % 4

-- the same in the one of four codes for its address
abbrev pub IsCodeInOne : List KeptCode → List ℕ → Line → Type 0
IsCodeInOne codes m line = (d : KeptCode) → IsCodeIn (slice_index_or codes (code_number line.at) d) m line

-- the same where it has this stamp
pub record IsLineOf (stamp : ℕ) (codes : List KeptCode) (m : List ℕ) (line : Line) : Type 0 where
  pub by : IsLineBy stamp line
  pub here : line.stamp ≡ stamp → IsCodeInOne codes m line

-- a processor with these registers that runs, and to which nothing is delivered
pub record IsPlain (r : Regs) (c : Control) (t : Translations) (p : Processor) : Type 0 where
  pub regs : p.regs ≡ r
  pub control : p.control ≡ c
  pub tlb : p.tlb ≡ t
  pub runs : p.halted ≡ false
  pub open_to : p.shielded ≡ false
  pub none : p.pending ≡ 0

-- the place of the first byte of the page that has the code
abbrev pub page_place : KeptCode → ℕ
page_place code = code.base - code.base % 4096

-- code is kept over a memory of so many bytes, and its page, under its number, isn't kept for writes
pub record IsPageStretch (size : ℕ) (control : Control) (cpl : ℕ) (tlb : Translations) (code : KeptCode) (window : Window) : Type 0 where
  pub kept : IsKeptCode size control cpl tlb code
  pub windowed : IsWindow size control cpl tlb window
  pub off : slice_index_or window.off (code_number code.start) 0 ≡ page_place code
  pub frames : NamesFramesIn size tlb

-- four codes are kept, and the page of each, under the number where it stands, isn't kept for writes
pub record IsStretch (size : ℕ) (control : Control) (cpl : ℕ) (tlb : Translations) (codes : List KeptCode) (window : Window) : Type 0 where
  pub count : length codes ≡ 4
  pub kept : All (IsKeptCode size control cpl tlb) codes
  pub windowed : IsWindow size control cpl tlb window
  pub off : (i : ℕ) (d : KeptCode) → i < 4 → slice_index_or window.off i 0 ≡ page_place (slice_index_or codes i d)
  pub frames : NamesFramesIn size tlb

-- so many quick turns lead from the one to the other, over this window of data
pub record AreMadeOn (n : ℕ) (control : Control) (tlb : Translations) (from : Regs) (m : List ℕ) (before : Window) (to : Regs) (o : List ℕ) (after : Window) : Type 0 where
  pub turns : (p : Processor) → IsPlain from control tlb p → AreQuickTurns n p m (record p { regs = to }) o
  pub code : AreSameOnPages before.off m o
  pub off : after.off ≡ before.off
  pub size : length o ≡ length m
  pub cpl : to.cpl ≡ from.cpl
  pub windowed : IsWindow (length o) control to.cpl tlb after

-- the same of turns over any window
pub record AreTurns (n : ℕ) (control : Control) (tlb : Translations) (from : Regs) (m : List ℕ) (to : Regs) (o : List ℕ) : Type 0 where
  pub turns : (p : Processor) → IsPlain from control tlb p → AreQuickTurns n p m (record p { regs = to }) o
  pub size : length o ≡ length m
  pub cpl : to.cpl ≡ from.cpl
