-- The processor between two turns, and what it is about to deliver.
use Rattle.std.specs.Prelude.{ℕ, ◌≡◌, ◌⊎◌, ◌+◌, ◌==◌, ◌&&◌, Bool, false, not, if◌then◌else◌, List, Option, Some, None}
use Rattle.nk_bits.specs.declared.control.Control.{Control}
use Rattle.nk_bits.specs.Translations.{IsAccessible, Translations, flushed}
use Rattle.x86_alu.specs.Scans.{scanned}
use Rattle.x86_alu.specs.SignedNumbers.{bit}
use Rattle.x86_regs.specs.declared.delivery.Tables.{Tables}
use Rattle.x86_regs.specs.declared.registers.Regs.{Regs}
use Rattle.x86_regs.specs.Combinations.{interrupt_flag}

-- `input` are the bytes of the input that are still to be taken; bit v - 32 of `pending` is set where the maskable
-- vector v waits; STI shields the next instruction from interrupts
pub record Processor : Type 0 where
  pub regs : Regs
  pub control : Control
  pub tables : Tables
  pub tlb : Translations
  pub input : List ℕ
  pub pending : ℕ
  pub shielded : Bool
  pub halted : Bool

-- a processor as it begins: it keeps no translation, nothing is pending, and it runs
abbrev pub started : Regs → Control → Tables → List ℕ → Processor
started regs control tables input = record {
  regs = regs;
  control = control;
  tables = tables;
  tlb = flushed;
  input = input;
  pending = 0;
  shielded = false;
  halted = false;
}

-- the highest of the pending vectors, 32 to 47
abbrev pub highest_pending : ℕ → Option ℕ
highest_pending pending = if pending == 0 then None else Some (32 + scanned false pending)

-- the vector that is delivered before the next instruction: IF is set, and no shield stands
abbrev pub deliverable : Processor → Option ℕ
deliverable p = if bit p.regs.flags interrupt_flag && not p.shielded then highest_pending p.pending else None

-- what a turn asks of a processor over a memory of so many bytes, and leaves so: the CPL is 0 or 3, and the root and each
-- frame that a translation names lie in it
pub record IsSound (size : ℕ) (p : Processor) : Type 0 where
  pub cpl : (p.regs.cpl ≡ 0) ⊎ (p.regs.cpl ≡ 3)
  pub context : IsAccessible size p.control.root p.tlb
