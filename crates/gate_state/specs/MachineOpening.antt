-- The machine as a run begins: the opening's memory and kinds, and the processor at the image's entry.
use Rattle.std.specs.Prelude.{ℕ, ◌*◌, List, [], ◌∷◌, map}
use Rattle.std.specs.List.{range_with_len}
use Rattle.nk_bits.specs.declared.control.Control.{Control}
use Rattle.nk_bits.specs.KernelLayout.{area_start, opening_root, trap_stack_top, tss_address}
use Rattle.x86_regs.specs.declared.delivery.Tables.{Tables}
use Rattle.x86_regs.specs.declared.registers.Regs.{Regs}
use Rattle.elf_image.specs.Pages.{entry_of}
use Rattle.boot_map.specs.Division.{need}
use Rattle.boot_map.specs.Opening.{division_byte}
use Rattle.boot_map.specs.OpeningKinds.{kinds}
use Rattle.cpu_step.specs.Processor.{started}
use Rattle.nk_body.specs.SourceWords.{opening_ledger}
use Rattle.gate_state.specs.MachineStates.{MachineState, Opening}

-- the opening's memory as a list
unfoldable pub opening_memory : Opening → List ℕ
opening_memory o = map (division_byte o.image o.frames) (range_with_len 0 (4096 * o.frames))

-- RSP is the top of the trap stack, RDI the number of the first free frame, RSI the number of frames
abbrev pub opening_regs : Opening → Regs
opening_regs o = record {
  general = 0 ∷ 0 ∷ 0 ∷ 0 ∷ trap_stack_top ∷ 0 ∷ o.frames ∷ need o.image o.frames
      ∷ 0 ∷ 0 ∷ 0 ∷ 0 ∷ 0 ∷ 0 ∷ 0 ∷ 0 ∷ [];
  rip = entry_of o.image;
  flags = 2;
  cpl = 0;
  ss = 0x10;
}

-- CR0 has PG, WP and PE; CR4 SMEP and PAE; EFER NXE, LMA and LME; the root is the opening's
abbrev pub opening_control : Control
opening_control = record { cr0 = 0x80010001; cr2 = 0; root = opening_root; cr4 = 0x100020; efer = 0xD00 }

-- the interrupt descriptor table with 48 gates, and the task-state segment
abbrev pub opening_tables : Tables
opening_tables = record { idt = area_start; limit = 767; tss = tss_address }

-- the machine as a run begins, with these bytes of input
abbrev pub opening_state : Opening → List ℕ → MachineState
opening_state o input = record {
  processor = started (opening_regs o) opening_control opening_tables input;
  memory = opening_memory o;
  kinds = kinds o.image o.frames;
  ledger = opening_ledger;
  turns = 0;
  taken = 0;
}
