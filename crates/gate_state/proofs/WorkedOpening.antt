-- The processor of the opening at worked values: its control registers by the manual's bits, and each general register.
use Rattle.std.proofs.Common.{◌≡◌, ◌+◌, ◌-◌, ◌*◌, ◌^◌, refl}
use Rattle.std.specs.Prelude.{slice_index, length}
use Rattle.elf_image.specs.Pages.{entry_of}
use Rattle.boot_map.specs.Division.{need}
use Rattle.gate_state.specs.MachineOpening.{opening_control, opening_regs, opening_tables}
use Rattle.gate_state.specs.MachineStates.{Opening}

-- CR0 is PE, WP and PG; CR4 is PAE and SMEP; EFER is LME, LMA and NXE (SDM volume 3, 2.5 and 2.2.1). The root is frame 5
control_bits : (opening_control.cr0 ≡ 2 ^ 0 + 2 ^ 16 + 2 ^ 31) × (opening_control.cr4 ≡ 2 ^ 5 + 2 ^ 20)
    × (opening_control.efer ≡ 2 ^ 8 + 2 ^ 10 + 2 ^ 11) × (opening_control.root ≡ 5) × (opening_control.cr2 ≡ 0)
control_bits = (refl, refl, refl, refl, refl)

-- 48 gates of sixteen bytes stand from the kernel slot's first page on, and the task-state segment 1,024 bytes behind it
tables_begin : (opening_tables.idt ≡ 2 ^ 64 - 2 ^ 39) × (opening_tables.limit ≡ 48 * 16 - 1)
    × (opening_tables.tss ≡ opening_tables.idt + 1024)
tables_begin = (refl, refl, refl)

-- RSP is the end of the slot's fourth page, RSI the number of frames, RDI the first free frame; the others are 0
registers_begin : (o : Opening) → (length (opening_regs o).general ≡ 16)
    × (slice_index (opening_regs o).general 4 ≡ 2 ^ 64 - 2 ^ 39 + 4 * 4096)
    × (slice_index (opening_regs o).general 6 ≡ o.frames) × (slice_index (opening_regs o).general 7 ≡ need o.image o.frames)
    × (slice_index (opening_regs o).general 0 ≡ 0) × (slice_index (opening_regs o).general 1 ≡ 0)
    × (slice_index (opening_regs o).general 2 ≡ 0) × (slice_index (opening_regs o).general 3 ≡ 0)
    × (slice_index (opening_regs o).general 5 ≡ 0) × (slice_index (opening_regs o).general 8 ≡ 0)
    × (slice_index (opening_regs o).general 15 ≡ 0)
registers_begin o = (refl, refl, refl, refl, refl, refl, refl, refl, refl, refl, refl)

-- the supervisor stands at the image's entry with its data segment in SS and only the flags' fixed bit 1 set
supervisor_begins : (o : Opening) → ((opening_regs o).rip ≡ entry_of o.image) × ((opening_regs o).flags ≡ 2)
    × ((opening_regs o).cpl ≡ 0) × ((opening_regs o).ss ≡ 0x10)
supervisor_begins o = (refl, refl, refl, refl)
