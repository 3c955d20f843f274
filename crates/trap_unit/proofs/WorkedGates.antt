-- Gates at worked values: SDM volume 3, figure 6-8 and 6.12.1.2.
use Rattle.std.proofs.Common.{◌≡◌, ℕ, true, false, refl}
use Rattle.x86_regs.specs.declared.delivery.Tables.{Tables}
use Rattle.trap_unit.specs.declared.gate.Gate.{Gate}
use Rattle.trap_unit.specs.TrapDelivery.{descriptor_address, gate_level, gate_offset, is_good, passes_limit}

abbrev gate : ℕ → ℕ → Gate
gate low high = record { low = low; high = high }

-- gate 0, 40 10 08 00 01 8E 00 00 80 FF FF FF 00 00 00 00, and gates with other offsets
offsets :
    (gate_offset (gate 0x00008E0100081040 0xFFFFFF80) ≡ 0xFFFFFF8000001040) ×
    (gate_offset (gate 0x0000EE01000811B8 0xFFFFFF80) ≡ 0xFFFFFF80000011B8) ×
    (gate_offset (gate 0x12348E0100085678 0x9ABCDEF000000000) ≡ 0x12345678) ×
    (gate_offset (gate 0xFFFF000000000000 0xFFFFFFFF) ≡ 0xFFFFFFFFFFFF0000)
offsets = (refl, refl, refl, refl)

levels :
    (gate_level 0x00008E0100081040 ≡ 0) × (gate_level 0x0000AE0100081040 ≡ 1) ×
    (gate_level 0x0000CE0100081040 ≡ 2) × (gate_level 0x0000EE0100081040 ≡ 3) ×
    (gate_level 0xFFFF9FFFFFFFFFFF ≡ 0)
levels = (refl, refl, refl, refl, refl)

-- one that is good at any level; then not present, another type, another selector, another IST, a bad address
judgements :
    (is_good (gate 0x00008E0100081040 0xFFFFFF80) ≡ true) ×
    (is_good (gate 0x0000EE01000811B8 0xFFFFFF80) ≡ true) ×
    (is_good (gate 0x00000E0100081040 0xFFFFFF80) ≡ false) ×
    (is_good (gate 0x00008F0100081040 0xFFFFFF80) ≡ false) ×
    (is_good (gate 0x0000860100081040 0xFFFFFF80) ≡ false) ×
    (is_good (gate 0x00008E0100101040 0xFFFFFF80) ≡ false) ×
    (is_good (gate 0x00008E01000B1040 0xFFFFFF80) ≡ false) ×
    (is_good (gate 0x00008E0000081040 0xFFFFFF80) ≡ false) ×
    (is_good (gate 0x00008E0500081040 0xFFFFFF80) ≡ false) ×
    (is_good (gate 0x00008E0100081040 0x00008000) ≡ false) ×
    (is_good (gate 0x00008E0100081040 0xFFFF7FFF) ≡ false)
judgements = (refl, refl, refl, refl, refl, refl, refl, refl, refl, refl, refl)

abbrev tables : ℕ → ℕ → Tables
tables idt limit = record { idt = idt; limit = limit; tss = 0xFFFFFF8000000400 }

-- the table of 48 gates, and tables that lack gate 0's last byte or end with it
limits :
    (passes_limit (tables 0 767) 47 ≡ false) × (passes_limit (tables 0 767) 48 ≡ true) ×
    (passes_limit (tables 0 14) 0 ≡ true) × (passes_limit (tables 0 15) 0 ≡ false)
limits = (refl, refl, refl, refl)

-- the last gate of 256, and one whose address wraps
addresses :
    (descriptor_address (tables 0xFFFFFF8000000000 4095) 255 ≡ 0xFFFFFF8000000FF0) ×
    (descriptor_address (tables 0xFFFFFFFFFFFFFFF8 4095) 1 ≡ 8)
addresses = (refl, refl)
