-- System instructions, conditions, accesses and the order of faults at worked values: SDM volume 2, volume 3, 2.5
-- and 4.6.
use Rattle.std.proofs.Common.{◌≡◌, ℕ, ◌^◌, ◌-◌, true, false, refl}
use Rattle.std.specs.Prelude.{Ok, Err, Some, None}
use Rattle.decode_fields.specs.declared.place.Place.{Place}
use Rattle.decode_fields.specs.declared.place.Place.TheVariants.{Nothing, Reg, Value}
use Rattle.decode_fields.specs.declared.parts.Rep.TheVariants.{No}
use Rattle.x86_decode.specs.declared.instruction.Instr.{Instr}
use Rattle.x86_decode.specs.declared.operation.Op.{Op}
use Rattle.x86_decode.specs.declared.operation.Op.TheVariants as op
use Rattle.nk_bits.specs.Accesses.{accessed, completed, reached, crosses, first_part, has_canonical_bytes, wp_of, smep_of}
use Rattle.phys_mem.specs.Memory.{number_at}
use Rattle.page_walk.specs.AccessPlans.{gathered}
use Rattle.x86_regs.specs.declared.effects.Act.TheVariants as act
use Rattle.x86_regs.specs.declared.faults.Fault.TheVariants as fault
use Rattle.x86_regs.specs.OperationForms.{form_of}
use Rattle.x86_regs.specs.OperandOutcomes.{is_cr0, is_cr3, is_cr4, outcome_by}
use Rattle.x86_regs.specs.Effects.{effect_of, refusal}
use Rattle.x86_regs.proofs.WorkedState.{asking, at, control, effect, instr, quiet, regs_at, three}

-- HLT; IN and OUT by a port that is a number, or DX, whose low 16 bits count
outside :
    (effect (instr op.Hlt 64 Nothing Nothing 0) (three 5 6 7) 2 ≡ asking (three 5 6 7) 2 act.Halt) ×
    (effect (instr op.In 8 (Reg 0) Value 0xEA) (three 5 6 7) 2 ≡ asking (three 5 6 7) 2 (act.In 0xEA)) ×
    (effect (instr op.In 8 (Reg 0) (Reg 2) 0) (three 5 6 0x113EB) 2 ≡ asking (three 5 6 0x113EB) 2 (act.In 0x13EB)) ×
    (effect (instr op.Out 8 Value (Reg 0) 0xE9) (three 0x1241 6 7) 2 ≡ asking (three 0x1241 6 7) 2 (act.Out 0x41 0xE9)) ×
    (effect (instr op.Out 8 (Reg 2) (Reg 0) 0) (three 0x1241 6 0x1103F8) 2 ≡ asking (three 0x1241 6 0x1103F8) 2 (act.Out 0x41 0x03F8))
unfolding effect_of gathered
outside = (refl, refl, refl, refl, refl)

-- MOV from CR0, CR2, CR3 (the root, 5, in bytes) and CR4
controls_read :
    (effect (instr op.Movfc 64 (Reg 1) Nothing 0) (three 5 6 7) 2 ≡ quiet (three 5 0x80010001 7) 2) ×
    (effect (instr op.Movfc 64 (Reg 1) Nothing 2) (three 5 6 7) 2 ≡ quiet (three 5 0x77 7) 2) ×
    (effect (instr op.Movfc 64 (Reg 1) Nothing 3) (three 5 6 7) 2 ≡ quiet (three 5 0x5000 7) 2) ×
    (effect (instr op.Movfc 64 (Reg 1) Nothing 4) (three 5 6 7) 2 ≡ quiet (three 5 0x20 7) 2)
unfolding effect_of gathered
controls_read = (refl, refl, refl, refl)

-- MOV to CR0: 80010033 and C0000001 and E0000001 are taken; a bit above 31, PG or PE clear, and NW without CD are
-- refused
cr0_written :
    (effect (instr op.Movtc 64 Nothing (Reg 0) 0) (three 0x80010033 6 7) 2 ≡ asking (three 0x80010033 6 7) 2 (act.Cr0 0x80010033)) ×
    (is_cr0 0x80000001 ≡ true) × (is_cr0 0xC0000001 ≡ true) × (is_cr0 0xE0000001 ≡ true) ×
    (effect (instr op.Movtc 64 Nothing (Reg 0) 0) (three 0x180010033 6 7) 2 ≡ Err (fault.General 0)) ×
    (effect (instr op.Movtc 64 Nothing (Reg 0) 0) (three 0x80010032 6 7) 2 ≡ Err (fault.General 0)) ×
    (effect (instr op.Movtc 64 Nothing (Reg 0) 0) (three 0x00010033 6 7) 2 ≡ Err (fault.General 0)) ×
    (effect (instr op.Movtc 64 Nothing (Reg 0) 0) (three 0xA0010033 6 7) 2 ≡ Err (fault.General 0)) ×
    (is_cr0 0x8000000080000001 ≡ false) × (is_cr0 0 ≡ false)
unfolding effect_of gathered
cr0_written = (refl, refl, refl, refl, refl, refl, refl, refl, refl, refl)

-- MOV to CR2, CR3 and CR4: of CR3 the frame must be in memory, whatever its low bits; CR4 is 20 or 100020
controls_written :
    (effect (instr op.Movtc 64 Nothing (Reg 0) 2) (three 0xFFFFFF 6 7) 2 ≡ asking (three 0xFFFFFF 6 7) 2 (act.Cr2 0xFFFFFF)) ×
    (is_cr3 512 0x1FFFFF ≡ true) × (is_cr3 512 0x200000 ≡ false) × (is_cr3 512 (2 ^ 63) ≡ false) ×
    (effect (instr op.Movtc 64 Nothing (Reg 0) 3) (three 0 6 7) 2 ≡ Err (fault.General 0)) ×
    (effect (instr op.Movtc 64 Nothing (Reg 0) 4) (three 0x20 6 7) 2 ≡ asking (three 0x20 6 7) 2 (act.Cr4 0x20)) ×
    (effect (instr op.Movtc 64 Nothing (Reg 0) 4) (three 0x100020 6 7) 2 ≡ asking (three 0x100020 6 7) 2 (act.Cr4 0x100020)) ×
    (effect (instr op.Movtc 64 Nothing (Reg 0) 4) (three 0x100000 6 7) 2 ≡ Err (fault.General 0)) ×
    (effect (instr op.Movtc 64 Nothing (Reg 0) 4) (three 0x21 6 7) 2 ≡ Err (fault.General 0)) ×
    (is_cr4 0x200020 ≡ false) × (is_cr4 0x100000020 ≡ false)
unfolding effect_of gathered
controls_written = (refl, refl, refl, refl, refl, refl, refl, refl, refl, refl, refl)

-- with 512 frames MOV to CR3 of 1FFFFF is taken whole; nothing was accessed
root_loaded :
    outcome_by (form_of op.Movtc) (instr op.Movtc 64 Nothing (Reg 0) 3) 0x1003 (regs_at 0x1000 (three 0x1FFFFF 6 7) 2 0) control 512 (record { both = None; to = 0; from = 0x1FFFFF }) ≡
    Ok (record { regs = regs_at 0x1003 (three 0x1FFFFF 6 7) 2 0; value = 0; act = act.Cr3 0x1FFFFF })
root_loaded = refl

-- LIDT: two bytes of limit, and eight of base behind them
table_loaded : effect (instr op.Lidt 64 Nothing (at 4 6) 0) (three 5 6 7) 2 ≡ asking (three 5 6 7) 2 (act.Idt 0x2000 0x1716)
unfolding effect_of gathered accessed completed reached crosses has_canonical_bytes first_part number_at wp_of smep_of
table_loaded = refl

-- INVLPG drops the page of its operand's address, which isn't accessed, and does nothing where that isn't canonical
page_dropped :
    (effect (instr op.Invlpg 64 Nothing (at 0 0xFFF) 0) (three 0x7000 6 7) 2 ≡ asking (three 0x7000 6 7) 2 (act.DropPage 7)) ×
    (effect (instr op.Invlpg 64 Nothing (at 0 0) 0) (three (2 ^ 64 - 2 ^ 47) 6 7) 2 ≡ asking (three (2 ^ 64 - 2 ^ 47) 6 7) 2 (act.DropPage (2 ^ 52 - 2 ^ 35))) ×
    (effect (instr op.Invlpg 64 Nothing (at 0 0) 0) (three (2 ^ 47) 6 7) 2 ≡ quiet (three (2 ^ 47) 6 7) 2)
unfolding effect_of gathered
page_dropped = (refl, refl, refl)

-- an instruction with F0
locked : Op → ℕ → Place → Place → ℕ → Instr
locked op width to from value = record { op = op; width = width; to = to; from = from; value = value; rep = No; lock = true }

-- LOCK where it may stand, and where it may not: on a register, on a source in memory, on another operation
locks :
    (refusal (locked op.Add 32 (at 4 0) (Reg 0) 0) 3 ≡ None) × (refusal (locked op.Xchg 8 (at 4 0) (Reg 0) 0) 3 ≡ None) ×
    (refusal (locked op.Bts 32 (at 4 0) Value 1) 0 ≡ None) × (refusal (locked op.Cmpxchg 32 (at 4 0) (Reg 1) 0) 0 ≡ None) ×
    (refusal (locked op.Add 32 (Reg 0) (Reg 1) 0) 3 ≡ Some fault.Opcode) × (refusal (locked op.Add 32 (Reg 0) (at 4 0) 0) 3 ≡ Some fault.Opcode) ×
    (refusal (locked op.Cmp 32 (at 4 0) (Reg 1) 0) 3 ≡ Some fault.Opcode) × (refusal (locked op.Mov 32 (at 4 0) (Reg 1) 0) 3 ≡ Some fault.Opcode) ×
    (refusal (locked op.Bt 32 (at 4 0) Value 1) 0 ≡ Some fault.Opcode) × (refusal (locked op.Shl 32 (at 4 0) Value 1) 0 ≡ Some fault.Opcode) ×
    (refusal (locked op.Nop 64 Nothing Nothing 0) 0 ≡ Some fault.Opcode) × (refusal (locked op.Pop 64 (at 4 0) Nothing 0) 0 ≡ Some fault.Opcode)
unfolding locked
locks = (refl, refl, refl, refl, refl, refl, refl, refl, refl, refl, refl, refl)

-- #UD by LOCK and by a control register that isn't there stands before #GP(0) by the CPL, and that before the #UD
-- of what this machine hasn't
conditions_in_order :
    (refusal (locked op.Cli 64 Nothing Nothing 0) 3 ≡ Some fault.Opcode) × (refusal (locked op.Wrmsr 64 Nothing Nothing 0) 3 ≡ Some fault.Opcode) ×
    (refusal (instr op.Movtc 64 Nothing (Reg 0) 1) 3 ≡ Some fault.Opcode) × (refusal (instr op.Movfc 64 (Reg 0) Nothing 8) 0 ≡ Some fault.Opcode) ×
    (refusal (instr op.Movtc 64 Nothing (Reg 0) 0) 3 ≡ Some (fault.General 0)) × (refusal (instr op.Movfc 64 (Reg 0) Nothing 3) 3 ≡ Some (fault.General 0)) ×
    (refusal (instr op.Wrmsr 64 Nothing Nothing 0) 3 ≡ Some (fault.General 0)) × (refusal (instr op.Wrmsr 64 Nothing Nothing 0) 0 ≡ Some fault.Opcode) ×
    (refusal (instr op.Movtd 64 Nothing (Reg 0) 7) 3 ≡ Some (fault.General 0)) × (refusal (instr op.Movtd 64 Nothing (Reg 0) 7) 0 ≡ Some fault.Opcode) ×
    (refusal (instr op.Lgdt 64 Nothing (at 4 0) 0) 0 ≡ Some fault.Opcode) × (refusal (instr op.Lmsw 16 Nothing (Reg 0) 0) 0 ≡ Some fault.Opcode) ×
    (refusal (instr op.Lldt 16 Nothing (Reg 0) 0) 0 ≡ Some fault.Opcode) × (refusal (instr op.Ltr 16 Nothing (Reg 0) 0) 0 ≡ Some fault.Opcode) ×
    (refusal (instr op.Lidt 64 Nothing (at 4 0) 0) 3 ≡ Some (fault.General 0)) × (refusal (instr op.Invlpg 64 Nothing (at 4 0) 0) 3 ≡ Some (fault.General 0)) ×
    (refusal (instr op.Hlt 64 Nothing Nothing 0) 3 ≡ Some (fault.General 0)) × (refusal (instr op.In 8 (Reg 0) Value 0xEA) 3 ≡ Some (fault.General 0)) ×
    (refusal (instr op.Out 8 Value (Reg 0) 0xE9) 3 ≡ Some (fault.General 0)) × (refusal (instr op.Iretq 64 Nothing Nothing 0) 3 ≡ None)
unfolding locked
conditions_in_order = (refl, refl, refl, refl, refl, refl, refl, refl, refl, refl, refl, refl, refl, refl, refl, refl, refl, refl, refl, refl)
