-- Branches, calls, returns, traps and flags at worked values, by the pages of SDM volume 2. An instruction stands
-- at 1000 (hexadecimal) and the next at 1003; at 2010 stands 2000, and at 2008 a number that isn't canonical.
use Rattle.std.proofs.Common.{◌≡◌, ℕ, ◌^◌, ◌-◌, List, refl}
use Rattle.std.specs.Prelude.{Ok, Err, None}
use Rattle.decode_fields.specs.declared.place.Place.{Place}
use Rattle.decode_fields.specs.declared.place.Place.TheVariants.{Nothing, Reg, Value}
use Rattle.x86_decode.specs.declared.instruction.Instr.{Instr}
use Rattle.x86_decode.specs.declared.operation.Op.{Op}
use Rattle.x86_decode.specs.declared.operation.Op.TheVariants as op
use Rattle.nk_bits.specs.Accesses.{accessed, completed, reached, crosses, first_part, has_canonical_bytes, wp_of, smep_of}
use Rattle.phys_mem.specs.Memory.{number_at}
use Rattle.page_walk.specs.AccessPlans.{gathered}
use Rattle.x86_alu.specs.Flags.{with_flag}
use Rattle.x86_regs.specs.declared.effects.Act.TheVariants as act
use Rattle.x86_regs.specs.declared.faults.Fault.TheVariants as fault
use Rattle.x86_regs.specs.Combinations.{condition_stands}
use Rattle.x86_regs.specs.Effects.{effect_of, frame_popped}
use Rattle.x86_regs.proofs.WorkedState.{at, bytes_at, effect, effect_at, general, going, instr, quiet, regs_at, three, writing, asking}

-- an operation of 64 bits with this operand and number
near : Op → Place → ℕ → Instr
near op from value = instr op 64 Nothing from value

-- JE (4) and JMP: behind the next instruction by a number that may be negative; to what a register or memory holds
branches :
    (effect (near (op.J 4) Value 0x10) (three 5 6 7) 0x42 ≡ going 0x1013 (three 5 6 7) 0x42 None act.Quiet) ×
    (effect (near (op.J 4) Value 0x10) (three 5 6 7) 2 ≡ quiet (three 5 6 7) 2) ×
    (effect (near (op.J 5) Value (2 ^ 64 - 0x13)) (three 5 6 7) 2 ≡ going 0xFF0 (three 5 6 7) 2 None act.Quiet) ×
    (effect (near op.Jmp Value (2 ^ 64 - 0x1004)) (three 5 6 7) 2 ≡ going (2 ^ 64 - 1) (three 5 6 7) 2 None act.Quiet) ×
    (effect (near op.Jmp (Reg 0) 0) (three (2 ^ 64 - 2 ^ 47) 6 7) 2 ≡ going (2 ^ 64 - 2 ^ 47) (three (2 ^ 64 - 2 ^ 47) 6 7) 2 None act.Quiet) ×
    (effect (near op.Jmp (at 4 8) 0) (three 5 6 7) 2 ≡ going 0x2000 (three 5 6 7) 2 None act.Quiet)
unfolding effect_of gathered condition_stands near accessed completed reached crosses has_canonical_bytes first_part number_at wp_of smep_of
branches = (refl, refl, refl, refl, refl, refl)

-- a target that isn't canonical raises #GP(0), unless the branch isn't taken; nothing is changed, RSP and RCX
-- neither
no_targets :
    (effect (near (op.J 4) Value (2 ^ 47 - 0x1003)) (three 5 6 7) 0x42 ≡ Err (fault.General 0)) ×
    (effect (near (op.J 4) Value (2 ^ 47 - 0x1003)) (three 5 6 7) 2 ≡ quiet (three 5 6 7) 2) ×
    (effect (near (op.J 4) Value (2 ^ 47 - 0x1004)) (three 5 6 7) 0x42 ≡ going (2 ^ 47 - 1) (three 5 6 7) 0x42 None act.Quiet) ×
    (effect (near op.Jmp (Reg 0) 0) (three (2 ^ 64 - 2 ^ 47 - 1) 6 7) 2 ≡ Err (fault.General 0)) ×
    (effect (near op.Jmp (at 4 0) 0) (three 5 6 7) 2 ≡ Err (fault.General 0)) ×
    (effect (near op.Call (Reg 0) 0) (three (2 ^ 47) 6 7) 2 ≡ Err (fault.General 0)) ×
    (effect (near op.Ret Value 0) (three 5 6 7) 2 ≡ Err (fault.General 0)) ×
    (effect (near op.Loop Value (2 ^ 47)) (three 5 2 7) 2 ≡ Err (fault.General 0)) ×
    (effect (near op.Loop Value (2 ^ 47)) (three 5 1 7) 2 ≡ quiet (three 5 0 7) 2)
unfolding effect_of gathered condition_stands near accessed completed reached crosses has_canonical_bytes first_part number_at wp_of smep_of
no_targets = (refl, refl, refl, refl, refl, refl, refl, refl, refl)

-- RSP alone
stacked : ℕ → List ℕ
stacked sp = general 5 6 7 sp 0x2008 0x2000 0x2008

-- CALL pushes the next instruction's address; by RSP it goes to RSP as it was, and by memory at RSP to what stands
-- there before
calls :
    (effect (near op.Call Value 0x10) (stacked 0x2008) 2 ≡ going 0x1013 (stacked 0x2000) 2 (bytes_at 0 8 0x1003) act.Quiet) ×
    (effect (near op.Call (Reg 4) 0) (stacked 0x2010) 2 ≡ going 0x2010 (stacked 0x2008) 2 (bytes_at 8 8 0x1003) act.Quiet) ×
    (effect (near op.Call (at 4 0) 0) (stacked 0x2010) 2 ≡ going 0x2000 (stacked 0x2008) 2 (bytes_at 8 8 0x1003) act.Quiet)
unfolding effect_of gathered near stacked accessed completed reached crosses has_canonical_bytes first_part number_at wp_of smep_of
calls = (refl, refl, refl)

-- RET, and RET of 10, which raises RSP by 10 more
returns_near :
    (effect (near op.Ret Value 0) (stacked 0x2010) 2 ≡ going 0x2000 (stacked 0x2018) 2 None act.Quiet) ×
    (effect (near op.Ret Value 0x10) (stacked 0x2010) 2 ≡ going 0x2000 (stacked 0x2028) 2 None act.Quiet) ×
    (effect (near op.Ret Value 0xFFFF) (stacked 0x2010) 2 ≡ going 0x2000 (stacked 0x12017) 2 None act.Quiet)
unfolding effect_of gathered near stacked accessed completed reached crosses has_canonical_bytes first_part number_at wp_of smep_of
returns_near = (refl, refl, refl)

-- LOOP lowers RCX first: 2 goes on, 1 is the last turn, 0 wraps. LOOPE wants ZF too, LOOPNE wants it clear. JRCXZ
-- lowers nothing
loops :
    (effect (near op.Loop Value 0x10) (three 5 2 7) 2 ≡ going 0x1013 (three 5 1 7) 2 None act.Quiet) ×
    (effect (near op.Loop Value 0x10) (three 5 1 7) 2 ≡ quiet (three 5 0 7) 2) ×
    (effect (near op.Loop Value 0x10) (three 5 0 7) 2 ≡ going 0x1013 (three 5 (2 ^ 64 - 1) 7) 2 None act.Quiet) ×
    (effect (near op.Loope Value 0x10) (three 5 2 7) 0x42 ≡ going 0x1013 (three 5 1 7) 0x42 None act.Quiet) ×
    (effect (near op.Loope Value 0x10) (three 5 2 7) 2 ≡ quiet (three 5 1 7) 2) ×
    (effect (near op.Loope Value 0x10) (three 5 1 7) 0x42 ≡ quiet (three 5 0 7) 0x42) ×
    (effect (near op.Loopne Value 0x10) (three 5 2 7) 2 ≡ going 0x1013 (three 5 1 7) 2 None act.Quiet) ×
    (effect (near op.Loopne Value 0x10) (three 5 2 7) 0x42 ≡ quiet (three 5 1 7) 0x42) ×
    (effect (near op.Loopne Value 0x10) (three 5 1 7) 2 ≡ quiet (three 5 0 7) 2) ×
    (effect (near op.Jrcxz Value 0x10) (three 5 0 7) 2 ≡ going 0x1013 (three 5 0 7) 2 None act.Quiet) ×
    (effect (near op.Jrcxz Value 0x10) (three 5 1 7) 2 ≡ quiet (three 5 1 7) 2)
unfolding effect_of gathered near
loops = (refl, refl, refl, refl, refl, refl, refl, refl, refl, refl, refl)

-- INT3 and INT 2F go on behind themselves, which is what the delivery saves. IRETQ pops five words from RSP up and
-- leaves the rest to the return
traps :
    (effect (near op.Int3 Nothing 0) (three 5 6 7) 2 ≡ asking (three 5 6 7) 2 (act.Interrupt 3)) ×
    (effect (near op.Int Value 0x2F) (three 5 6 7) 2 ≡ asking (three 5 6 7) 2 (act.Interrupt 0x2F)) ×
    (effect (near op.Iretq Nothing 0) (stacked 0x2010) 2 ≡ asking (stacked 0x2010) 2 (act.Return (record { rip = 0x2000; cs = 0x1B; flags = 0xFFFFFF; rsp = 0x3000; ss = 0x23 })))
unfolding effect_of frame_popped gathered near stacked accessed completed reached crosses has_canonical_bytes first_part number_at wp_of smep_of
traps = (refl, refl, refl)

-- CMC, CLC, STC, CLD and STD (DF is 400) change their flag alone, and run at CPL 3
flags_set :
    (effect (near op.Cmc Nothing 0) (three 5 6 7) 0x8D7 ≡ quiet (three 5 6 7) 0x8D6) ×
    (effect (near op.Cmc Nothing 0) (three 5 6 7) 2 ≡ quiet (three 5 6 7) 3) ×
    (effect (near op.Clc Nothing 0) (three 5 6 7) 0xED7 ≡ quiet (three 5 6 7) 0xED6) ×
    (effect (near op.Stc Nothing 0) (three 5 6 7) 2 ≡ quiet (three 5 6 7) 3) ×
    (effect (near op.Cld Nothing 0) (three 5 6 7) 0xED7 ≡ quiet (three 5 6 7) 0xAD7) ×
    (effect (near op.Std Nothing 0) (three 5 6 7) 2 ≡ quiet (three 5 6 7) 0x402) ×
    (effect_at 3 (near op.Std Nothing 0) (three 5 6 7) 2 ≡ Ok (record { regs = regs_at 0x1003 (three 5 6 7) 0x402 3; write = None; act = act.Quiet }))
unfolding effect_of gathered with_flag near
flags_set = (refl, refl, refl, refl, refl, refl, refl)

-- STI sets IF (200) and shields the next instruction once: not where IF stands already. At CPL 3 both raise #GP(0)
interrupts :
    (effect (near op.Sti Nothing 0) (three 5 6 7) 2 ≡ asking (three 5 6 7) 0x202 act.Enable) ×
    (effect (near op.Sti Nothing 0) (three 5 6 7) 0x202 ≡ quiet (three 5 6 7) 0x202) ×
    (effect (near op.Cli Nothing 0) (three 5 6 7) 0xED7 ≡ quiet (three 5 6 7) 0xCD7) ×
    (effect_at 3 (near op.Sti Nothing 0) (three 5 6 7) 2 ≡ Err (fault.General 0)) ×
    (effect_at 3 (near op.Cli Nothing 0) (three 5 6 7) 2 ≡ Err (fault.General 0))
unfolding effect_of gathered with_flag near
interrupts = (refl, refl, refl, refl, refl)

-- PUSHFQ pushes the flags; POPFQ loads eight of them, and IF at CPL 0 alone; of 16 bits both raise #UD, at CPL 3
-- too
flags_moved :
    (effect (near op.Pushfq Nothing 0) (stacked 0x2008) 0xED7 ≡ writing (stacked 0x2000) 0xED7 0 8 0xED7) ×
    (effect (near op.Popfq Nothing 0) (stacked 0x2020) 2 ≡ quiet (stacked 0x2028) 0xED7) ×
    (effect (near op.Popfq Nothing 0) (stacked 0x2018) 0xED7 ≡ quiet (stacked 0x2020) 0x13) ×
    (effect_at 3 (near op.Popfq Nothing 0) (stacked 0x2020) 2 ≡ Ok (record { regs = regs_at 0x1003 (stacked 0x2028) 0xCD7 3; write = None; act = act.Quiet })) ×
    (effect_at 3 (near op.Popfq Nothing 0) (stacked 0x2018) 0x202 ≡ Ok (record { regs = regs_at 0x1003 (stacked 0x2020) 0x213 3; write = None; act = act.Quiet })) ×
    (effect (instr op.Pushfq 16 Nothing Nothing 0) (stacked 0x2008) 2 ≡ Err fault.Opcode) ×
    (effect_at 3 (instr op.Popfq 16 Nothing Nothing 0) (stacked 0x2008) 2 ≡ Err fault.Opcode)
unfolding effect_of gathered with_flag near stacked accessed completed reached crosses has_canonical_bytes first_part number_at wp_of smep_of
flags_moved = (refl, refl, refl, refl, refl, refl, refl)

-- UD2 raises #UD at either CPL, NOP does nothing
nothing_done :
    (effect (near op.Ud2 Nothing 0) (three 5 6 7) 2 ≡ Err fault.Opcode) × (effect_at 3 (near op.Ud2 Nothing 0) (three 5 6 7) 2 ≡ Err fault.Opcode) ×
    (effect (near op.Nop Nothing 0) (three 5 6 7) 0x8D7 ≡ quiet (three 5 6 7) 0x8D7)
unfolding effect_of gathered near
nothing_done = (refl, refl, refl)
