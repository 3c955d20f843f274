-- Which accesses an instruction makes and which fault comes first, at worked values: by the pages of SDM volume 2,
-- and volume 3, 4.7 and 6.15. RSP, RBP and RDI are 2008 (hexadecimal) unless told, RSI is 2000, and no page but
-- the third is mapped.
use Rattle.std.proofs.Common.{◌≡◌, ℕ, ◌+◌, ◌^◌, ◌-◌, Bool, true, false, List, [], ◌∷◌, refl}
use Rattle.std.specs.Prelude.{Ok, Err, Some, None}
use Rattle.decode_fields.specs.declared.place.Place.TheVariants.{Nothing, Reg, High, Mem, Value}
use Rattle.decode_fields.specs.declared.parts.Rep.TheVariants.{WhileEqual}
use Rattle.x86_decode.specs.declared.instruction.Instr.{Instr}
use Rattle.x86_decode.specs.declared.operation.Op.TheVariants as op
use Rattle.nk_bits.specs.declared.leaf.Upper.{Upper}
use Rattle.nk_bits.specs.Paging.{walk, page_index, is_missing, is_present, frame_of}
use Rattle.nk_bits.specs.Translations.{Translations, flushed}
use Rattle.nk_bits.specs.UpperEntries.{span_of, walk_by}
use Rattle.nk_bits.specs.Accesses.{accessed, completed, reached, crosses, first_part, next_page, has_canonical_bytes, wp_of, smep_of}
use Rattle.phys_mem.specs.Memory.{entry_in, number_at}
use Rattle.page_walk.specs.declared.plan.AccessPlan.{AccessPlan}
use Rattle.page_walk.specs.declared.plan.Span.{Span}
use Rattle.page_walk.specs.declared.plan.Origin.TheVariants.{Is, At}
use Rattle.page_walk.specs.AccessPlans.{gathered}
use Rattle.x86_alu.specs.Flags.{with_flag}
use Rattle.x86_regs.specs.declared.effects.Act.TheVariants as act
use Rattle.x86_regs.specs.declared.faults.Fault.TheVariants as fault
use Rattle.x86_regs.specs.Combinations.{condition_stands}
use Rattle.x86_regs.specs.OperandPlans.{instr_form, plan, plan_by}
use Rattle.x86_regs.specs.Effects.{effect_of, frame_popped}
use Rattle.x86_regs.proofs.WorkedState.{at, control, effect, effect_at, general, instr, memory, quiet, regs_at, three, writing}

-- the accesses of an instruction with RAX 1234567812345678, RCX 321 and RDX 7
accesses : Instr → AccessPlan
accesses i = plan_by (instr_form i) i 3 (regs_at 0x1000 (three 0x1234567812345678 0x321 7) 2 0)

-- so many bytes, addressed by the stack's registers or pushed and popped, or not
stack_bytes : ℕ → ℕ → Span
stack_bytes va width = record { va = va; width = width; stack = true }

bytes : ℕ → ℕ → Span
bytes va width = record { va = va; width = width; stack = false }

-- an operand in memory that is read and written is checked first; the other operand is read, a count at 8 bits
combined :
    (accesses (instr op.Add 16 (at 4 2) (Reg 1) 0) ≡ plan (Some (stack_bytes 0x200A 2)) (At (stack_bytes 0x200A 2)) (Is 0x321) None) ×
    (accesses (instr op.Add 32 (Reg 0) (at 7 4) 0) ≡ plan None (Is 0x12345678) (At (bytes 0x200C 4)) None) ×
    (accesses (instr op.Shl 64 (at 7 0) (Reg 1) 0) ≡ plan (Some (bytes 0x2008 8)) (At (bytes 0x2008 8)) (Is 0x21) None) ×
    (accesses (instr op.Shr 64 (Reg 0) (Reg 1) 0) ≡ plan None (Is 0x1234567812345678) (Is 0x21) None) ×
    (accesses (instr op.Sar 64 (Reg 0) (Reg 1) 0) ≡ plan None (Is 0x1234567812345678) (Is 0x21) None) ×
    (accesses (instr op.Rol 64 (Reg 0) (Reg 1) 0) ≡ plan None (Is 0x1234567812345678) (Is 0x21) None) ×
    (accesses (instr op.Ror 64 (Reg 0) (Reg 1) 0) ≡ plan None (Is 0x1234567812345678) (Is 0x21) None) ×
    (accesses (instr op.Inc 8 (at 5 0) Nothing 0) ≡ plan (Some (stack_bytes 0x2008 1)) (At (stack_bytes 0x2008 1)) (Is 0) None) ×
    (accesses (instr op.Btc 16 (at 7 0) Value 5) ≡ plan (Some (bytes 0x2008 2)) (At (bytes 0x2008 2)) (Is 5) None) ×
    (accesses (instr op.Imul3 16 (Reg 1) (at 7 0) 9) ≡ plan None (Is 0x321) (At (bytes 0x2008 2)) None) ×
    (accesses (instr (op.Cmov 4) 32 (Reg 1) (at 7 0) 0) ≡ plan None (Is 0x321) (At (bytes 0x2008 4)) None)
unfolding accesses bytes stack_bytes
combined = (refl, refl, refl, refl, refl, refl, refl, refl, refl, refl, refl)

-- comparisons only read; moves don't read what they write, and read no more than they extend
compared_and_moved :
    (accesses (instr op.Cmp 8 (at 7 0) (High 1) 0) ≡ plan None (At (bytes 0x2008 1)) (Is 3) None) ×
    (accesses (instr op.Bt 32 (at 7 0) Value 5) ≡ plan None (At (bytes 0x2008 4)) (Is 5) None) ×
    (accesses (instr op.Mov 16 (at 7 0) (Reg 0) 0) ≡ plan None (Is 0) (Is 0x5678) (Some (bytes 0x2008 2))) ×
    (accesses (instr op.Mov 64 (Reg 0) (at 7 0) 0) ≡ plan None (Is 0) (At (bytes 0x2008 8)) None) ×
    (accesses (instr op.Mov 32 (Mem (record { base = None; index = None; scale = 1; disp = 2 ^ 64 - 4; rip = true })) Value 9) ≡ plan None (Is 0) (Is 9) (Some (bytes 0xFFF 4))) ×
    (accesses (instr op.Movsx8 64 (Reg 0) (at 7 0) 0) ≡ plan None (Is 0) (At (bytes 0x2008 1)) None) ×
    (accesses (instr op.Movzx8 32 (Reg 0) (at 7 0) 0) ≡ plan None (Is 0) (At (bytes 0x2008 1)) None) ×
    (accesses (instr op.Movzx16 32 (Reg 0) (at 7 0) 0) ≡ plan None (Is 0) (At (bytes 0x2008 2)) None) ×
    (accesses (instr op.Movsx16 64 (Reg 0) (at 7 0) 0) ≡ plan None (Is 0) (At (bytes 0x2008 2)) None) ×
    (accesses (instr op.Movsxd 64 (Reg 0) (at 7 0) 0) ≡ plan None (Is 0) (At (bytes 0x2008 4)) None) ×
    (accesses (instr (op.Set 4) 8 (at 7 0) Nothing 0) ≡ plan None (Is 0) (Is 0) (Some (bytes 0x2008 1))) ×
    (accesses (instr op.Lea 16 (Reg 0) (at 12 0) 0) ≡ plan None (Is 0) (Is 12) None)
unfolding accesses bytes stack_bytes
compared_and_moved = (refl, refl, refl, refl, refl, refl, refl, refl, refl, refl, refl, refl)

-- exchanges check and read; scans, products and quotients read; the accumulator's own have no access
exchanged_and_multiplied :
    (accesses (instr op.Xchg 8 (at 7 0) (High 1) 0) ≡ plan (Some (bytes 0x2008 1)) (At (bytes 0x2008 1)) (Is 3) None) ×
    (accesses (instr op.Xadd 8 (at 7 0) (Reg 1) 0) ≡ plan (Some (bytes 0x2008 1)) (At (bytes 0x2008 1)) (Is 0x21) None) ×
    (accesses (instr op.Cmpxchg 16 (at 7 0) (Reg 1) 0) ≡ plan (Some (bytes 0x2008 2)) (At (bytes 0x2008 2)) (Is 0x321) None) ×
    (accesses (instr op.Bsr 32 (Reg 0) (at 7 0) 0) ≡ plan None (Is 0) (At (bytes 0x2008 4)) None) ×
    (accesses (instr op.Mul 8 (at 7 0) Nothing 0) ≡ plan None (At (bytes 0x2008 1)) (Is 0) None) ×
    (accesses (instr op.Imul 64 (at 7 0) Nothing 0) ≡ plan None (At (bytes 0x2008 8)) (Is 0) None) ×
    (accesses (instr op.Idiv 32 (at 7 0) Nothing 0) ≡ plan None (At (bytes 0x2008 4)) (Is 0) None) ×
    (accesses (instr op.Cqo 64 Nothing Nothing 0) ≡ plan None (Is 0) (Is 0) None) ×
    (accesses (instr op.Cbw 16 Nothing Nothing 0) ≡ plan None (Is 0) (Is 0) None)
unfolding accesses bytes stack_bytes
exchanged_and_multiplied = (refl, refl, refl, refl, refl, refl, refl, refl, refl)

-- a push writes below RSP, a pop reads from RSP on, and where a pop goes to memory by RSP the address is by RSP
-- risen
stacked :
    (accesses (instr op.Push 64 Nothing (at 4 8) 0) ≡ plan None (Is 0) (At (stack_bytes 0x2010 8)) (Some (stack_bytes 0x2000 8))) ×
    (accesses (instr op.Push 16 Nothing Value 9) ≡ plan None (Is 0) (Is 9) (Some (stack_bytes 0x2006 2))) ×
    (accesses (instr op.Pushfq 64 Nothing Nothing 0) ≡ plan None (Is 0) (Is 0) (Some (stack_bytes 0x2000 8))) ×
    (accesses (instr op.Pop 64 (at 4 8) Nothing 0) ≡ plan None (At (stack_bytes 0x2008 8)) (Is 0) (Some (stack_bytes 0x2018 8))) ×
    (accesses (instr op.Pop 16 (at 7 0) Nothing 0) ≡ plan None (At (stack_bytes 0x2008 2)) (Is 0) (Some (bytes 0x2008 2))) ×
    (accesses (instr op.Popfq 64 Nothing Nothing 0) ≡ plan None (At (stack_bytes 0x2008 8)) (Is 0) None) ×
    (accesses (instr op.Leave 64 Nothing Nothing 0) ≡ plan None (At (stack_bytes 0x2008 8)) (Is 0) None)
unfolding accesses bytes stack_bytes
stacked = (refl, refl, refl, refl, refl, refl, refl)

-- strings: what stands at RSI is read before what stands at RDI
strings :
    (accesses (instr op.Movs 16 Nothing Nothing 0) ≡ plan None (Is 0) (At (bytes 0x2000 2)) (Some (bytes 0x2008 2))) ×
    (accesses (instr op.Stos 32 Nothing Nothing 0) ≡ plan None (Is 0) (Is 0) (Some (bytes 0x2008 4))) ×
    (accesses (instr op.Lods 64 Nothing Nothing 0) ≡ plan None (Is 0) (At (bytes 0x2000 8)) None) ×
    (accesses (instr op.Cmps 8 Nothing Nothing 0) ≡ plan None (At (bytes 0x2000 1)) (At (bytes 0x2008 1)) None) ×
    (accesses (instr op.Scas 8 Nothing Nothing 0) ≡ plan None (Is 0) (At (bytes 0x2008 1)) None)
unfolding accesses bytes stack_bytes
strings = (refl, refl, refl, refl, refl)

-- a branch may read its target, and a call pushes too; ports, control registers, and the table's limit and base
others :
    (accesses (instr op.Jmp 64 Nothing (at 7 0) 0) ≡ plan None (Is 0) (At (bytes 0x2008 8)) None) ×
    (accesses (instr op.Call 64 Nothing (at 4 0) 0) ≡ plan None (Is 0) (At (stack_bytes 0x2008 8)) (Some (stack_bytes 0x2000 8))) ×
    (accesses (instr op.Ret 64 Nothing Value 16) ≡ plan None (At (stack_bytes 0x2008 8)) (Is 0) None) ×
    (accesses (instr op.Loop 64 Nothing Value 16) ≡ plan None (Is 0) (Is 0) None) ×
    (accesses (instr op.In 8 (Reg 0) Value 0xEA) ≡ plan None (Is 0) (Is 0xEA) None) ×
    (accesses (instr op.Out 8 (Reg 2) (Reg 0) 0) ≡ plan None (Is 7) (Is 0x78) None) ×
    (accesses (instr op.Movtc 64 Nothing (Reg 1) 3) ≡ plan None (Is 0) (Is 0x321) None) ×
    (accesses (instr op.Lidt 64 Nothing (at 4 0) 0) ≡ plan None (At (stack_bytes 0x2008 2)) (At (stack_bytes 0x200A 8)) None) ×
    (accesses (instr op.Invlpg 64 Nothing (at 7 0) 0) ≡ plan None (Is 0) (Is 0x2008) None)
unfolding accesses bytes stack_bytes
others = (refl, refl, refl, refl, refl, refl, refl, refl, refl)

-- RSP, RBP, RSI and RDI, with RAX and RCX
pointed : ℕ → ℕ → ℕ → ℕ → List ℕ
pointed sp bp si di = general 5 6 7 sp bp si di

-- a page that isn't there, at 5000 or 6000: an operand that is read and written faults by its write (code 2)
-- before its read (0)
missing :
    (effect (instr op.Add 8 (at 7 0) (Reg 1) 0) (pointed 0x2008 0x2008 0x2000 0x5000) 2 ≡ Err (fault.Page 2 0x5000)) ×
    (effect (instr op.Xchg 8 (at 7 0) (Reg 1) 0) (pointed 0x2008 0x2008 0x2000 0x5000) 2 ≡ Err (fault.Page 2 0x5000)) ×
    (effect (instr op.Cmpxchg 8 (at 7 0) (Reg 1) 0) (pointed 0x2008 0x2008 0x2000 0x5000) 2 ≡ Err (fault.Page 2 0x5000)) ×
    (effect (instr op.Shl 8 (at 7 0) Value 0) (pointed 0x2008 0x2008 0x2000 0x5000) 2 ≡ Err (fault.Page 2 0x5000)) ×
    (effect (instr op.Cmp 8 (at 7 0) (Reg 1) 0) (pointed 0x2008 0x2008 0x2000 0x5000) 2 ≡ Err (fault.Page 0 0x5000)) ×
    (effect (instr (op.Cmov 4) 32 (Reg 0) (at 7 0) 0) (pointed 0x2008 0x2008 0x2000 0x5000) 2 ≡ Err (fault.Page 0 0x5000)) ×
    (effect (instr op.Div 8 (at 7 0) Nothing 0) (pointed 0x2008 0x2008 0x2000 0x5000) 2 ≡ Err (fault.Page 0 0x5000)) ×
    (effect (instr op.Div 8 (at 6 0) Nothing 0) (pointed 0x2008 0x2008 0x2000 0x5000) 2 ≡ Err fault.Divide) ×
    (effect_at 3 (instr op.Mov 8 (at 7 0) (Reg 1) 0) (pointed 0x2008 0x2008 0x2000 0x5000) 2 ≡ Err (fault.Page 6 0x5000)) ×
    (effect_at 3 (instr op.Lidt 64 Nothing (at 7 0) 0) (pointed 0x2008 0x2008 0x2000 0x5000) 2 ≡ Err (fault.General 0)) ×
    (effect (instr op.Lea 64 (Reg 0) (at 7 0) 0) (pointed 0x2008 0x2008 0x2000 0x5000) 2 ≡ quiet (general 0x5000 6 7 0x2008 0x2008 0x2000 0x5000) 2)
unfolding effect_of gathered pointed accessed completed reached crosses has_canonical_bytes first_part number_at wp_of smep_of walk walk_by page_index is_missing is_present frame_of entry_in condition_stands
missing = (refl, refl, refl, refl, refl, refl, refl, refl, refl, refl, refl)

-- two faults that stand together: an operand before the stack, the stack before the place of a pop, RSI before
-- RDI, the reads before the target of a branch, and that before the push
first_faults :
    (effect (instr op.Push 64 Nothing (at 7 0) 0) (pointed 0x6008 0x2008 0x2000 0x5000) 2 ≡ Err (fault.Page 0 0x5000)) ×
    (effect (instr op.Push 64 Nothing (at 6 0) 0) (pointed 0x6008 0x2008 0x2000 0x5000) 2 ≡ Err (fault.Page 2 0x6000)) ×
    (effect (instr op.Pop 64 (at 7 0) Nothing 0) (pointed 0x6008 0x2008 0x2000 0x5000) 2 ≡ Err (fault.Page 0 0x6008)) ×
    (effect (instr op.Pop 64 (at 7 0) Nothing 0) (pointed 0x2008 0x2008 0x2000 0x5000) 2 ≡ Err (fault.Page 2 0x5000)) ×
    (effect (instr op.Movs 8 Nothing Nothing 0) (pointed 0x2008 0x2008 0x6000 0x5000) 2 ≡ Err (fault.Page 0 0x6000)) ×
    (effect (instr op.Movs 8 Nothing Nothing 0) (pointed 0x2008 0x2008 0x2000 0x5000) 2 ≡ Err (fault.Page 2 0x5000)) ×
    (effect (instr op.Cmps 8 Nothing Nothing 0) (pointed 0x2008 0x2008 0x6000 0x5000) 2 ≡ Err (fault.Page 0 0x6000)) ×
    (effect (instr op.Cmps 8 Nothing Nothing 0) (pointed 0x2008 0x2008 0x2000 0x5000) 2 ≡ Err (fault.Page 0 0x5000)) ×
    (effect (instr op.Call 64 Nothing (at 7 0) 0) (pointed 0x6008 0x2008 0x2000 0x5000) 2 ≡ Err (fault.Page 0 0x5000)) ×
    (effect (instr op.Call 64 Nothing (at 6 0) 0) (pointed 0x6008 0x2008 0x2000 0x5000) 2 ≡ Err (fault.General 0)) ×
    (effect (instr op.Call 64 Nothing (at 6 16) 0) (pointed 0x6008 0x2008 0x2000 0x5000) 2 ≡ Err (fault.Page 2 0x6000)) ×
    (effect (instr op.Ret 64 Nothing Value 0) (pointed 0x6008 0x2008 0x2000 0x5000) 2 ≡ Err (fault.Page 0 0x6008))
unfolding effect_of gathered pointed accessed completed reached crosses has_canonical_bytes first_part number_at wp_of smep_of walk walk_by page_index is_missing is_present frame_of entry_in
first_faults = (refl, refl, refl, refl, refl, refl, refl, refl, refl, refl, refl, refl)

-- a place that isn't canonical raises #SS by a push, a pop, or RSP or RBP as base, and else #GP(0), by R12 (C) and
-- R13 (D) too
outside_canonical :
    (effect (instr op.Push 64 Nothing (Reg 0) 0) (pointed (2 ^ 47 + 4) 0x2008 0x2000 0x5000) 2 ≡ Err fault.Stack) ×
    (effect (instr op.Pop 64 (Reg 0) Nothing 0) (pointed (2 ^ 47 - 4) 0x2008 0x2000 0x5000) 2 ≡ Err fault.Stack) ×
    (effect (instr op.Ret 64 Nothing Value 0) (pointed (2 ^ 47) 0x2008 0x2000 0x5000) 2 ≡ Err fault.Stack) ×
    (effect (instr op.Leave 64 Nothing Nothing 0) (pointed 0x2008 (2 ^ 47) 0x2000 0x5000) 2 ≡ Err fault.Stack) ×
    (effect (instr op.Mov 8 (at 5 0) (Reg 0) 0) (pointed 0x2008 (2 ^ 47) 0x2000 0x5000) 2 ≡ Err fault.Stack) ×
    (effect (instr op.Mov 8 (Reg 0) (at 4 (2 ^ 63)) 0) (pointed 0x2008 0x2008 0x2000 0x5000) 2 ≡ Err fault.Stack) ×
    (effect (instr op.Mov 8 (at 7 0) (Reg 0) 0) (pointed 0x2008 0x2008 0x2000 (2 ^ 47)) 2 ≡ Err (fault.General 0)) ×
    (effect (instr op.Mov 8 (at 12 (2 ^ 63)) (Reg 0) 0) (pointed 0x2008 0x2008 0x2000 0x5000) 2 ≡ Err (fault.General 0)) ×
    (effect (instr op.Mov 8 (at 13 (2 ^ 63)) (Reg 0) 0) (pointed 0x2008 0x2008 0x2000 0x5000) 2 ≡ Err (fault.General 0)) ×
    (effect (instr op.Pop 64 (at 7 0) Nothing 0) (pointed 0x2008 0x2008 0x2000 (2 ^ 47)) 2 ≡ Err (fault.General 0)) ×
    (effect (instr op.Lods 8 Nothing Nothing 0) (pointed 0x2008 0x2008 (2 ^ 47) 0x5000) 2 ≡ Err (fault.General 0)) ×
    (effect (instr op.Push 64 Nothing (at 7 0) 0) (pointed (2 ^ 47) 0x2008 0x2000 (2 ^ 47)) 2 ≡ Err (fault.General 0))
unfolding effect_of gathered pointed accessed completed reached crosses has_canonical_bytes first_part number_at wp_of smep_of
outside_canonical = (refl, refl, refl, refl, refl, refl, refl, refl, refl, refl, refl, refl)

-- LIDT and IRETQ read in ascending order: what lies on page 2 is read before the page behind it is missed
read_in_order :
    (effect (instr op.Lidt 64 Nothing (at 7 0) 0) (pointed 0x2008 0x2008 0x2000 0x2FFE) 2 ≡ Err (fault.Page 0 0x3000)) ×
    (effect (instr op.Lidt 64 Nothing (at 7 0) 0) (pointed 0x2008 0x2008 0x2000 0x2FFF) 2 ≡ Err (fault.Page 0 0x3000)) ×
    (effect (instr op.Iretq 64 Nothing Nothing 0) (pointed 0x2FF0 0x2008 0x2000 0x5000) 2 ≡ Err (fault.Page 0 0x3000)) ×
    (effect (instr op.Iretq 64 Nothing Nothing 0) (pointed (2 ^ 47 - 8) 0x2008 0x2000 0x5000) 2 ≡ Err (fault.Page 0 (2 ^ 47 - 8))) ×
    (effect (instr op.Iretq 64 Nothing Nothing 0) (pointed (2 ^ 47) 0x2008 0x2000 0x5000) 2 ≡ Err fault.Stack)
unfolding effect_of frame_popped gathered pointed accessed completed reached crosses next_page has_canonical_bytes first_part number_at wp_of smep_of walk walk_by page_index is_missing is_present frame_of entry_in
read_in_order = (refl, refl, refl, refl, refl)

-- a repeated instruction whose count is 0 reaches nothing, even where its pages are missing
repeated_move : Instr
repeated_move = record { op = op.Movs; width = 8; to = Nothing; from = Nothing; value = 0; rep = WhileEqual; lock = false }

idle : effect repeated_move (general 5 0 7 0x2008 0x2008 0x6000 0x5000) 2 ≡ quiet (general 5 0 7 0x2008 0x2008 0x6000 0x5000) 2
unfolding effect_of gathered repeated_move
idle = refl

-- memory is written where it is only read back: a shift by 0, BTS of a set bit, and the sum of XADD is where the
-- operand was checked
written_back :
    (effect (instr op.Shl 16 (at 7 0) (Reg 1) 0) (three 5 0x20 7) 0x8D7 ≡ writing (three 5 0x20 7) 0x8D7 8 2 0x1110) ×
    (effect (instr op.Bts 16 (at 7 0) Value 4) (three 5 6 7) 2 ≡ writing (three 5 6 7) 3 8 2 0x1110) ×
    (effect (instr op.Xadd 64 (at 7 0) (Reg 7) 0) (three 5 6 7) 2 ≡ writing (general 5 6 7 0x2008 0x2008 0x2000 0x1716151413121110) 6 8 8 0x1716151413123118)
unfolding effect_of gathered with_flag lib.Count.ones accessed completed reached crosses has_canonical_bytes first_part number_at wp_of smep_of
written_back = (refl, refl, refl)

-- the page at 2000, read-only
read_only : Translations
read_only = record { pairs = (2, record { frame = 0; rights = record { can_write = false; user = false; exec = false } }) ∷ []; upper = [] }

-- a refused write drops its page's translation, and so does a refused read at CPL 3; a fault that isn't a page
-- fault drops nothing
translations_after :
    (effect_of (instr op.Add 8 (at 7 0) (Reg 1) 0) 3 (regs_at 0x1000 (three 5 6 7) 2 0) control memory read_only ≡ record { answer = Err (fault.Page 3 0x2008); tlb = flushed }) ×
    (effect_of (instr op.Cmp 8 (at 7 0) (Reg 1) 0) 3 (regs_at 0x1000 (three 5 6 7) 2 3) control memory read_only ≡ record { answer = Err (fault.Page 5 0x2008); tlb = flushed }) ×
    (effect_of (instr op.Div 8 (at 6 0) Nothing 0) 3 (regs_at 0x1000 (three 5 6 7) 2 0) control memory read_only ≡ record { answer = Err fault.Divide; tlb = read_only })
unfolding effect_of gathered read_only accessed completed reached crosses has_canonical_bytes first_part number_at wp_of smep_of
translations_after = (refl, refl, refl)

-- what an upper entry names, with all rights
abbrev upper_at : ℕ → Upper
upper_at frame = record { frame = frame; rights = record { can_write = true; user = true; exec = true } }

-- the same beside an upper entry of level 2 that serves the pages below 2 MiB, one of level 2 that serves the next 2 MiB, and
-- one of level 4 that serves the pages below 512 GiB
with_upper : Translations
with_upper = record { pairs = read_only.pairs; upper = (2, 0, upper_at 9) ∷ (2, 1, upper_at 10) ∷ (4, 0, upper_at 11) ∷ [] }

-- a page fault drops those that serve its page
upper_after :
    (effect_of (instr op.Add 8 (at 7 0) (Reg 1) 0) 3 (regs_at 0x1000 (three 5 6 7) 2 0) control memory with_upper ≡ record { answer = Err (fault.Page 3 0x2008); tlb = record { pairs = []; upper = (2, 1, upper_at 10) ∷ [] } }) ×
    (effect_of (instr op.Div 8 (at 6 0) Nothing 0) 3 (regs_at 0x1000 (three 5 6 7) 2 0) control memory with_upper ≡ record { answer = Err fault.Divide; tlb = with_upper })
unfolding effect_of gathered read_only with_upper span_of accessed completed reached crosses has_canonical_bytes first_part number_at wp_of smep_of
upper_after = (refl, refl)

-- the pages at 2000 and 3000, in frames 0 and 7, of which the second may be read-only
two_pages : Bool → Translations
two_pages second = record { pairs = (2, record { frame = 0; rights = record { can_write = true; user = false; exec = false } }) ∷ (3, record { frame = 7; rights = record { can_write = second; user = false; exec = false } }) ∷ []; upper = [] }

-- four bytes over the end of the page at 2000: both places are told; where the second page refuses, the fault names its first
-- byte, its translation alone is dropped, and nothing is written
crossing :
    (effect_of (instr op.Mov 32 (at 7 0) (Reg 0) 0) 3 (regs_at 0x1000 (pointed 0x2008 0x2008 0x2000 0x2FFE) 2 0) control memory (two_pages true) ≡
    record { answer = Ok (record { regs = regs_at 0x1003 (pointed 0x2008 0x2008 0x2000 0x2FFE) 2 0; write = Some (record { va = 0x2FFE; width = 4; value = 5; target = record { first = 0xFFE; second = 0x7000 } }); act = act.Quiet }); tlb = two_pages true }) ×
    (effect_of (instr op.Inc 32 (at 7 0) Nothing 0) 3 (regs_at 0x1000 (pointed 0x2008 0x2008 0x2000 0x2FFE) 2 0) control memory (two_pages false) ≡
    record { answer = Err (fault.Page 3 0x3000); tlb = record { pairs = (2, record { frame = 0; rights = record { can_write = true; user = false; exec = false } }) ∷ []; upper = [] } }) ×
    (effect_of (instr op.Inc 32 (at 7 0) Nothing 0) 3 (regs_at 0x1000 (pointed 0x2008 0x2008 0x2000 0x2FFE) 3 0) control memory (two_pages true) ≡
    record { answer = Ok (record { regs = regs_at 0x1003 (pointed 0x2008 0x2008 0x2000 0x2FFE) 3 0; write = Some (record { va = 0x2FFE; width = 4; value = 1; target = record { first = 0xFFE; second = 0x7000 } }); act = act.Quiet }); tlb = two_pages true })
unfolding effect_of gathered pointed two_pages with_flag lib.Count.ones accessed completed reached crosses next_page has_canonical_bytes first_part number_at wp_of smep_of
crossing = (refl, refl, refl)
