-- The conditions under which an operation faults whatever its operands hold: whether F0 may stand before it where its first
-- operand is a place in memory (elsewhere F0 raises #UD); whether it runs at CPL 0 alone (at another it raises #GP(0)); where
-- it raises #UD though it is spelled: with an operand size of 16 bits (before the test of the CPL), at CPL 0 (behind that
-- test), or everywhere; and whether it loads a control, debug or model-specific register, a descriptor table, a task or the
-- status word, which the scan protects. Behind each row stands the page of the SDM, volume 2, by its section and title. A
-- control register that isn't there raises #UD by its number, which is no condition of the operation.
use Rattle.std.specs.Prelude.{Bool, true, false}
use Rattle.x86_decode.specs.declared.operation.Op.{Op}
use Rattle.x86_decode.specs.declared.operation.Op.TheVariants.{Add, Or, Adc, Sbb, And, Sub, Xor, Not, Neg, Inc, Dec, Bts, Btr, Btc, Xchg, Xadd, Cmpxchg, Pushfq, Popfq, Ud2, Cli, Sti, Hlt, In, Out, Movfc, Movtc, Movtd, Wrmsr, Lldt, Ltr, Lgdt, Lidt, Lmsw, Invlpg}
use Rattle.x86_decode.specs.declared.conditions.Conditions.{Conditions}
use Rattle.x86_decode.specs.declared.conditions.UndefinedWhere.TheVariants.{Nowhere, Everywhere, AtWidth16, AtCpl0}

-- no condition: it may not be locked, runs at each CPL, and loads nothing that is protected
abbrev plain : Conditions
plain = record { takes_lock = false; needs_cpl_0 = false; undefined = Nowhere; is_protected = false }

-- F0 may stand before it
abbrev lockable : Conditions
lockable = record plain { takes_lock = true }

-- at another CPL than 0 it raises #GP(0)
abbrev privileged : Conditions
privileged = record plain { needs_cpl_0 = true }

-- and it loads what the scan protects
abbrev protected : Conditions
protected = record privileged { is_protected = true }

-- and at CPL 0 it raises #UD: this machine has it in the table of opcodes alone
abbrev spelled : Conditions
spelled = record protected { undefined = AtCpl0 }

abbrev pub conditions_of : Op → Conditions
conditions_of Add = lockable  -- 3.3 ADD
conditions_of Or = lockable  -- 4.3 OR
conditions_of Adc = lockable  -- 3.3 ADC
conditions_of Sbb = lockable  -- 4.3 SBB
conditions_of And = lockable  -- 3.3 AND
conditions_of Sub = lockable  -- 4.3 SUB
conditions_of Xor = lockable  -- 6.1 XOR
conditions_of Not = lockable  -- 4.3 NOT
conditions_of Neg = lockable  -- 4.3 NEG
conditions_of Inc = lockable  -- 3.3 INC
conditions_of Dec = lockable  -- 3.3 DEC
conditions_of Bts = lockable  -- 3.3 BTS
conditions_of Btr = lockable  -- 3.3 BTR
conditions_of Btc = lockable  -- 3.3 BTC
conditions_of Xchg = lockable  -- 6.1 XCHG
conditions_of Xadd = lockable  -- 6.1 XADD
conditions_of Cmpxchg = lockable  -- 3.3 CMPXCHG
conditions_of Pushfq = record plain { undefined = AtWidth16 }  -- 4.3 PUSHF/PUSHFD/PUSHFQ
conditions_of Popfq = record plain { undefined = AtWidth16 }  -- 4.3 POPF/POPFD/POPFQ
conditions_of Ud2 = record plain { undefined = Everywhere }  -- 4.3 UD
conditions_of Cli = privileged  -- 3.3 CLI
conditions_of Sti = privileged  -- 4.3 STI
conditions_of Hlt = privileged  -- 3.3 HLT
conditions_of In = privileged  -- 3.3 IN
conditions_of Out = privileged  -- 4.3 OUT
conditions_of Movfc = privileged  -- 4.3 MOV, control registers
conditions_of Movtc = protected  -- 4.3 MOV, control registers
conditions_of Movtd = spelled  -- 4.3 MOV, debug registers
conditions_of Wrmsr = spelled  -- 6.1 WRMSR
conditions_of Lldt = spelled  -- 3.3 LLDT
conditions_of Ltr = spelled  -- 3.3 LTR
conditions_of Lgdt = spelled  -- 3.3 LGDT/LIDT
conditions_of Lidt = protected  -- 3.3 LGDT/LIDT
conditions_of Lmsw = spelled  -- 3.3 LMSW
conditions_of Invlpg = privileged  -- 3.3 INVLPG
-- 3.3 BSF, BSR, BSWAP, BT, CALL, CBW/CWDE/CDQE, CLC, CLD, CMC, CMOVcc, CMP, CMPS, CWD/CDQ/CQO, DIV, IDIV, IMUL, INT n/INT3,
-- IRETQ, Jcc, JMP, LEA, LEAVE, LODS, LOOP/LOOPcc; 4.3 MOV, MOVS, MOVSX/MOVSXD, MOVZX, MUL, NOP, POP, PUSH, RET, ROL/ROR,
-- SAL/SAR/SHL/SHR, SCAS, SETcc, STC, STD, STOS, TEST
conditions_of _ = plain

-- the loads that stand on a protected encoding
abbrev pub is_protected : Op → Bool
is_protected op = let conditions : Conditions = conditions_of op in conditions.is_protected
