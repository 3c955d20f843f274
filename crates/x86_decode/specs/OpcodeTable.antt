-- The table of opcodes: which rows stand at each opcode of the one-byte map and of the map after 0F.
use Rattle.std.specs.Prelude.{ℕ, ◌+◌, Bool, ◌&&◌, nat_le, List, [], ◌∷◌, filter, map}
use Rattle.std.specs.List.{flat_map, range_with_len}
use Rattle.x86_decode.specs.declared.operation.Op.{Op}
use Rattle.x86_decode.specs.declared.operation.Op.TheVariants.{Add, Or, Adc, Sbb, And, Sub, Xor, Cmp, Test, Not, Neg, Inc, Dec, Mul, Imul, Imul3, Div, Idiv, Rol, Ror, Shl, Shr, Sar, Bt, Bts, Btr, Btc, Bsf, Bsr, Mov, Movsxd, Movzx8, Movzx16, Movsx8, Movsx16, Lea, Xchg, Xadd, Cmpxchg, Bswap, Cmov, Set, Cbw, Cwde, Cdqe, Cwd, Cdq, Cqo, Push, Pop, Pushfq, Popfq, Leave, Movs, Cmps, Stos, Lods, Scas, J, Jmp, Call, Ret, Loop, Loope, Loopne, Jrcxz, Int3, Int, Iretq, Ud2, Nop, Cmc, Clc, Stc, Cli, Sti, Cld, Std, Hlt, In, Out, Movfc, Movtc, Movtd, Wrmsr, Lldt, Ltr, Lgdt, Lidt, Lmsw, Invlpg}
use Rattle.x86_decode.specs.declared.reader.Map.{Map}
use Rattle.x86_decode.specs.declared.reader.Map.TheVariants.{OneByte, TwoByte}
use Rattle.x86_decode.specs.declared.shape.Shape.{Shape}
use Rattle.x86_decode.specs.declared.shape.RowLayout.TheVariants.{Plain, AnyForm, Memory, Ignored}
use Rattle.x86_decode.specs.declared.shape.Operand.TheVariants.{Absent, Eb, Ev, Gv, Zv, Accumulator, Counter, Port, Constant}
use Rattle.x86_decode.specs.declared.shape.Number.TheVariants.{Zero, One, Ib, Iz, Iv, Ub, Uw, Cn}
use Rattle.x86_decode.specs.declared.shape.Width.TheVariants.{Byte, Quad, Variable, Stack}
use Rattle.x86_decode.specs.RowForms.{shape, alone, alone_stack, alone_b, alone_v, fence, eb, ev, eb_gb, ev_gv, gb_eb, gv_ev, gv_eb, rv_gv, eb_ib, ev_ib, ev_iz, zb_ib, zv, ax_zv, al_ib, ax_iz, near_ev, jb, jz, system_ew, system_m, cn_rq}

-- what a row asks for besides its opcode: nothing; reg of ModRM (/0 to /7); an operand size; REX.B clear or set
pub data When : Type 0 where
  Always : When
  Digit : ℕ → When
  AtSize : ℕ → When
  AtRexB : ℕ → When

-- a row: when it stands, its operation, and its form
pub record OpcodeRow : Type 0 where
  pub when : When
  pub op : Op
  pub shape : Shape

-- a row that stands at the opcodes from first to last
pub record OpcodeLine : Type 0 where
  pub first : ℕ
  pub last : ℕ
  pub row : OpcodeRow

-- a row at the opcodes from first to last
abbrev pub line : ℕ → ℕ → When → Op → Shape → List OpcodeLine
line first last when op shape = record { first = first; last = last; row = record { when = when; op = op; shape = shape } } ∷ []

-- a row at one opcode, whatever else
abbrev pub at : ℕ → Op → Shape → List OpcodeLine
at opcode op shape = line opcode opcode Always op shape

-- the row /n at an opcode
abbrev pub digit : ℕ → ℕ → Op → Shape → List OpcodeLine
digit opcode n op shape = line opcode opcode (Digit n) op shape

-- groups of lines, one behind the other
abbrev pub all_of : List (List OpcodeLine) → List OpcodeLine
all_of groups = flat_map (λ lines. lines) groups

-- the six forms of an arithmetic operation
abbrev pub arithmetic : ℕ → Op → List OpcodeLine
arithmetic first op = all_of (
    at first op eb_gb ∷ at (first + 1) op ev_gv ∷ at (first + 2) op gb_eb ∷ at (first + 3) op gv_ev ∷
    at (first + 4) op al_ib ∷ at (first + 5) op ax_iz ∷ [])

-- the same eight operations by digit
abbrev pub arithmetic_group : ℕ → Shape → List OpcodeLine
arithmetic_group opcode shape = all_of (
    digit opcode 0 Add shape ∷ digit opcode 1 Or shape ∷ digit opcode 2 Adc shape ∷ digit opcode 3 Sbb shape ∷
    digit opcode 4 And shape ∷ digit opcode 5 Sub shape ∷ digit opcode 6 Xor shape ∷ digit opcode 7 Cmp shape ∷ [])

-- rotates and shifts; /2, /3 and /6 are no rows
abbrev pub shift_group : ℕ → Shape → List OpcodeLine
shift_group opcode shape = all_of (
    digit opcode 0 Rol shape ∷ digit opcode 1 Ror shape ∷ digit opcode 4 Shl shape ∷ digit opcode 5 Shr shape ∷
    digit opcode 7 Sar shape ∷ [])

-- TEST with an immediate, and what has one operand
abbrev pub unary_group : ℕ → Shape → Shape → List OpcodeLine
unary_group opcode test shape = all_of (
    digit opcode 0 Test test ∷ digit opcode 2 Not shape ∷ digit opcode 3 Neg shape ∷ digit opcode 4 Mul shape ∷
    digit opcode 5 Imul shape ∷ digit opcode 6 Div shape ∷ digit opcode 7 Idiv shape ∷ [])

-- an operation for each condition, from an opcode on
abbrev pub conditional : ℕ → (ℕ → Op) → Shape → List OpcodeLine
conditional first op shape = flat_map (λ condition. at (first + condition) (op condition) shape) (range_with_len 0 16)

-- a name for each operand size
abbrev pub by_size : ℕ → Op → Op → Op → List OpcodeLine
by_size opcode at_16 at_32 at_64 = all_of (
    line opcode opcode (AtSize 16) at_16 alone_v ∷ line opcode opcode (AtSize 32) at_32 alone_v ∷
    line opcode opcode (AtSize 64) at_64 alone_v ∷ [])

unfoldable pub one_byte_table : List OpcodeLine
one_byte_table = all_of (
    arithmetic 0x00 Add ∷
    arithmetic 0x08 Or ∷
    arithmetic 0x10 Adc ∷
    arithmetic 0x18 Sbb ∷
    arithmetic 0x20 And ∷
    arithmetic 0x28 Sub ∷
    arithmetic 0x30 Xor ∷
    arithmetic 0x38 Cmp ∷
    line 0x50 0x57 Always Push (shape Plain Absent Zv Zero Stack) ∷
    line 0x58 0x5F Always Pop (shape Plain Zv Absent Zero Stack) ∷
    line 0x63 0x63 (AtSize 64) Movsxd gv_ev ∷
    at 0x68 Push (shape Plain Absent Constant Iz Stack) ∷
    at 0x69 Imul3 (shape AnyForm Gv Ev Iz Variable) ∷
    at 0x6A Push (shape Plain Absent Constant Ib Stack) ∷
    at 0x6B Imul3 (shape AnyForm Gv Ev Ib Variable) ∷
    conditional 0x70 J jb ∷
    arithmetic_group 0x80 eb_ib ∷
    arithmetic_group 0x81 ev_iz ∷
    arithmetic_group 0x83 ev_ib ∷
    at 0x84 Test eb_gb ∷
    at 0x85 Test ev_gv ∷
    at 0x86 Xchg eb_gb ∷
    at 0x87 Xchg ev_gv ∷
    at 0x88 Mov eb_gb ∷
    at 0x89 Mov ev_gv ∷
    at 0x8A Mov gb_eb ∷
    at 0x8B Mov gv_ev ∷
    at 0x8D Lea (shape Memory Gv Ev Zero Variable) ∷
    digit 0x8F 0 Pop (shape AnyForm Ev Absent Zero Stack) ∷
    line 0x90 0x90 (AtRexB 0) Nop alone ∷
    line 0x90 0x90 (AtRexB 1) Xchg ax_zv ∷
    line 0x91 0x97 Always Xchg ax_zv ∷
    by_size 0x98 Cbw Cwde Cdqe ∷
    by_size 0x99 Cwd Cdq Cqo ∷
    at 0x9C Pushfq alone_stack ∷
    at 0x9D Popfq alone_stack ∷
    at 0xA4 Movs alone_b ∷
    at 0xA5 Movs alone_v ∷
    at 0xA6 Cmps alone_b ∷
    at 0xA7 Cmps alone_v ∷
    at 0xA8 Test al_ib ∷
    at 0xA9 Test ax_iz ∷
    at 0xAA Stos alone_b ∷
    at 0xAB Stos alone_v ∷
    at 0xAC Lods alone_b ∷
    at 0xAD Lods alone_v ∷
    at 0xAE Scas alone_b ∷
    at 0xAF Scas alone_v ∷
    line 0xB0 0xB7 Always Mov zb_ib ∷
    line 0xB8 0xBF Always Mov (shape Plain Zv Constant Iv Variable) ∷
    shift_group 0xC0 (shape AnyForm Eb Constant Ub Byte) ∷
    shift_group 0xC1 (shape AnyForm Ev Constant Ub Variable) ∷
    at 0xC2 Ret (shape Plain Absent Constant Uw Quad) ∷
    at 0xC3 Ret (shape Plain Absent Constant Zero Quad) ∷
    digit 0xC6 0 Mov eb_ib ∷
    digit 0xC7 0 Mov ev_iz ∷
    at 0xC9 Leave alone ∷
    at 0xCC Int3 alone ∷
    at 0xCD Int (shape Plain Absent Constant Ub Quad) ∷
    line 0xCF 0xCF (AtSize 64) Iretq alone ∷
    shift_group 0xD0 (shape AnyForm Eb Constant One Byte) ∷
    shift_group 0xD1 (shape AnyForm Ev Constant One Variable) ∷
    shift_group 0xD2 (shape AnyForm Eb Counter Zero Byte) ∷
    shift_group 0xD3 (shape AnyForm Ev Counter Zero Variable) ∷
    at 0xE0 Loopne jb ∷
    at 0xE1 Loope jb ∷
    at 0xE2 Loop jb ∷
    at 0xE3 Jrcxz jb ∷
    at 0xE4 In (shape Plain Accumulator Constant Ub Byte) ∷
    at 0xE6 Out (shape Plain Constant Accumulator Ub Byte) ∷
    at 0xE8 Call jz ∷
    at 0xE9 Jmp jz ∷
    at 0xEB Jmp jb ∷
    at 0xEC In (shape Plain Accumulator Port Zero Byte) ∷
    at 0xEE Out (shape Plain Port Accumulator Zero Byte) ∷
    at 0xF4 Hlt alone ∷
    at 0xF5 Cmc alone ∷
    unary_group 0xF6 eb_ib eb ∷
    unary_group 0xF7 ev_iz ev ∷
    at 0xF8 Clc alone ∷
    at 0xF9 Stc alone ∷
    at 0xFA Cli alone ∷
    at 0xFB Sti alone ∷
    at 0xFC Cld alone ∷
    at 0xFD Std alone ∷
    digit 0xFE 0 Inc eb ∷
    digit 0xFE 1 Dec eb ∷
    digit 0xFF 0 Inc ev ∷
    digit 0xFF 1 Dec ev ∷
    digit 0xFF 2 Call near_ev ∷
    digit 0xFF 4 Jmp near_ev ∷
    digit 0xFF 6 Push (shape AnyForm Absent Ev Zero Stack) ∷
    [])

unfoldable pub two_byte_table : List OpcodeLine
two_byte_table = all_of (
    digit 0x00 2 Lldt system_ew ∷
    digit 0x00 3 Ltr system_ew ∷
    digit 0x01 2 Lgdt system_m ∷
    digit 0x01 3 Lidt system_m ∷
    digit 0x01 6 Lmsw system_ew ∷
    digit 0x01 7 Invlpg system_m ∷
    at 0x0B Ud2 alone ∷
    line 0x1E 0x1F Always Nop (shape AnyForm Absent Absent Zero Quad) ∷
    at 0x20 Movfc (shape Ignored Ev Absent Cn Quad) ∷
    at 0x22 Movtc cn_rq ∷
    at 0x23 Movtd cn_rq ∷
    at 0x30 Wrmsr alone ∷
    conditional 0x40 Cmov gv_ev ∷
    conditional 0x80 J jz ∷
    conditional 0x90 Set eb ∷
    at 0xA3 Bt rv_gv ∷
    at 0xAB Bts rv_gv ∷
    digit 0xAE 5 Nop fence ∷
    digit 0xAE 6 Nop fence ∷
    digit 0xAE 7 Nop fence ∷
    at 0xAF Imul gv_ev ∷
    at 0xB0 Cmpxchg eb_gb ∷
    at 0xB1 Cmpxchg ev_gv ∷
    at 0xB3 Btr rv_gv ∷
    at 0xB6 Movzx8 gv_eb ∷
    at 0xB7 Movzx16 gv_ev ∷
    digit 0xBA 4 Bt ev_ib ∷
    digit 0xBA 5 Bts ev_ib ∷
    digit 0xBA 6 Btr ev_ib ∷
    digit 0xBA 7 Btc ev_ib ∷
    at 0xBB Btc rv_gv ∷
    at 0xBC Bsf gv_ev ∷
    at 0xBD Bsr gv_ev ∷
    at 0xBE Movsx8 gv_eb ∷
    at 0xBF Movsx16 gv_ev ∷
    at 0xC0 Xadd eb_gb ∷
    at 0xC1 Xadd ev_gv ∷
    line 0xC8 0xCF (AtSize 32) Bswap zv ∷
    line 0xC8 0xCF (AtSize 64) Bswap zv ∷
    [])

abbrev pub lines_of_map : Map → List OpcodeLine
lines_of_map OneByte = one_byte_table
lines_of_map TwoByte = two_byte_table

-- the line stands at this opcode
abbrev pub stands_at : ℕ → OpcodeLine → Bool
stands_at opcode it = nat_le it.first opcode && nat_le opcode it.last

-- the rows of a table at an opcode
abbrev pub rows_of : List OpcodeLine → ℕ → List OpcodeRow
rows_of lines opcode = map (λ it. it.row) (filter (stands_at opcode) lines)

-- the rows at an opcode of a map
abbrev pub rows_at : Map → ℕ → List OpcodeRow
rows_at where_from opcode = rows_of (lines_of_map where_from) opcode
