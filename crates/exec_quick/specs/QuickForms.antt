-- Quick forms: an instruction of a common kind, taken apart once, when it is decoded. A quick form means an instruction, and
-- what it does is that instruction's effect with its write made.
use Rattle.std.specs.Prelude.{ℕ, ◌≡◌, ◌+◌, ◌<◌, ◌≤◌, Bool, true, false, ◌==◌, ◌-◌, nat_le, if◌then◌else◌, List, Option, None, Some, unwrap_or, Result, Ok, Err, slice_index_or}
use Rattle.decode_fields.specs.declared.place.Address.{Address}
use Rattle.decode_fields.specs.declared.place.Place.{Place}
use Rattle.decode_fields.specs.declared.place.Place.TheVariants.{Nothing, Reg, High, Mem, Value}
use Rattle.decode_fields.specs.Widths.{IsWidth}
use Rattle.x86_decode.specs.declared.instruction.Decoded.{Decoded}
use Rattle.x86_decode.specs.declared.instruction.Decoded.TheVariants.{Whole}
use Rattle.x86_decode.specs.declared.instruction.Instr.{Instr}
use Rattle.x86_decode.specs.declared.operation.Op.{Op}
use Rattle.x86_decode.specs.declared.operation.Op.TheVariants as op
use Rattle.nk_bits.specs.declared.control.Control.{Control}
use Rattle.nk_bits.specs.Translations.{Translations}
use Rattle.nk_bits.specs.Outcomes.{Outcome, answered, outcome_of}
use Rattle.page_walk.specs.MemoryAccess.{view_of}
use Rattle.x86_regs.specs.declared.effects.Act.{Act}
use Rattle.x86_regs.specs.declared.effects.Act.TheVariants.{Quiet}
use Rattle.x86_regs.specs.declared.effects.Effect.{Effect}
use Rattle.x86_regs.specs.declared.faults.Fault.{Fault}
use Rattle.x86_regs.specs.declared.form.Form.{Form}
use Rattle.x86_regs.specs.declared.form.Form.TheVariants.{Data, Flow}
use Rattle.x86_regs.specs.declared.form.DataForm.{DataForm}
use Rattle.x86_regs.specs.declared.form.DataForm.TheVariants as data_form
use Rattle.x86_regs.specs.declared.form.FlowForm.TheVariants as flow_form
use Rattle.x86_regs.specs.declared.registers.Regs.{Regs}
use Rattle.x86_regs.specs.Effects.{memory_after, planned_effect, refusal}
use Rattle.x86_regs.specs.OperandPlans.{instr_form}
use Rattle.x86_regs.specs.Operands.{wrapped}
use Rattle.x86_regs.specs.Registers.{held}
use Rattle.phys_mem.specs.Memory.{byte_at}
use Rattle.exec_quick.specs.declared.quick.Kind.{Kind}
use Rattle.exec_quick.specs.declared.quick.Kind.TheVariants as kind
use Rattle.exec_quick.specs.declared.quick.Quick.{Quick}
use Rattle.exec_quick.specs.declared.quick.Went.{Went}
use Rattle.exec_quick.specs.declared.quick.Went.TheVariants.{Left, On, Off}

-- a kind is no quick one
abbrev pub is_slow : Kind → Bool
is_slow kind.Slow = true
is_slow _ = false

-- which operand stands in memory
pub data InMemory : Type 0 where
  Neither : InMemory
  First : InMemory
  Second : InMemory

-- what a kind says of its instructions: their form; their operation and their width in bits, where it has one alone; which
-- operand stands in memory; and that the first operand is a register
pub record Meaning : Type 0 where
  pub form : Form
  pub operation : Option Op
  pub width : Option ℕ
  pub memory : InMemory
  pub register : Bool

-- every operation of a form, at every width
abbrev pub every : Form → InMemory → Bool → Meaning
every form memory register = record { form = form; operation = None; width = None; memory = memory; register = register }

-- one operation at one width: over a register, with the second operand in memory, and with the first one there
abbrev pub over : DataForm → Op → ℕ → Meaning
over form op width = record { form = Data form; operation = Some op; width = Some width; memory = Neither; register = true }

abbrev pub load : DataForm → Op → ℕ → Meaning
load form op width = record { form = Data form; operation = Some op; width = Some width; memory = Second; register = true }

abbrev pub store : DataForm → Op → ℕ → Meaning
store form op width = record { form = Data form; operation = Some op; width = Some width; memory = First; register = false }

-- a push and a pop of 64 bits
abbrev pub stacked : DataForm → Bool → Meaning
stacked form register = record { form = Data form; operation = None; width = Some 64; memory = Neither; register = register }

-- one branch, by a condition and by the count in RCX
abbrev pub jump : Op → Meaning
jump op = record { form = Flow flow_form.Branch; operation = Some op; width = None; memory = Neither; register = false }

abbrev pub counting : Op → Meaning
counting op = record { form = Flow flow_form.CountDown; operation = Some op; width = None; memory = Neither; register = false }

-- what each kind says
abbrev pub meaning : Kind → Meaning
meaning kind.Slow = every (Data data_form.Nothing) Neither false
meaning kind.Combine = every (Data data_form.Combine) Neither true
meaning kind.CombineLoad = every (Data data_form.Combine) Second true
meaning kind.CombineStore = every (Data data_form.Combine) First false
meaning kind.Compare = every (Data data_form.Compare) Neither true
meaning kind.CompareLoad = every (Data data_form.Compare) Second true
meaning kind.CompareStore = every (Data data_form.Compare) First false
meaning kind.Move = every (Data data_form.Move) Neither true
meaning kind.MoveLoad = every (Data data_form.Move) Second true
meaning kind.MoveStore = every (Data data_form.Move) First false
meaning kind.Address = every (Data data_form.Address) Second true
meaning kind.Push = every (Data data_form.Push) Neither false
meaning kind.PushLoad = every (Data data_form.Push) Second false
meaning kind.Pop = every (Data data_form.Pop) Neither true
meaning kind.Leave = every (Data data_form.Leave) Neither false
meaning kind.Branch = every (Flow flow_form.Branch) Neither false
meaning kind.BranchLoad = every (Flow flow_form.Branch) Second false
meaning kind.Call = every (Flow flow_form.Call) Neither false
meaning kind.CallLoad = every (Flow flow_form.Call) Second false
meaning kind.Return = every (Flow flow_form.Return) Neither false
meaning kind.CountDown = every (Flow flow_form.CountDown) Neither false
meaning kind.ScanBits = every (Data data_form.ScanBits) Neither true
meaning kind.ScanBitsLoad = every (Data data_form.ScanBits) Second true
meaning kind.Multiply = every (Data data_form.Multiply) Neither false
meaning kind.MultiplyLoad = every (Data data_form.Multiply) First false
meaning kind.Divide = every (Data data_form.Divide) Neither false
meaning kind.DivideLoad = every (Data data_form.Divide) First false
meaning kind.Widen = every (Data data_form.Widen) Neither false
meaning kind.Double = every (Data data_form.Double) Neither false
meaning kind.ChangeFlag = every (Data data_form.ChangeFlag) Neither false
meaning kind.Nothing = every (Data data_form.Nothing) Neither false
meaning kind.MoveString = every (Data data_form.MoveString) Neither false
meaning kind.StoreString = every (Data data_form.StoreString) Neither false
meaning kind.LoadString = every (Data data_form.LoadString) Neither false
meaning kind.CompareStrings = every (Data data_form.CompareStrings) Neither false
meaning kind.ScanString = every (Data data_form.ScanString) Neither false
meaning kind.Add64 = over data_form.Combine op.Add 64
meaning kind.Add32 = over data_form.Combine op.Add 32
meaning kind.Sub64 = over data_form.Combine op.Sub 64
meaning kind.Sub32 = over data_form.Combine op.Sub 32
meaning kind.And64 = over data_form.Combine op.And 64
meaning kind.And32 = over data_form.Combine op.And 32
meaning kind.Or64 = over data_form.Combine op.Or 64
meaning kind.Or32 = over data_form.Combine op.Or 32
meaning kind.Xor64 = over data_form.Combine op.Xor 64
meaning kind.Xor32 = over data_form.Combine op.Xor 32
meaning kind.Inc64 = over data_form.Combine op.Inc 64
meaning kind.Inc32 = over data_form.Combine op.Inc 32
meaning kind.Dec64 = over data_form.Combine op.Dec 64
meaning kind.Dec32 = over data_form.Combine op.Dec 32
meaning kind.Shl64 = over data_form.Combine op.Shl 64
meaning kind.Shl32 = over data_form.Combine op.Shl 32
meaning kind.Shr64 = over data_form.Combine op.Shr 64
meaning kind.Shr32 = over data_form.Combine op.Shr 32
meaning kind.Sar64 = over data_form.Combine op.Sar 64
meaning kind.Sar32 = over data_form.Combine op.Sar 32
meaning kind.Rol64 = over data_form.Combine op.Rol 64
meaning kind.Rol32 = over data_form.Combine op.Rol 32
meaning kind.Ror64 = over data_form.Combine op.Ror 64
meaning kind.Ror32 = over data_form.Combine op.Ror 32
meaning kind.Neg64 = over data_form.Combine op.Neg 64
meaning kind.Neg32 = over data_form.Combine op.Neg 32
meaning kind.Not64 = over data_form.Combine op.Not 64
meaning kind.Not32 = over data_form.Combine op.Not 32
meaning kind.Adc64 = over data_form.Combine op.Adc 64
meaning kind.Adc32 = over data_form.Combine op.Adc 32
meaning kind.Sbb64 = over data_form.Combine op.Sbb 64
meaning kind.Sbb32 = over data_form.Combine op.Sbb 32
meaning kind.AddLoad64 = load data_form.Combine op.Add 64
meaning kind.AddLoad32 = load data_form.Combine op.Add 32
meaning kind.SubLoad64 = load data_form.Combine op.Sub 64
meaning kind.SubLoad32 = load data_form.Combine op.Sub 32
meaning kind.AndLoad64 = load data_form.Combine op.And 64
meaning kind.AndLoad32 = load data_form.Combine op.And 32
meaning kind.OrLoad64 = load data_form.Combine op.Or 64
meaning kind.OrLoad32 = load data_form.Combine op.Or 32
meaning kind.XorLoad64 = load data_form.Combine op.Xor 64
meaning kind.XorLoad32 = load data_form.Combine op.Xor 32
meaning kind.AddStore64 = store data_form.Combine op.Add 64
meaning kind.AddStore32 = store data_form.Combine op.Add 32
meaning kind.SubStore64 = store data_form.Combine op.Sub 64
meaning kind.SubStore32 = store data_form.Combine op.Sub 32
meaning kind.AndStore64 = store data_form.Combine op.And 64
meaning kind.AndStore32 = store data_form.Combine op.And 32
meaning kind.OrStore64 = store data_form.Combine op.Or 64
meaning kind.OrStore32 = store data_form.Combine op.Or 32
meaning kind.IncStore64 = store data_form.Combine op.Inc 64
meaning kind.IncStore32 = store data_form.Combine op.Inc 32
meaning kind.DecStore64 = store data_form.Combine op.Dec 64
meaning kind.DecStore32 = store data_form.Combine op.Dec 32
meaning kind.IncStore8 = store data_form.Combine op.Inc 8
meaning kind.DecStore8 = store data_form.Combine op.Dec 8
meaning kind.AndStore8 = store data_form.Combine op.And 8
meaning kind.OrStore8 = store data_form.Combine op.Or 8
meaning kind.Cmp64 = over data_form.Compare op.Cmp 64
meaning kind.Cmp32 = over data_form.Compare op.Cmp 32
meaning kind.Test64 = over data_form.Compare op.Test 64
meaning kind.Test32 = over data_form.Compare op.Test 32
meaning kind.Cmp8 = over data_form.Compare op.Cmp 8
meaning kind.Test8 = over data_form.Compare op.Test 8
meaning kind.CmpLoad64 = load data_form.Compare op.Cmp 64
meaning kind.CmpLoad32 = load data_form.Compare op.Cmp 32
meaning kind.CmpLoad8 = load data_form.Compare op.Cmp 8
meaning kind.CmpStore64 = store data_form.Compare op.Cmp 64
meaning kind.CmpStore32 = store data_form.Compare op.Cmp 32
meaning kind.CmpStore8 = store data_form.Compare op.Cmp 8
meaning kind.TestStore64 = store data_form.Compare op.Test 64
meaning kind.TestStore32 = store data_form.Compare op.Test 32
meaning kind.TestStore8 = store data_form.Compare op.Test 8
meaning kind.Mov64 = over data_form.Move op.Mov 64
meaning kind.Mov32 = over data_form.Move op.Mov 32
meaning kind.MovzxByte32 = over data_form.Move op.Movzx8 32
meaning kind.MovzxWord32 = over data_form.Move op.Movzx16 32
meaning kind.MovsxByte64 = over data_form.Move op.Movsx8 64
meaning kind.MovsxByte32 = over data_form.Move op.Movsx8 32
meaning kind.MovsxWord64 = over data_form.Move op.Movsx16 64
meaning kind.MovsxWord32 = over data_form.Move op.Movsx16 32
meaning kind.Movsxd64 = over data_form.Move op.Movsxd 64
meaning kind.Load64 = load data_form.Move op.Mov 64
meaning kind.Load32 = load data_form.Move op.Mov 32
meaning kind.Load8 = load data_form.Move op.Mov 8
meaning kind.LoadByte = load data_form.Move op.Movzx8 32
meaning kind.MovzxWordLoad32 = load data_form.Move op.Movzx16 32
meaning kind.MovsxByteLoad64 = load data_form.Move op.Movsx8 64
meaning kind.MovsxByteLoad32 = load data_form.Move op.Movsx8 32
meaning kind.MovsxWordLoad64 = load data_form.Move op.Movsx16 64
meaning kind.MovsxWordLoad32 = load data_form.Move op.Movsx16 32
meaning kind.MovsxdLoad64 = load data_form.Move op.Movsxd 64
meaning kind.Store64 = store data_form.Move op.Mov 64
meaning kind.Store32 = store data_form.Move op.Mov 32
meaning kind.Store16 = store data_form.Move op.Mov 16
meaning kind.Store8 = store data_form.Move op.Mov 8
meaning kind.Push64 = stacked data_form.Push false
meaning kind.Pop64 = stacked data_form.Pop true
meaning kind.PushFlags = every (Flow flow_form.PushFlags) Neither false
meaning kind.PopFlags = every (Flow flow_form.PopFlags) Neither false
meaning kind.ClearInterrupts = record { form = Flow flow_form.ChangeInterruptFlag; operation = Some op.Cli; width = None; memory = Neither; register = false }
meaning kind.FromControl = every (Flow flow_form.FromControl) Neither true
meaning kind.Loop = counting op.Loop
meaning kind.Jump = jump op.Jmp
meaning kind.JumpZero = jump (op.J 4)
meaning kind.JumpNotZero = jump (op.J 5)
meaning kind.JumpBelow = jump (op.J 2)
meaning kind.JumpNotBelow = jump (op.J 3)
meaning kind.JumpNotAbove = jump (op.J 6)
meaning kind.JumpAbove = jump (op.J 7)
meaning kind.JumpLess = jump (op.J 12)
meaning kind.JumpNotLess = jump (op.J 13)
meaning kind.JumpNotGreater = jump (op.J 14)
meaning kind.JumpGreater = jump (op.J 15)

-- the first operand stands in memory, and the second
abbrev pub is_first : InMemory → Bool
is_first First = true
is_first _ = false

abbrev pub is_second : InMemory → Bool
is_second Second = true
is_second _ = false

abbrev pub has_memory_first : Kind → Bool
has_memory_first kind = is_first (meaning kind).memory

abbrev pub has_memory_second : Kind → Bool
has_memory_second kind = is_second (meaning kind).memory

-- the form of a kind's instructions
abbrev pub form_by : Kind → Form
form_by kind = (meaning kind).form

-- the operation of a kind that has one alone, and else the quick form's own
abbrev pub op_by : Kind → Op → Op
op_by kind own = unwrap_or (meaning kind).operation own

-- the width of a kind that has one alone, and else the quick form's own
abbrev pub width_by : Kind → ℕ → ℕ
width_by kind own = unwrap_or (meaning kind).width own

-- the kinds whose first operand is a register
abbrev pub has_register_first : Kind → Bool
has_register_first kind = (meaning kind).register

-- the kinds whose instructions are made at CPL 0 alone
abbrev pub is_supervisor : Kind → Bool
is_supervisor kind.PushFlags = true
is_supervisor kind.PopFlags = true
is_supervisor kind.ClearInterrupts = true
is_supervisor kind.FromControl = true
is_supervisor _ = false

-- a register of an address: 16 is none
abbrev pub register_of : ℕ → Option ℕ
register_of n = if n == 16 then None else Some n

-- an operand that isn't in memory: 16 is the instruction's number, 17 nothing, and from 18 on stand AH, CH, DH and BH
abbrev pub operand_of : ℕ → Place
operand_of n = if n == 16 then Value else if n == 17 then Nothing else if nat_le 18 n then High (n - 18) else Reg n

abbrev pub quick_address : Quick → Address
quick_address q = record { base = register_of q.base; index = register_of q.index; scale = q.scale; disp = q.displacement; rip = q.follows_rip }

abbrev pub to_of : Quick → Place
to_of q = if has_memory_first q.kind then Mem (quick_address q) else operand_of q.to

abbrev pub from_of : Quick → Place
from_of q = if has_memory_second q.kind then Mem (quick_address q) else operand_of q.from

-- the instruction that a quick form means
abbrev pub instruction_of : Quick → Instr
instruction_of q = record { op = op_by q.kind q.op; width = width_by q.kind q.width; to = to_of q; from = from_of q; value = q.value; rep = q.rep; lock = false }

-- the value of an operand that isn't in memory, at a width
abbrev pub operand_value : ℕ → ℕ → List ℕ → ℕ → ℕ
operand_value n value general w =
    if n == 16 then value else if n == 17 then 0 else if nat_le 18 n then held general (High (n - 18)) w else held general (Reg n) w

-- numbers of registers are among the sixteen, or say that there is none; the width is one of four
pub record IsQuick (q : Quick) : Type 0 where
  pub width : IsWidth q.width
  pub to : q.to < 22
  pub from : q.from < 22
  pub base : q.base ≤ 16
  pub index : q.index ≤ 16

-- a quick form stands for what code decoded to: that is its instruction, which no condition refuses where it is made
pub record StandsFor (q : Quick) (answer : Decoded) : Type 0 where
  pub means : answer ≡ Whole (instruction_of q) q.size
  pub ready : IsQuick q
  pub register : has_register_first q.kind ≡ true → q.to < 16
  pub form : instr_form (instruction_of q) ≡ form_by q.kind
  pub lawful : (cpl : ℕ) → (is_supervisor q.kind ≡ true → cpl ≡ 0) → refusal (instruction_of q) cpl ≡ None

-- an effect whose write is made
pub record Settled : Type 0 where
  pub regs : Regs
  pub memory : List ℕ
  pub act : Act

abbrev pub settled_by : Result Effect Fault → List ℕ → Result Settled Fault
settled_by (Ok effect) m = Ok (record { regs = effect.regs; memory = memory_after effect.write m; act = effect.act })
settled_by (Err fault) m = Err fault

abbrev pub settled : Outcome Fault Effect → List ℕ → Outcome Fault Settled
settled outcome m = outcome_of (settled_by outcome.answer m) outcome.tlb

-- registers and memory after an instruction that asks nothing, with all that is kept of walks as before
abbrev pub quiet_outcome : Regs → List ℕ → Translations → Outcome Fault Settled
quiet_outcome regs m tlb = answered (record { regs = regs; memory = m; act = Quiet }) tlb

-- the effect of a quick form's instruction, by this form
abbrev pub effect_made : Form → Quick → Regs → Control → List ℕ → Translations → Outcome Fault Settled
effect_made form q regs control m tlb =
    settled (planned_effect form (instruction_of q) q.size regs control m (view_of m control regs.cpl) tlb) m

-- nothing came of an instruction
abbrev pub is_left : Went → Bool
is_left Left = true
is_left On = false
is_left Off = false

-- the address of the instruction behind one of so many bytes
abbrev pub next_address : ℕ → ℕ → ℕ
next_address at size = wrapped (at + size)

-- registers with RIP where the processor goes on, which is this address unless they say it themselves
abbrev pub went : Went → ℕ → Regs → Regs
went On next regs = record regs { rip = next }
went Off next regs = regs
went Left next regs = regs

-- the bytes of the page at this place stay
abbrev pub IsSameOnPage : ℕ → List ℕ → List ℕ → Type 0
IsSameOnPage place m n = (p : ℕ) → place ≤ p → p < place + 4096 → byte_at n p ≡ byte_at m p

-- the bytes of each of the four pages at these places stay
abbrev pub AreSameOnPages : List ℕ → List ℕ → List ℕ → Type 0
AreSameOnPages places m n = (i : ℕ) → i < 4 → IsSameOnPage (slice_index_or places i 0) m n
