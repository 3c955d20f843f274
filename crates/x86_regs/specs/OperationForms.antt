-- The form of each operation: which accesses it makes and what it does with what it reads. Operations of one form
-- differ in their arithmetic alone.
use Rattle.std.specs.Prelude.{⊤}
use Rattle.x86_decode.specs.declared.operation.Op.{Op}
use Rattle.x86_decode.specs.declared.operation.Op.TheVariants as op
use Rattle.x86_regs.specs.declared.form.Form.{Form}
use Rattle.x86_regs.specs.declared.form.Form.TheVariants.{Data, Flow}
use Rattle.x86_regs.specs.declared.form.DataForm.TheVariants.{Combine, Compare, Move, Address, Exchange, ExchangeAdd, CompareExchange, ScanBits, Widen, Double, Multiply, Divide, Push, Pop, Leave, MoveString, StoreString, LoadString, CompareStrings, ScanString, ChangeFlag, Nothing}
use Rattle.x86_regs.specs.declared.form.FlowForm.TheVariants.{Branch, Call, Return, CountDown, Trap, TrapReturn, PushFlags, PopFlags, ChangeInterruptFlag, Halt, Input, Output, FromControl, ToControl, LoadTable, DropPage, Refused}

-- the form of an operation: arithmetic and logic of two operands or one, where no other is said. IMUL of one operand has
-- that of MUL, which an instruction tells
abbrev pub form_of : Op → Form
form_of op.Cmp = Data Compare
form_of op.Test = Data Compare
form_of op.Mul = Data Multiply
form_of op.Div = Data Divide
form_of op.Idiv = Data Divide
form_of op.Bt = Data Compare
form_of op.Bsf = Data ScanBits
form_of op.Bsr = Data ScanBits
form_of op.Mov = Data Move
form_of op.Movsxd = Data Move
form_of op.Movzx8 = Data Move
form_of op.Movzx16 = Data Move
form_of op.Movsx8 = Data Move
form_of op.Movsx16 = Data Move
form_of op.Lea = Data Address
form_of op.Xchg = Data Exchange
form_of op.Xadd = Data ExchangeAdd
form_of op.Cmpxchg = Data CompareExchange
form_of (op.Set condition) = Data Move
form_of op.Cbw = Data Widen
form_of op.Cwde = Data Widen
form_of op.Cdqe = Data Widen
form_of op.Cwd = Data Double
form_of op.Cdq = Data Double
form_of op.Cqo = Data Double
form_of op.Push = Data Push
form_of op.Pop = Data Pop
form_of op.Pushfq = Flow PushFlags
form_of op.Popfq = Flow PopFlags
form_of op.Leave = Data Leave
form_of op.Movs = Data MoveString
form_of op.Cmps = Data CompareStrings
form_of op.Stos = Data StoreString
form_of op.Lods = Data LoadString
form_of op.Scas = Data ScanString
form_of (op.J condition) = Flow Branch
form_of op.Jmp = Flow Branch
form_of op.Call = Flow Call
form_of op.Ret = Flow Return
form_of op.Loop = Flow CountDown
form_of op.Loope = Flow CountDown
form_of op.Loopne = Flow CountDown
form_of op.Jrcxz = Flow CountDown
form_of op.Int3 = Flow Trap
form_of op.Int = Flow Trap
form_of op.Iretq = Flow TrapReturn
form_of op.Ud2 = Flow Refused
form_of op.Nop = Data Nothing
form_of op.Cmc = Data ChangeFlag
form_of op.Clc = Data ChangeFlag
form_of op.Stc = Data ChangeFlag
form_of op.Cli = Flow ChangeInterruptFlag
form_of op.Sti = Flow ChangeInterruptFlag
form_of op.Cld = Data ChangeFlag
form_of op.Std = Data ChangeFlag
form_of op.Hlt = Flow Halt
form_of op.In = Flow Input
form_of op.Out = Flow Output
form_of op.Movfc = Flow FromControl
form_of op.Movtc = Flow ToControl
form_of op.Movtd = Flow Refused
form_of op.Wrmsr = Flow Refused
form_of op.Lldt = Flow Refused
form_of op.Ltr = Flow Refused
form_of op.Lgdt = Flow Refused
form_of op.Lidt = Flow LoadTable
form_of op.Lmsw = Flow Refused
form_of op.Invlpg = Flow DropPage
form_of _ = Data Combine

-- which of the two a form is
abbrev pub IsData : Form → Type 0
IsData (Data form) = ⊤
IsData (Flow form) = ⊥

abbrev pub IsFlow : Form → Type 0
IsFlow (Data form) = ⊥
IsFlow (Flow form) = ⊤
