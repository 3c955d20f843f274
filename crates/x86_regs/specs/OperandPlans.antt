-- Which accesses an instruction makes, by its form: a line a form, a function of the registers alone.
use Rattle.std.specs.Prelude.{ℕ, ◌+◌, ◌/◌, ◌==◌, Bool, true, false, ◌&&◌, if◌then◌else◌, slice_index, List, Option, None, Some}
use Rattle.decode_fields.specs.declared.place.Place.{Place}
use Rattle.decode_fields.specs.declared.place.Place.TheVariants as place
use Rattle.decode_fields.specs.declared.parts.Rep.{Rep}
use Rattle.decode_fields.specs.declared.parts.Rep.TheVariants.{No, WhileEqual, WhileNot}
use Rattle.x86_decode.specs.declared.instruction.Instr.{Instr}
use Rattle.x86_decode.specs.declared.operation.Op.{Op}
use Rattle.x86_decode.specs.declared.operation.Op.TheVariants as op
use Rattle.page_walk.specs.declared.plan.AccessPlan.{AccessPlan}
use Rattle.page_walk.specs.declared.plan.Span.{Span}
use Rattle.page_walk.specs.declared.plan.Origin.{Origin}
use Rattle.page_walk.specs.declared.plan.Origin.TheVariants.{Is, At}
use Rattle.x86_regs.specs.declared.registers.Regs.{Regs}
use Rattle.x86_regs.specs.Operands.{lowered, next_of, place_address, place_span, rbp, rcx, rdi, rsi, rsp, source_by, stack_span, string_span, with_register, wrapped}
use Rattle.x86_regs.specs.Combinations.{source_width}
use Rattle.x86_regs.specs.declared.form.Form.{Form}
use Rattle.x86_regs.specs.declared.form.Form.TheVariants.{Data, Flow}
use Rattle.x86_regs.specs.declared.form.DataForm.{DataForm}
use Rattle.x86_regs.specs.declared.form.DataForm.TheVariants.{Combine, Compare, Move, Address, Exchange, ExchangeAdd, CompareExchange, ScanBits, Widen, Double, Multiply, Divide, Push, Pop, Leave, MoveString, StoreString, LoadString, CompareStrings, ScanString, ChangeFlag, Nothing}
use Rattle.x86_regs.specs.declared.form.FlowForm.{FlowForm}
use Rattle.x86_regs.specs.declared.form.FlowForm.TheVariants.{Branch, Call, Return, CountDown, Trap, TrapReturn, PushFlags, PopFlags, ChangeInterruptFlag, Halt, Input, Output, FromControl, ToControl, LoadTable, DropPage, Refused}
use Rattle.x86_regs.specs.OperationForms.{form_of}

-- IMUL of one operand has the form of MUL
abbrev pub is_nothing : Place → Bool
is_nothing place.Nothing = true
is_nothing _ = false

abbrev pub is_imul : Op → Bool
is_imul op.Imul = true
is_imul _ = false

abbrev pub instr_form : Instr → Form
instr_form i = if is_imul i.op && is_nothing i.from then Data Multiply else form_of i.op

-- the instruction is repeated
abbrev pub is_repeated : Rep → Bool
is_repeated No = false
is_repeated WhileEqual = true
is_repeated WhileNot = true

-- a repeated instruction whose count is 0 does nothing
abbrev pub is_idle : Instr → Regs → Bool
is_idle i regs = is_repeated i.rep && slice_index regs.general rcx == 0

abbrev pub plan : Option Span → Origin → Origin → Option Span → AccessPlan
plan both to from last = record { both = both; to = to; from = from; last = last }

abbrev pub no_access : AccessPlan
no_access = plan None (Is 0) (Is 0) None

-- the first operand, the second, and the bytes of the first, each at a width
abbrev pub to_source : Instr → ℕ → Regs → ℕ → Origin
to_source i size regs w = source_by regs.general (next_of regs size) w i.value i.to

abbrev pub from_source : Instr → ℕ → Regs → ℕ → Origin
from_source i size regs w = source_by regs.general (next_of regs size) w i.value i.from

abbrev pub to_span : Instr → ℕ → Regs → Option Span
to_span i size regs = place_span regs.general (next_of regs size) i.width i.to

-- the address of the second operand
abbrev pub from_address : Instr → ℕ → Regs → ℕ
from_address i size regs = place_address regs.general (next_of regs size) i.from

-- the bytes that a push of so many bits writes, and those that a pop reads
abbrev pub push_span : Regs → ℕ → Span
push_span regs w = stack_span (lowered (slice_index regs.general rsp) (w / 8)) w

abbrev pub pop_source : Regs → ℕ → Origin
pop_source regs w = At (stack_span (slice_index regs.general rsp) w)

-- the general registers after RSP rose by so many bits
abbrev pub risen : Regs → ℕ → List ℕ
risen regs w = with_register regs.general rsp (wrapped (slice_index regs.general rsp + w / 8))

-- the bytes at RSI and at RDI
abbrev pub rsi_span : Instr → Regs → Span
rsi_span i regs = string_span (slice_index regs.general rsi) i.width

abbrev pub rdi_span : Instr → Regs → Span
rdi_span i regs = string_span (slice_index regs.general rdi) i.width

-- the accesses of a repeated instruction's turn, unless its count is 0
abbrev pub unless_idle : Instr → Regs → AccessPlan → AccessPlan
unless_idle i regs accesses = if is_idle i regs then no_access else accesses

-- the eight bytes of a table's base, behind the two of its limit (SDM volume 2, LGDT/LIDT)
abbrev pub base_span : Span → Span
base_span limit = record { va = wrapped (limit.va + 2); width = 8; stack = limit.stack }

abbrev pub table_plan : Option Span → AccessPlan
table_plan None = no_access
table_plan (Some limit) = plan None (At limit) (At (base_span limit)) None

-- the accesses of the forms of arithmetic, moves, the stack and strings
abbrev pub data_plan : DataForm → Instr → ℕ → Regs → AccessPlan
data_plan Combine i size regs = plan (to_span i size regs) (to_source i size regs i.width) (from_source i size regs (source_width i.op i.width)) None
data_plan Compare i size regs = plan None (to_source i size regs i.width) (from_source i size regs i.width) None
data_plan Move i size regs = plan None (Is 0) (from_source i size regs (source_width i.op i.width)) (to_span i size regs)
data_plan Address i size regs = plan None (Is 0) (Is (from_address i size regs)) None
data_plan Exchange i size regs = plan (to_span i size regs) (to_source i size regs i.width) (from_source i size regs i.width) None
data_plan ExchangeAdd i size regs = plan (to_span i size regs) (to_source i size regs i.width) (from_source i size regs i.width) None
data_plan CompareExchange i size regs = plan (to_span i size regs) (to_source i size regs i.width) (from_source i size regs i.width) None
data_plan ScanBits i size regs = plan None (Is 0) (from_source i size regs i.width) None
data_plan Multiply i size regs = plan None (to_source i size regs i.width) (Is 0) None
data_plan Divide i size regs = plan None (to_source i size regs i.width) (Is 0) None
data_plan Push i size regs = plan None (Is 0) (from_source i size regs i.width) (Some (push_span regs i.width))
data_plan Pop i size regs = plan None (pop_source regs i.width) (Is 0) (place_span (risen regs i.width) (next_of regs size) i.width i.to)
data_plan Leave i size regs = plan None (At (stack_span (slice_index regs.general rbp) 64)) (Is 0) None
data_plan MoveString i size regs = unless_idle i regs (plan None (Is 0) (At (rsi_span i regs)) (Some (rdi_span i regs)))
data_plan StoreString i size regs = unless_idle i regs (plan None (Is 0) (Is 0) (Some (rdi_span i regs)))
data_plan LoadString i size regs = unless_idle i regs (plan None (Is 0) (At (rsi_span i regs)) None)
data_plan CompareStrings i size regs = unless_idle i regs (plan None (At (rsi_span i regs)) (At (rdi_span i regs)) None)
data_plan ScanString i size regs = unless_idle i regs (plan None (Is 0) (At (rdi_span i regs)) None)
data_plan _ i size regs = no_access

-- those of the forms of branches, traps, the flags as a whole, IF, ports and the system
abbrev pub flow_plan : FlowForm → Instr → ℕ → Regs → AccessPlan
flow_plan Branch i size regs = plan None (Is 0) (from_source i size regs 64) None
flow_plan Call i size regs = plan None (Is 0) (from_source i size regs 64) (Some (push_span regs 64))
flow_plan Return i size regs = plan None (pop_source regs 64) (Is 0) None
flow_plan PushFlags i size regs = plan None (Is 0) (Is 0) (Some (push_span regs i.width))
flow_plan PopFlags i size regs = plan None (pop_source regs i.width) (Is 0) None
flow_plan Input i size regs = plan None (Is 0) (from_source i size regs 16) None
flow_plan Output i size regs = plan None (to_source i size regs 16) (from_source i size regs 8) None
flow_plan ToControl i size regs = plan None (Is 0) (from_source i size regs 64) None
flow_plan LoadTable i size regs = table_plan (place_span regs.general (next_of regs size) 16 i.from)
flow_plan DropPage i size regs = plan None (Is 0) (Is (from_address i size regs)) None
flow_plan _ i size regs = no_access

abbrev pub plan_by : Form → Instr → ℕ → Regs → AccessPlan
plan_by (Data form) i size regs = data_plan form i size regs
plan_by (Flow form) i size regs = flow_plan form i size regs
