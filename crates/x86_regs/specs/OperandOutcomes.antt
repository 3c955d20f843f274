-- What an instruction does with what its accesses read, by its form: a function of the values read and of the
-- registers. What is read is cut to the operand's width.
use Rattle.std.specs.Prelude.{ℕ, ◌+◌, ◌-◌, ◌*◌, ◌/◌, ◌%◌, ◌^◌, ◌==◌, Bool, true, false, not, ◌&&◌, ◌||◌, nat_lt, if◌then◌else◌, slice_index, List, Result, Ok, Err}
use Rattle.decode_fields.specs.declared.place.Place.{Place}
use Rattle.decode_fields.specs.declared.place.Place.TheVariants as place
use Rattle.decode_fields.specs.declared.parts.Rep.{Rep}
use Rattle.decode_fields.specs.declared.parts.Rep.TheVariants.{No, WhileEqual, WhileNot}
use Rattle.x86_decode.specs.declared.instruction.Instr.{Instr}
use Rattle.x86_decode.specs.declared.operation.Op.{Op}
use Rattle.x86_decode.specs.declared.operation.Op.TheVariants as op
use Rattle.nk_bits.specs.declared.control.Control.{Control}
use Rattle.nk_bits.specs.Paging.{is_canonical, page_of}
use Rattle.page_walk.specs.declared.plan.Gathered.{Gathered}
use Rattle.x86_alu.specs.declared.answers.Out.{Out}
use Rattle.x86_alu.specs.SignedNumbers.{bit, cut, sign}
use Rattle.x86_alu.specs.Flags.{carry_flag, with_flag, zero_flag}
use Rattle.x86_alu.specs.Sums.{difference_flags}
use Rattle.x86_alu.specs.Products.{half_of, product, product_flags}
use Rattle.x86_alu.specs.Quotients.{is_refused, joined, quotient, rest}
use Rattle.x86_alu.specs.Scans.{scanned}
use Rattle.x86_regs.specs.declared.registers.Regs.{Regs}
use Rattle.x86_regs.specs.declared.effects.Act.{Act}
use Rattle.x86_regs.specs.declared.effects.Change.{Change}
use Rattle.x86_regs.specs.declared.effects.Act.TheVariants as act
use Rattle.x86_regs.specs.declared.faults.Fault.{Fault}
use Rattle.x86_regs.specs.declared.faults.Fault.TheVariants as fault
use Rattle.x86_regs.specs.Registers.{held, written}
use Rattle.x86_regs.specs.Operands.{lowered, rax, rbp, rcx, rdi, rdx, rsi, rsp, with_register, wrapped}
use Rattle.x86_regs.specs.Combinations.{combination, comparison, condition_stands, direction_flag, extended, flags_popped, interrupt_flag, movement, source_width, sum}
use Rattle.x86_regs.specs.declared.form.Form.{Form}
use Rattle.x86_regs.specs.declared.form.Form.TheVariants.{Data, Flow}
use Rattle.x86_regs.specs.declared.form.DataForm.{DataForm}
use Rattle.x86_regs.specs.declared.form.DataForm.TheVariants.{Combine, Compare, Move, Address, Exchange, ExchangeAdd, CompareExchange, ScanBits, Widen, Double, Multiply, Divide, Push, Pop, Leave, MoveString, StoreString, LoadString, CompareStrings, ScanString, ChangeFlag, Nothing}
use Rattle.x86_regs.specs.declared.form.FlowForm.{FlowForm}
use Rattle.x86_regs.specs.declared.form.FlowForm.TheVariants.{Branch, Call, Return, CountDown, Trap, TrapReturn, PushFlags, PopFlags, ChangeInterruptFlag, Halt, Input, Output, FromControl, ToControl, LoadTable, DropPage, Refused}
use Rattle.x86_regs.specs.OperandPlans.{is_idle, is_repeated, risen}

-- with these general registers and flags, at this address
abbrev pub going_on : Regs → List ℕ → ℕ → ℕ → Regs
going_on regs general flags rip = record regs { general = general; flags = flags; rip = rip }

abbrev pub change : Regs → ℕ → Act → Result Change Fault
change regs value act = Ok (record { regs = regs; value = value; act = act })

-- only the registers change
abbrev pub quietly : Regs → Result Change Fault
quietly regs = change regs 0 act.Quiet

-- a result goes to the first operand, and to memory where that stands there
abbrev pub with_result : Instr → Regs → ℕ → Out → Result Change Fault
with_result i regs next result =
    change (going_on regs (written regs.general i.to i.width result.value) result.flags next) result.value act.Quiet

abbrev pub exchanged : Instr → Regs → ℕ → ℕ → ℕ → Result Change Fault
exchanged i regs next a b =
    change (going_on regs (written (written regs.general i.to i.width b) i.from i.width a) regs.flags next) b act.Quiet

-- the sum goes to the first operand after the second got the first
abbrev pub sum_exchanged : Instr → Regs → ℕ → ℕ → Out → Result Change Fault
sum_exchanged i regs next a result =
    change (going_on regs (written (written regs.general i.from i.width a) i.to i.width result.value) result.flags next) result.value act.Quiet

-- the accumulator is compared with the first operand a, which becomes b where they are equal; else the accumulator
-- becomes a
abbrev pub compared : Instr → Regs → ℕ → ℕ → ℕ → ℕ → Result Change Fault
compared i regs next accumulator a b =
    let flags = difference_flags i.width accumulator a false regs.flags in
    if accumulator == a
    then change (going_on regs (written regs.general i.to i.width b) flags next) b act.Quiet
    else change (going_on regs (written (written regs.general (place.Reg rax) i.width a) i.to i.width a) flags next) a act.Quiet

-- the first or the last set bit; where there is none, the register keeps its whole value
abbrev pub bits_scanned : Instr → Regs → ℕ → Bool → ℕ → Result Change Fault
bits_scanned i regs next up b =
    if b == 0
    then quietly (going_on regs regs.general (with_flag zero_flag true regs.flags) next)
    else quietly (going_on regs (written regs.general i.to i.width (scanned up b)) (with_flag zero_flag false regs.flags) next)

abbrev pub is_forward : Op → Bool
is_forward op.Bsf = true
is_forward _ = false

abbrev pub is_signed : Op → Bool
is_signed op.Imul = true
is_signed op.Idiv = true
is_signed _ = false

-- a number of two operands' bits: its upper half stands in AH above AL, or in RDX beside the accumulator
abbrev pub upper_place : ℕ → Place
upper_place w = if w == 8 then place.High 0 else place.Reg rdx

abbrev pub upper_half : List ℕ → ℕ → ℕ
upper_half general w = held general (upper_place w) w

abbrev pub halves_written : List ℕ → ℕ → ℕ → ℕ → List ℕ
halves_written general w low high = written (written general (place.Reg rax) w low) (upper_place w) w high

abbrev pub multiplied_wide : Instr → Regs → ℕ → Bool → ℕ → Result Change Fault
multiplied_wide i regs next signed a =
    let accumulator = held regs.general (place.Reg rax) i.width in
    let whole = product signed i.width accumulator a in
    quietly (going_on regs (halves_written regs.general i.width (half_of false i.width whole) (half_of true i.width whole))
    (product_flags signed i.width accumulator a regs.flags) next)

abbrev pub divided : Instr → Regs → ℕ → Bool → ℕ → Result Change Fault
divided i regs next signed by =
    let dividend = joined i.width (upper_half regs.general i.width) (held regs.general (place.Reg rax) i.width) in
    if is_refused signed i.width dividend by then Err fault.Divide
    else quietly (going_on regs
    (halves_written regs.general i.width (quotient signed i.width dividend by) (rest signed i.width dividend by)) regs.flags next)

-- the low part of the accumulator, extended by its sign; and the accumulator's sign alone, all over RDX
abbrev pub widened : Instr → Regs → List ℕ
widened i regs =
    let w = source_width i.op i.width in
    written regs.general (place.Reg rax) i.width (extended w i.width (held regs.general (place.Reg rax) w))

abbrev pub doubled : Instr → Regs → List ℕ
doubled i regs =
    let accumulator = held regs.general (place.Reg rax) i.width in
    written regs.general (place.Reg rdx) i.width (if sign i.width accumulator then 2 ^ i.width - 1 else 0)

-- the general registers after a push of so many bits
abbrev pub fallen : Regs → ℕ → List ℕ
fallen regs w = with_register regs.general rsp (lowered (slice_index regs.general rsp) (w / 8))

-- a string instruction's pointer moves by its operand, down where DF is set
abbrev pub pointer_moved : Regs → ℕ → ℕ → List ℕ → List ℕ
pointer_moved regs w n general =
    let at = slice_index general n in
    with_register general n (if bit regs.flags direction_flag then lowered at (w / 8) else wrapped (at + w / 8))

-- the count of a repeated instruction
abbrev pub counted : Instr → List ℕ → List ℕ
counted i general = if is_repeated i.rep then with_register general rcx (lowered (slice_index general rcx) 1) else general

-- F3 goes on while ZF is 1, F2 while it is 0
abbrev pub is_asked : Rep → Bool → Bool
is_asked No zero = false
is_asked WhileEqual zero = zero
is_asked WhileNot zero = not zero

-- the instruction is made again: its count isn't 0, and where it compares, ZF is what its prefix asks
abbrev pub is_again : Instr → List ℕ → Bool → Bool
is_again i general asked = is_repeated i.rep && not (slice_index general rcx == 0) && asked

-- one turn of a string instruction
abbrev pub string_turn : Instr → Regs → ℕ → List ℕ → ℕ → Bool → ℕ → Result Change Fault
string_turn i regs next general flags asked value =
    let after = counted i general in
    change (going_on regs after flags (if is_again i after asked then regs.rip else next)) value act.Quiet

-- or none, where the count is 0
abbrev pub unless_idle_turn : Instr → Regs → ℕ → Result Change Fault → Result Change Fault
unless_idle_turn i regs next turn = if is_idle i regs then quietly (going_on regs regs.general regs.flags next) else turn

-- a branch to this target, where it is taken; the general registers are those after it
abbrev pub branched : Regs → ℕ → List ℕ → Bool → ℕ → ℕ → Result Change Fault
branched regs next general taken target value =
    if not taken then change (going_on regs general regs.flags next) value act.Quiet
    else if is_canonical target then change (going_on regs general regs.flags target) value act.Quiet
    else Err (fault.General 0)

-- a branch's target: the next instruction and a displacement, or what a register or memory holds
abbrev pub target_by : Place → ℕ → ℕ → ℕ
target_by place.Value next from = wrapped (next + from)
target_by _ next from = cut 64 from

abbrev pub is_taken : Op → ℕ → Bool
is_taken (op.J condition) flags = condition_stands condition flags
is_taken _ flags = true

-- LOOP and its kin count RCX down and branch while it isn't 0; JRCXZ branches where it is 0
abbrev pub counts_down : Op → Bool
counts_down op.Jrcxz = false
counts_down _ = true

abbrev pub count_after : Op → List ℕ → List ℕ
count_after operation general =
    if counts_down operation then with_register general rcx (lowered (slice_index general rcx) 1) else general

abbrev pub is_taken_by_count : Op → ℕ → Bool → Bool
is_taken_by_count op.Loop count zero = not (count == 0)
is_taken_by_count op.Loope count zero = not (count == 0) && zero
is_taken_by_count op.Loopne count zero = not (count == 0) && not zero
is_taken_by_count op.Jrcxz count zero = count == 0
is_taken_by_count _ count zero = false

-- the vector of INT3 and of INT n
abbrev pub interrupt_vector : Op → ℕ → ℕ
interrupt_vector op.Int3 n = 3
interrupt_vector _ n = n % 256

-- the flags after CMC, CLC, STC, CLD and STD
abbrev pub flags_changed : Op → ℕ → ℕ
flags_changed op.Cmc flags = with_flag carry_flag (not (bit flags carry_flag)) flags
flags_changed op.Clc flags = with_flag carry_flag false flags
flags_changed op.Stc flags = with_flag carry_flag true flags
flags_changed op.Cld flags = with_flag direction_flag false flags
flags_changed op.Std flags = with_flag direction_flag true flags
flags_changed _ flags = flags

-- the flags after CLI and STI
abbrev pub interrupt_flag_changed : Op → ℕ → ℕ
interrupt_flag_changed op.Cli flags = with_flag interrupt_flag false flags
interrupt_flag_changed op.Sti flags = with_flag interrupt_flag true flags
interrupt_flag_changed _ flags = flags

-- STI that turns IF from 0 to 1 shields the next instruction
abbrev pub flag_act : Op → ℕ → Act
flag_act op.Sti flags = if bit flags interrupt_flag then act.Quiet else act.Enable
flag_act _ flags = act.Quiet

-- what MOV from CRn reads; CR3 is 4,096 times the root
abbrev pub control_value : Control → ℕ → ℕ
control_value control n =
    if n == 0 then control.cr0 else if n == 2 then control.cr2 else if n == 3 then 4096 * control.root else control.cr4

-- a value for CR0: below 2 ^ 32, with PE (0) and PG (31), and with NW (29) only where CD (30) is set
abbrev pub is_cr0 : ℕ → Bool
is_cr0 value = nat_lt value (2 ^ 32) && bit value 0 && bit value 31 && (not (bit value 29) || bit value 30)

-- a value for CR3: its frame is in memory
abbrev pub is_cr3 : ℕ → ℕ → Bool
is_cr3 frames value = nat_lt (value / 4096) frames

-- a value for CR4: PAE (5), and SMEP (20) or not
abbrev pub is_cr4 : ℕ → Bool
is_cr4 value = value == 2 ^ 5 || value == 2 ^ 5 + 2 ^ 20

-- the act, unless the value is refused
abbrev pub control_act : Bool → Regs → ℕ → Act → Result Change Fault
control_act admitted regs next act =
    if admitted then change (going_on regs regs.general regs.flags next) 0 act else Err (fault.General 0)

abbrev pub control_loaded : ℕ → Regs → ℕ → ℕ → ℕ → Result Change Fault
control_loaded n regs next frames value =
    if n == 0 then control_act (is_cr0 value) regs next (act.Cr0 value)
    else if n == 2 then control_act true regs next (act.Cr2 value)
    else if n == 3 then control_act (is_cr3 frames value) regs next (act.Cr3 value)
    else control_act (is_cr4 value) regs next (act.Cr4 value)

-- the page of a canonical address is dropped
abbrev pub page_dropped : ℕ → Act
page_dropped va = if is_canonical va then act.DropPage (page_of va) else act.Quiet

-- the outcomes of the forms of arithmetic, moves, the stack and strings
abbrev pub data_outcome : DataForm → Instr → ℕ → Regs → Gathered → Result Change Fault
data_outcome Combine i next regs found =
    with_result i regs next (combination i.op i.width (cut i.width found.to) (cut (source_width i.op i.width) found.from) i.value regs.flags)
data_outcome Compare i next regs found =
    quietly (going_on regs regs.general (comparison i.op i.width (cut i.width found.to) (cut i.width found.from) regs.flags) next)
data_outcome Move i next regs found =
    with_result i regs next (record { value = movement i.op i.width (cut (source_width i.op i.width) found.from) regs.flags; flags = regs.flags })
data_outcome Address i next regs found =
    with_result i regs next (record { value = cut i.width found.from; flags = regs.flags })
data_outcome Exchange i next regs found = exchanged i regs next (cut i.width found.to) (cut i.width found.from)
data_outcome ExchangeAdd i next regs found =
    sum_exchanged i regs next (cut i.width found.to) (sum i.width (cut i.width found.to) (cut i.width found.from) false regs.flags)
data_outcome CompareExchange i next regs found =
    compared i regs next (held regs.general (place.Reg rax) i.width) (cut i.width found.to) (cut i.width found.from)
data_outcome ScanBits i next regs found = bits_scanned i regs next (is_forward i.op) (cut i.width found.from)
data_outcome Widen i next regs found = quietly (going_on regs (widened i regs) regs.flags next)
data_outcome Double i next regs found = quietly (going_on regs (doubled i regs) regs.flags next)
data_outcome Multiply i next regs found = multiplied_wide i regs next (is_signed i.op) (cut i.width found.to)
data_outcome Divide i next regs found = divided i regs next (is_signed i.op) (cut i.width found.to)
data_outcome Push i next regs found =
    change (going_on regs (fallen regs i.width) regs.flags next) (cut i.width found.from) act.Quiet
data_outcome Pop i next regs found =
    change (going_on regs (written (risen regs i.width) i.to i.width (cut i.width found.to)) regs.flags next) (cut i.width found.to) act.Quiet
data_outcome Leave i next regs found =
    quietly (going_on regs
    (with_register (with_register regs.general rsp (wrapped (slice_index regs.general rbp + 8))) rbp (cut 64 found.to)) regs.flags next)
data_outcome MoveString i next regs found =
    unless_idle_turn i regs next
    (string_turn i regs next (pointer_moved regs i.width rdi (pointer_moved regs i.width rsi regs.general)) regs.flags true (cut i.width found.from))
data_outcome StoreString i next regs found =
    unless_idle_turn i regs next
    (string_turn i regs next (pointer_moved regs i.width rdi regs.general) regs.flags true (held regs.general (place.Reg rax) i.width))
data_outcome LoadString i next regs found =
    unless_idle_turn i regs next
    (string_turn i regs next (written (pointer_moved regs i.width rsi regs.general) (place.Reg rax) i.width (cut i.width found.from)) regs.flags true 0)
data_outcome CompareStrings i next regs found =
    let flags = difference_flags i.width (cut i.width found.to) (cut i.width found.from) false regs.flags in
    unless_idle_turn i regs next
    (string_turn i regs next (pointer_moved regs i.width rdi (pointer_moved regs i.width rsi regs.general)) flags (is_asked i.rep (bit flags zero_flag)) 0)
data_outcome ScanString i next regs found =
    let flags = difference_flags i.width (held regs.general (place.Reg rax) i.width) (cut i.width found.from) false regs.flags in
    unless_idle_turn i regs next
    (string_turn i regs next (pointer_moved regs i.width rdi regs.general) flags (is_asked i.rep (bit flags zero_flag)) 0)
data_outcome ChangeFlag i next regs found = quietly (going_on regs regs.general (flags_changed i.op regs.flags) next)
data_outcome Nothing i next regs found = quietly (going_on regs regs.general regs.flags next)

-- those of the forms of branches, traps, the flags as a whole, IF, ports and the system
abbrev pub flow_outcome : FlowForm → Instr → ℕ → Regs → Control → ℕ → Gathered → Result Change Fault
flow_outcome Branch i next regs control frames found =
    branched regs next regs.general (is_taken i.op regs.flags) (target_by i.from next found.from) 0
flow_outcome Call i next regs control frames found = branched regs next (fallen regs 64) true (target_by i.from next found.from) next
flow_outcome Return i next regs control frames found =
    branched regs next (with_register regs.general rsp (wrapped (slice_index regs.general rsp + 8 + i.value))) true (cut 64 found.to) 0
flow_outcome CountDown i next regs control frames found =
    let general = count_after i.op regs.general in
    branched regs next general (is_taken_by_count i.op (slice_index general rcx) (bit regs.flags zero_flag)) (wrapped (next + i.value)) 0
flow_outcome Trap i next regs control frames found =
    change (going_on regs regs.general regs.flags next) 0 (act.Interrupt (interrupt_vector i.op i.value))
flow_outcome TrapReturn i next regs control frames found = quietly (going_on regs regs.general regs.flags next)
flow_outcome PushFlags i next regs control frames found =
    change (going_on regs (fallen regs i.width) regs.flags next) (cut i.width regs.flags) act.Quiet
flow_outcome PopFlags i next regs control frames found =
    quietly (going_on regs (risen regs i.width) (flags_popped regs.cpl regs.flags (cut i.width found.to)) next)
flow_outcome ChangeInterruptFlag i next regs control frames found =
    change (going_on regs regs.general (interrupt_flag_changed i.op regs.flags) next) 0 (flag_act i.op regs.flags)
flow_outcome Halt i next regs control frames found = change (going_on regs regs.general regs.flags next) 0 act.Halt
flow_outcome Input i next regs control frames found = change (going_on regs regs.general regs.flags next) 0 (act.In (cut 16 found.from))
flow_outcome Output i next regs control frames found =
    change (going_on regs regs.general regs.flags next) 0 (act.Out (cut 8 found.from) (cut 16 found.to))
flow_outcome FromControl i next regs control frames found =
    quietly (going_on regs (written regs.general i.to 64 (control_value control i.value)) regs.flags next)
flow_outcome ToControl i next regs control frames found = control_loaded i.value regs next frames (cut 64 found.from)
flow_outcome LoadTable i next regs control frames found =
    change (going_on regs regs.general regs.flags next) 0 (act.Idt (cut 64 found.from) (cut 16 found.to))
flow_outcome DropPage i next regs control frames found =
    change (going_on regs regs.general regs.flags next) 0 (page_dropped (cut 64 found.from))
flow_outcome Refused i next regs control frames found = quietly (going_on regs regs.general regs.flags next)

abbrev pub outcome_by : Form → Instr → ℕ → Regs → Control → ℕ → Gathered → Result Change Fault
outcome_by (Data form) i next regs control frames found = data_outcome form i next regs found
outcome_by (Flow form) i next regs control frames found = flow_outcome form i next regs control frames found
