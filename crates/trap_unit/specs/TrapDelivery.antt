-- The delivery of an interrupt, a trap or a fault through an interrupt gate, to the stack that IST1 names (SDM volume
-- 3, 6.14). Each of its accesses is the supervisor's, whatever the CPL is, and a fault of one shuts the machine down.
use Rattle.std.specs.Prelude.{ℕ, ◌+◌, ◌*◌, ◌/◌, ◌%◌, ◌^◌, Bool, false, ◌==◌, ◌&&◌, nat_lt, nat_le, if◌then◌else◌, List, [], ◌∷◌, slice_index, Option, None, Some, Result, Ok, Err}
use Rattle.nk_bits.specs.declared.access.Access.TheVariants.{Write}
use Rattle.nk_bits.specs.declared.control.Control.{Control}
use Rattle.nk_bits.specs.declared.fault.AccessFault.{AccessFault}
use Rattle.nk_bits.specs.declared.leaf.Target.{Target}
use Rattle.nk_bits.specs.Paging.{is_canonical}
use Rattle.nk_bits.specs.Translations.{Translations}
use Rattle.nk_bits.specs.Outcomes.{Outcome, outcome_of, answered, refused, and_then}
use Rattle.nk_bits.specs.Accesses.{accessed}
use Rattle.page_walk.specs.MemoryAccess.{loaded, view_of, bytes_written}
use Rattle.x86_alu.specs.Flags.{with_flag}
use Rattle.x86_regs.specs.declared.delivery.Tables.{Tables}
use Rattle.x86_regs.specs.declared.registers.Regs.{Regs}
use Rattle.x86_regs.specs.Combinations.{interrupt_flag}
use Rattle.x86_regs.specs.Operands.{lowered, rsp, with_register, wrapped}
use Rattle.trap_unit.specs.declared.shutdown.Shut.{Shut}
use Rattle.trap_unit.specs.declared.gate.Gate.{Gate}
use Rattle.trap_unit.specs.declared.delivery.Entry.{Entry}

-- the machine shuts down
abbrev pub shut : Shut
shut = record {}

-- what an access gives, or the end of the machine
abbrev pub or_shut : {A : Type 0} → Result A AccessFault → Result A Shut
or_shut (Ok answer) = Ok answer
or_shut (Err fault) = Err shut

-- the eight bytes from this address on
abbrev pub read_at : Control → ℕ → List ℕ → Translations → Outcome Shut ℕ
read_at control va m tlb =
    let read : Outcome AccessFault ℕ = loaded m (view_of m control 0) tlb va 8 in
    outcome_of (or_shut read.answer) read.tlb

-- a gate has sixteen bytes (SDM volume 3, 6.14.1)
abbrev pub descriptor_address : Tables → ℕ → ℕ
descriptor_address tables vector = wrapped (tables.idt + 16 * vector)

-- the limit is the offset of the table's last byte
abbrev pub passes_limit : Tables → ℕ → Bool
passes_limit tables vector = nat_lt tables.limit (16 * vector + 15)

-- the gate of a vector, its low half first
unfoldable pub gate_read : Control → Tables → ℕ → List ℕ → Translations → Outcome Shut Gate
gate_read control tables vector m tlb =
    let va = descriptor_address tables vector in
    and_then (read_at control va m tlb) (λ low after.
    and_then (read_at control (wrapped (va + 8)) m after) (λ high last.
    answered (record { low = low; high = high }) last))

-- the handler's address: bits 15:0, 31:16 and 63:32 (SDM volume 3, figure 6-8)
abbrev pub gate_offset : Gate → ℕ
gate_offset gate = gate.low % 2 ^ 16 + 2 ^ 16 * (gate.low / 2 ^ 48) + 2 ^ 32 * (gate.high % 2 ^ 32)

-- the descriptor privilege level, which stands in the low half
abbrev pub gate_level : ℕ → ℕ
gate_level low = low / 2 ^ 45 % 4

-- the gate is present (bit 47), is an interrupt gate (type 14), leads to code of the segment 8, and names IST1; its
-- handler's address is canonical
abbrev pub is_good : Gate → Bool
is_good gate =
    gate.low / 2 ^ 47 % 2 == 1
    && gate.low / 2 ^ 40 % 16 == 14
    && gate.low / 2 ^ 16 % 2 ^ 16 == 8
    && gate.low / 2 ^ 32 % 8 == 1
    && is_canonical (gate_offset gate)

-- a gate that isn't good shuts the machine down
abbrev pub if_good : Gate → Translations → Outcome Shut Gate
if_good gate tlb = if is_good gate then answered gate tlb else refused shut tlb

-- the gate of a vector, which is to be within the limit and good
abbrev pub gate_found : Control → Tables → ℕ → List ℕ → Translations → Outcome Shut Gate
gate_found control tables vector m tlb =
    if passes_limit tables vector then refused shut tlb
    else and_then (gate_read control tables vector m tlb) if_good

-- where a delivery goes on: the handler, and the stack's top, which is IST1 aligned down to 16 bytes. IST1 stands at
-- byte 36 of the task-state segment (SDM volume 3, 6.14.5 and figure 7-11)
unfoldable pub entry_found : Control → Tables → ℕ → List ℕ → Translations → Outcome Shut Entry
entry_found control tables vector m tlb =
    and_then (gate_found control tables vector m tlb) (λ gate after.
    and_then (read_at control (wrapped (tables.tss + 36)) m after) (λ stack last.
    answered (record { handler = gate_offset gate; top = stack / 16 * 16 }) last))

-- INT n and INT3 ask first whether the gate is within the limit and the CPL doesn't exceed its level (SDM volume 3,
-- 6.12.1.2)
unfoldable pub interrupt_allowed : Control → Tables → ℕ → ℕ → List ℕ → Translations → Outcome Shut Bool
interrupt_allowed control tables cpl vector m tlb =
    if passes_limit tables vector then answered false tlb
    else and_then (read_at control (descriptor_address tables vector) m tlb) (λ low after.
    answered (nat_le cpl (gate_level low)) after)

-- memory and translations after pushes, with the address of the last one
pub record Pushed : Type 0 where
  pub memory : List ℕ
  pub tlb : Translations
  pub answer : Result ℕ Shut

-- where a push was made, if its check found its places
abbrev pub made_at : ℕ → Result Target AccessFault → Result ℕ Shut
made_at va (Ok target) = Ok va
made_at va (Err fault) = Err shut

-- a push of eight bytes below the stack's top: a write, which is checked and then made
unfoldable pub pushed : Control → ℕ → ℕ → List ℕ → Translations → Pushed
pushed control value top m tlb =
    let va = lowered top 8 in
    let check : Outcome AccessFault Target = accessed (view_of m control 0) Write tlb va 8 in
    record { memory = bytes_written m va 8 value check.answer; tlb = check.tlb; answer = made_at va check.answer }

-- what comes after a push: the next ones, below it, or nothing where it faulted
abbrev pub pushed_on : Result ℕ Shut → List ℕ → Translations → (ℕ → List ℕ → Translations → Pushed) → Pushed
pushed_on (Ok top) m tlb next = next top m tlb
pushed_on (Err it) m tlb next = record { memory = m; tlb = tlb; answer = Err it }

-- one push after another, each over the memory and the translations that those before it left
abbrev pub pushes : Control → List ℕ → ℕ → List ℕ → Translations → Pushed
pushes control [] top m tlb = record { memory = m; tlb = tlb; answer = Ok top }
pushes control (value ∷ values) top m tlb =
    let first : Pushed = pushed control value top m tlb in
    pushed_on first.answer first.memory first.tlb (pushes control values)

-- the selector in CS goes with the CPL
abbrev pub cs_of : ℕ → ℕ
cs_of cpl = if cpl == 0 then 0x08 else 0x1B

-- an error code, if there is one
abbrev pub codes_of : Option ℕ → List ℕ
codes_of None = []
codes_of (Some code) = code ∷ []

-- what is pushed, in this order (SDM volume 3, 6.14.2 and figure 6-9)
abbrev pub frame_values : Regs → Option ℕ → List ℕ
frame_values regs code =
    regs.ss ∷ slice_index regs.general rsp ∷ regs.flags ∷ cs_of regs.cpl ∷ regs.rip ∷ codes_of code

-- the registers at the handler, RSP at the last push: the CPL is 0, IF is clear, and SS is null where the CPL was
-- another (SDM volume 3, 6.12.1.3 and 6.14.4); all others stay
abbrev pub at_handler : Regs → ℕ → ℕ → Regs
at_handler regs handler top = record {
  general = with_register regs.general rsp top;
  rip = handler;
  flags = with_flag interrupt_flag false regs.flags;
  cpl = 0;
  ss = if regs.cpl == 0 then regs.ss else 0;
}

-- registers, memory and translations after a delivery, which is made or shuts the machine down
pub record Delivered : Type 0 where
  pub regs : Regs
  pub memory : List ℕ
  pub tlb : Translations
  pub answer : Result Unit Shut

-- after the pushes; a push that faulted leaves the registers
abbrev pub arrived : Regs → ℕ → Result ℕ Shut → List ℕ → Translations → Delivered
arrived regs handler (Ok top) m tlb =
    record { regs = at_handler regs handler top; memory = m; tlb = tlb; answer = Ok tt }
arrived regs handler (Err it) m tlb = record { regs = regs; memory = m; tlb = tlb; answer = Err it }

-- after the reads; a gate that isn't served leaves registers and memory
abbrev pub entered : Regs → Control → Option ℕ → Result Entry Shut → List ℕ → Translations → Delivered
entered regs control code (Ok entry) m tlb =
    let last : Pushed = pushes control (frame_values regs code) entry.top m tlb in
    arrived regs entry.handler last.answer last.memory last.tlb
entered regs control code (Err it) m tlb = record { regs = regs; memory = m; tlb = tlb; answer = Err it }

-- the delivery of a vector, with an error code or without
unfoldable pub delivered : Regs → Control → Tables → ℕ → Option ℕ → List ℕ → Translations → Delivered
delivered regs control tables vector code m tlb =
    let entry : Outcome Shut Entry = entry_found control tables vector m tlb in
    entered regs control code entry.answer m entry.tlb
