-- What a delivery and a return keep.
use Rattle.std.proofs.Common.{◌≡◌, ◌⊎◌, ℕ, ◌∙◌, List, [], ◌∷◌, length, refl, true, false, Bool, arith}
use Rattle.std.specs.Prelude.{Option, Result, Ok, Err, OnOk, OnErr, IfOk, ◌==◌, if◌then◌else◌, ◌&&◌}
use Rattle.nk_bits.specs.declared.control.Control.{Control}
use Rattle.nk_bits.specs.declared.fault.AccessFault.{AccessFault}
use Rattle.nk_bits.specs.declared.leaf.Target.{Target}
use Rattle.nk_bits.specs.declared.access.Access.TheVariants.{Write}
use Rattle.nk_bits.specs.Paging.{is_canonical}
use Rattle.nk_bits.specs.Outcomes.{Outcome}
use Rattle.nk_bits.specs.Accesses.{accessed}
use Rattle.nk_bits.specs.Translations.{Translations}
use Rattle.page_walk.specs.MemoryAccess.{view_of, bytes_written}
use Rattle.phys_mem.specs.MemoryLaws.{MemoryLaws}
use Rattle.x86_regs.specs.declared.delivery.Frame.{Frame}
use Rattle.x86_regs.specs.declared.delivery.Tables.{Tables}
use Rattle.x86_regs.specs.declared.faults.Fault.TheVariants as fault
use Rattle.x86_regs.specs.declared.registers.Regs.{Regs}
use Rattle.x86_regs.specs.Operands.{lowered}
use Rattle.trap_unit.specs.declared.shutdown.Shut.{Shut}
use Rattle.trap_unit.specs.declared.delivery.Entry.{Entry}
use Rattle.trap_unit.specs.TrapDelivery.{Pushed, arrived, delivered, entered, entry_found, frame_values, pushed, pushed_on, pushes}
use Rattle.trap_unit.specs.TrapReturn.{at_return, may_return, returned, selector}

-- the answer decides what is left of the registers
abbrev LeavesRegs : Regs → Result Unit Shut → Regs → Type 0
LeavesRegs before answer after = OnOk answer (after.cpl ≡ 0) × OnErr answer (after ≡ before)

arrived_leaves : (regs : Regs) (handler : ℕ) (answer : Result ℕ Shut) (m : List ℕ) (tlb : Translations) →
    LeavesRegs regs (arrived regs handler answer m tlb).answer (arrived regs handler answer m tlb).regs
arrived_leaves regs handler (Ok top) m tlb = (refl, tt)
arrived_leaves regs handler (Err it) m tlb = (tt, refl)

entered_leaves : (regs : Regs) (control : Control) (code : Option ℕ) (answer : Result Entry Shut) (m : List ℕ)
    (tlb : Translations) →
    LeavesRegs regs (entered regs control code answer m tlb).answer (entered regs control code answer m tlb).regs
entered_leaves regs control code (Ok entry) m tlb =
    let last : Pushed = pushes control (frame_values regs code) entry.top m tlb in
    arrived_leaves regs entry.handler last.answer last.memory last.tlb
entered_leaves regs control code (Err it) m tlb = (tt, refl)

pub delivered_leaves : (regs : Regs) (control : Control) (tables : Tables) (vector : ℕ) (code : Option ℕ) (m : List ℕ)
    (tlb : Translations) →
    LeavesRegs regs (delivered regs control tables vector code m tlb).answer
    (delivered regs control tables vector code m tlb).regs
unfolding delivered
delivered_leaves regs control tables vector code m tlb =
    let entry : Outcome Shut Entry = entry_found control tables vector m tlb in
    entered_leaves regs control code entry.answer m entry.tlb

written_length : MemoryLaws → (m : List ℕ) (va width value : ℕ) (answer : Result Target AccessFault) →
    length (bytes_written m va width value answer) ≡ length m
written_length laws m va width value (Ok target) = laws.length m _
written_length laws m va width value (Err fault) = refl

pushed_length : MemoryLaws → (control : Control) (value top : ℕ) (m : List ℕ) (tlb : Translations) →
    length (pushed control value top m tlb).memory ≡ length m
unfolding pushed
pushed_length laws control value top m tlb =
    written_length laws m (lowered top 8) 8 value (accessed (view_of m control 0) Write tlb (lowered top 8) 8).answer

on_length : (control : Control) (values : List ℕ) (answer : Result ℕ Shut) (m : List ℕ) (tlb : Translations) →
    ((top : ℕ) → length (pushes control values top m tlb).memory ≡ length m) →
    length (pushed_on answer m tlb (pushes control values)).memory ≡ length m
on_length control values (Ok top) m tlb next = next top
on_length control values (Err it) m tlb next = refl

pushes_length : MemoryLaws → (control : Control) (values : List ℕ) (top : ℕ) (m : List ℕ) (tlb : Translations) →
    length (pushes control values top m tlb).memory ≡ length m
pushes_length laws control [] top m tlb = refl
pushes_length laws control (value ∷ values) top m tlb =
    let first : Pushed = pushed control value top m tlb in
    on_length control values first.answer first.memory first.tlb
    (λ at. pushes_length laws control values at first.memory first.tlb)
    ∙ pushed_length laws control value top m tlb

arrived_memory : (regs : Regs) (handler : ℕ) (answer : Result ℕ Shut) (m : List ℕ) (tlb : Translations) →
    (arrived regs handler answer m tlb).memory ≡ m
arrived_memory regs handler (Ok top) m tlb = refl
arrived_memory regs handler (Err it) m tlb = refl

entered_length : MemoryLaws → (regs : Regs) (control : Control) (code : Option ℕ) (answer : Result Entry Shut)
    (m : List ℕ) (tlb : Translations) →
    length (entered regs control code answer m tlb).memory ≡ length m
entered_length laws regs control code (Ok entry) m tlb =
    let last : Pushed = pushes control (frame_values regs code) entry.top m tlb in
    let same : (arrived regs entry.handler last.answer last.memory last.tlb).memory ≡ last.memory =
    arrived_memory regs entry.handler last.answer last.memory last.tlb in
    rw same (pushes_length laws control (frame_values regs code) entry.top m tlb)
entered_length laws regs control code (Err it) m tlb = refl

pub delivered_length : MemoryLaws → (regs : Regs) (control : Control) (tables : Tables) (vector : ℕ)
    (code : Option ℕ) (m : List ℕ) (tlb : Translations) →
    length (delivered regs control tables vector code m tlb).memory ≡ length m
unfolding delivered
delivered_length laws regs control tables vector code m tlb =
    let entry : Outcome Shut Entry = entry_found control tables vector m tlb in
    entered_length laws regs control code entry.answer m entry.tlb

-- where a return may go
abbrev ReturnsTo : ℕ → ℕ → Type 0
ReturnsTo before after = (after ≡ 3) ⊎ ((before ≡ 0) × (after ≡ 0))

pair_returns : (cpl cs ss : ℕ) (canonical : Bool) → (may_return cpl cs ss && canonical) ≡ true →
    ReturnsTo cpl (if cs == 0x1B then 3 else 0)
pair_returns cpl cs ss canonical may = grind arith

if_returned : {A F : Type 0} (P : A → Type 0) (x : A) (fault : F) (b : Bool) → (b ≡ true → P x) →
    IfOk (if b then Ok x else Err fault) P
if_returned P x fault true holds = holds refl
if_returned P x fault false holds = tt

pub return_leaves : (regs : Regs) (frame : Frame) → IfOk (returned regs frame) (λ after. ReturnsTo regs.cpl after.cpl)
unfolding returned
return_leaves regs frame =
    if_returned (λ after. ReturnsTo regs.cpl after.cpl) (at_return regs frame) (fault.General 0)
    (may_return regs.cpl (selector frame.cs) (selector frame.ss) && is_canonical frame.rip)
    (pair_returns regs.cpl (selector frame.cs) (selector frame.ss) (is_canonical frame.rip))
