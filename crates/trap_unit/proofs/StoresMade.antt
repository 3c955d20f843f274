-- Memory after a delivery is memory after its stores.
use Rattle.std.proofs.Common.{◌≡◌, ℕ, ◌∙◌, List, [], ◌∷◌, refl, sym, ap}
use Rattle.std.specs.Prelude.{Option, Result, Ok, Err}
use Rattle.nk_bits.specs.declared.access.Access.TheVariants.{Write}
use Rattle.nk_bits.specs.declared.control.Control.{Control}
use Rattle.nk_bits.specs.declared.fault.AccessFault.{AccessFault}
use Rattle.nk_bits.specs.declared.leaf.Target.{Target}
use Rattle.nk_bits.specs.Accesses.{accessed}
use Rattle.nk_bits.specs.Outcomes.{Outcome}
use Rattle.nk_bits.specs.Translations.{Translations}
use Rattle.page_walk.specs.MemoryAccess.{view_of, bytes_written}
use Rattle.phys_mem.specs.Memory.{stored}
use Rattle.phys_mem.specs.MemoryLaws.{MemoryLaws}
use Rattle.x86_regs.specs.declared.delivery.Tables.{Tables}
use Rattle.x86_regs.specs.declared.registers.Regs.{Regs}
use Rattle.x86_regs.specs.Operands.{lowered}
use Rattle.trap_unit.specs.declared.shutdown.Shut.{Shut}
use Rattle.trap_unit.specs.declared.delivery.Entry.{Entry}
use Rattle.trap_unit.specs.DeliveryStores.{delivery_stores, frame_stores, push_stores, pushes_stores, stores_found, stores_on}
use Rattle.trap_unit.specs.TrapDelivery.{Pushed, arrived, delivered, entered, entry_found, frame_values, pushed, pushed_on, pushes}

stored_none : (m : List ℕ) → m ≡ stored m []
unfolding stored
stored_none m = refl

written_stored : (m : List ℕ) (va width value : ℕ) (answer : Result Target AccessFault)
    → bytes_written m va width value answer ≡ stored m (stores_found va width value answer)
written_stored m va width value (Ok target) = refl
written_stored m va width value (Err fault) = stored_none m

pushed_stored : (control : Control) (value top : ℕ) (m : List ℕ) (tlb : Translations)
    → (pushed control value top m tlb).memory ≡ stored m (push_stores control value top m tlb)
unfolding pushed push_stores
pushed_stored control value top m tlb =
    let check : Outcome AccessFault Target = accessed (view_of m control 0) Write tlb (lowered top 8) 8 in
    written_stored m (lowered top 8) 8 value check.answer

on_stored : (control : Control) (values : List ℕ) (answer : Result ℕ Shut) (m : List ℕ) (tlb : Translations)
    → ((top : ℕ) → (pushes control values top m tlb).memory ≡ stored m (pushes_stores control values top m tlb))
    → (pushed_on answer m tlb (pushes control values)).memory
    ≡ stored m (stores_on answer m tlb (pushes_stores control values))
on_stored control values (Ok top) m tlb next = next top
on_stored control values (Err it) m tlb next = stored_none m

pushes_stored : MemoryLaws → (control : Control) (values : List ℕ) (top : ℕ) (m : List ℕ) (tlb : Translations)
    → (pushes control values top m tlb).memory ≡ stored m (pushes_stores control values top m tlb)
pushes_stored laws control [] top m tlb = stored_none m
pushes_stored laws control (value ∷ values) top m tlb =
    let first : Pushed = pushed control value top m tlb in
    let later : List (ℕ × ℕ) = stores_on first.answer first.memory first.tlb (pushes_stores control values) in
    on_stored control values first.answer first.memory first.tlb
    (λ last. pushes_stored laws control values last first.memory first.tlb)
    ∙ ap (λ (l : List ℕ). stored l later) (pushed_stored control value top m tlb)
    ∙ sym (laws.append m (push_stores control value top m tlb) later)

arrived_memory : (regs : Regs) (handler : ℕ) (answer : Result ℕ Shut) (m : List ℕ) (tlb : Translations)
    → (arrived regs handler answer m tlb).memory ≡ m
arrived_memory regs handler (Ok top) m tlb = refl
arrived_memory regs handler (Err it) m tlb = refl

entered_stored : MemoryLaws → (regs : Regs) (control : Control) (code : Option ℕ) (answer : Result Entry Shut)
    (m : List ℕ) (tlb : Translations)
    → (entered regs control code answer m tlb).memory ≡ stored m (frame_stores regs control code answer m tlb)
entered_stored laws regs control code (Ok entry) m tlb =
    let last : Pushed = pushes control (frame_values regs code) entry.top m tlb in
    arrived_memory regs entry.handler last.answer last.memory last.tlb
    ∙ pushes_stored laws control (frame_values regs code) entry.top m tlb
entered_stored laws regs control code (Err it) m tlb = stored_none m

pub delivered_stored : MemoryLaws → (regs : Regs) (control : Control) (tables : Tables) (vector : ℕ)
    (code : Option ℕ) (m : List ℕ) (tlb : Translations)
    → (delivered regs control tables vector code m tlb).memory
    ≡ stored m (delivery_stores regs control tables vector code m tlb)
unfolding delivered delivery_stores
delivered_stored laws regs control tables vector code m tlb =
    let entry : Outcome Shut Entry = entry_found control tables vector m tlb in
    entered_stored laws regs control code entry.answer m entry.tlb
