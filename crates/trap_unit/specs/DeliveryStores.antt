-- What a delivery stores: the bytes of each push that is made, at the places that its check found, one push after another.
-- A place is listed with the byte that goes there, whether or not that byte stood there before.
use Rattle.std.specs.Prelude.{ℕ, List, [], ◌∷◌, ◌++◌, Option, Result, Ok, Err}
use Rattle.nk_bits.specs.declared.access.Access.TheVariants.{Write}
use Rattle.nk_bits.specs.declared.control.Control.{Control}
use Rattle.nk_bits.specs.declared.fault.AccessFault.{AccessFault}
use Rattle.nk_bits.specs.declared.leaf.Target.{Target}
use Rattle.nk_bits.specs.Accesses.{accessed}
use Rattle.nk_bits.specs.Outcomes.{Outcome}
use Rattle.nk_bits.specs.Translations.{Translations}
use Rattle.page_walk.specs.MemoryAccess.{stores_at, view_of}
use Rattle.x86_regs.specs.declared.delivery.Tables.{Tables}
use Rattle.x86_regs.specs.declared.registers.Regs.{Regs}
use Rattle.x86_regs.specs.Operands.{lowered}
use Rattle.trap_unit.specs.declared.shutdown.Shut.{Shut}
use Rattle.trap_unit.specs.declared.delivery.Entry.{Entry}
use Rattle.trap_unit.specs.TrapDelivery.{Pushed, entry_found, frame_values, pushed}

-- the stores of an access by the answer of its check: those of the number at the places found, or none
abbrev pub stores_found : ℕ → ℕ → ℕ → Result Target AccessFault → List (ℕ × ℕ)
stores_found va width value (Ok target) = stores_at va width target value
stores_found va width value (Err fault) = []

-- the stores of a push of eight bytes below the stack's top
unfoldable pub push_stores : Control → ℕ → ℕ → List ℕ → Translations → List (ℕ × ℕ)
push_stores control value top m tlb =
    let check : Outcome AccessFault Target = accessed (view_of m control 0) Write tlb (lowered top 8) 8 in
    stores_found (lowered top 8) 8 value check.answer

-- behind a push: the stores of the next ones, or none where it faulted
abbrev pub stores_on : Result ℕ Shut → List ℕ → Translations → (ℕ → List ℕ → Translations → List (ℕ × ℕ)) → List (ℕ × ℕ)
stores_on (Ok top) m tlb next = next top m tlb
stores_on (Err it) m tlb next = []

-- the stores of one push after another, each over the memory and the translations that those before it left
abbrev pub pushes_stores : Control → List ℕ → ℕ → List ℕ → Translations → List (ℕ × ℕ)
pushes_stores control [] top m tlb = []
pushes_stores control (value ∷ values) top m tlb =
    let first : Pushed = pushed control value top m tlb in
    push_stores control value top m tlb ++ stores_on first.answer first.memory first.tlb (pushes_stores control values)

-- the stores of the frame that is pushed from an entry on, or none where no entry was found
abbrev pub frame_stores : Regs → Control → Option ℕ → Result Entry Shut → List ℕ → Translations → List (ℕ × ℕ)
frame_stores regs control code (Ok entry) m tlb = pushes_stores control (frame_values regs code) entry.top m tlb
frame_stores regs control code (Err it) m tlb = []

-- the stores of the delivery of a vector, with an error code or without
unfoldable pub delivery_stores : Regs → Control → Tables → ℕ → Option ℕ → List ℕ → Translations → List (ℕ × ℕ)
delivery_stores regs control tables vector code m tlb =
    let entry : Outcome Shut Entry = entry_found control tables vector m tlb in
    frame_stores regs control code entry.answer m entry.tlb
