-- Deliveries that leave what none does, each named by the sentence that it guards.
use Rattle.std.proofs.Common.{◌≡◌, ◌≢◌, ◌+◌, ℕ, List, Option, Ok, Err, length, subst, arith}
use Rattle.std.specs.Prelude.{OnErr, OnOk, Result}
use Rattle.nk_bits.specs.declared.control.Control.{Control}
use Rattle.nk_bits.specs.Translations.{Translations}
use Rattle.x86_regs.specs.declared.delivery.Tables.{Tables}
use Rattle.x86_regs.specs.declared.registers.Regs.{Regs}
use Rattle.trap_unit.specs.declared.shutdown.Shut.{Shut}
use Rattle.trap_unit.specs.DeliveryLaws.{DeliveryLaws}
use Rattle.trap_unit.specs.TrapDelivery.{Delivered, delivered}

module _ (laws : DeliveryLaws) (regs : Regs) (control : Control) (tables : Tables) (vector : ℕ) (code : Option ℕ)
    (m : List ℕ) (tlb : Translations) (it : Delivered) (is : delivered regs control tables vector code m tlb ≡ it) where
  -- one that is made ends at CPL 3
  made_at_cpl_3 : it.answer ≡ Ok tt → it.regs.cpl ≡ 3 → ⊥
  made_at_cpl_3 made three =
      let law : OnOk it.answer (it.regs.cpl ≡ 0) =
      subst (λ (d : Delivered). OnOk d.answer (d.regs.cpl ≡ 0)) is
      (laws.supervisor regs control tables vector code m tlb) in
      let zero : it.regs.cpl ≡ 0 = subst (λ (a : Result Unit Shut). OnOk a (it.regs.cpl ≡ 0)) made law in
      omega (arith, zero, three)

  -- one that shuts the machine down changes registers
  shut_with_other_registers : (fault : Shut) → it.answer ≡ Err fault → it.regs ≢ regs → ⊥
  shut_with_other_registers fault ended other =
      let law : OnErr it.answer (it.regs ≡ regs) =
      subst (λ (d : Delivered). OnErr d.answer (d.regs ≡ regs)) is (laws.shut regs control tables vector code m tlb) in
      other (subst (λ (a : Result Unit Shut). OnErr a (it.regs ≡ regs)) ended law)

  -- memory is a byte longer
  longer_memory : length it.memory ≡ length m + 1 → ⊥
  longer_memory more =
      let same : length it.memory ≡ length m =
      subst (λ (d : Delivered). length d.memory ≡ length m) is (laws.length regs control tables vector code m tlb) in
      omega (arith, more, same)
