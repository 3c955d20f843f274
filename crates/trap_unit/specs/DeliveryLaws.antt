-- What a delivery leaves, and what it reads.
use Rattle.std.specs.Prelude.{◌≡◌, ℕ, List, Option, OnErr, OnOk, length}
use Rattle.nk_bits.specs.declared.control.Control.{Control}
use Rattle.nk_bits.specs.Accesses.{IsWalked}
use Rattle.nk_bits.specs.Claims.{AllPass, Claim}
use Rattle.nk_bits.specs.Translations.{Translations}
use Rattle.page_walk.specs.MemoryAccess.{view_of}
use Rattle.x86_regs.specs.AlikeMemories.{AreAlike}
use Rattle.x86_regs.specs.declared.delivery.Tables.{Tables}
use Rattle.x86_regs.specs.declared.registers.Regs.{Regs}
use Rattle.phys_mem.specs.Memory.{stored}
use Rattle.trap_unit.specs.DeliveryStores.{delivery_stores}
use Rattle.trap_unit.specs.TrapDelivery.{delivered, entry_found, interrupt_allowed}

-- where a delivery ends, and the memory that it leaves
pub record DeliveryLaws : Type 0 where
  pub supervisor : (regs : Regs) (control : Control) (tables : Tables) (vector : ℕ) (code : Option ℕ) (m : List ℕ)
      (tlb : Translations) → let it = delivered regs control tables vector code m tlb in
      OnOk it.answer (it.regs.cpl ≡ 0)
  pub shut : (regs : Regs) (control : Control) (tables : Tables) (vector : ℕ) (code : Option ℕ) (m : List ℕ)
      (tlb : Translations) → let it = delivered regs control tables vector code m tlb in
      OnErr it.answer (it.regs ≡ regs)
  pub stores : (regs : Regs) (control : Control) (tables : Tables) (vector : ℕ) (code : Option ℕ) (m : List ℕ)
      (tlb : Translations) → (delivered regs control tables vector code m tlb).memory
      ≡ stored m (delivery_stores regs control tables vector code m tlb)
  pub length : (regs : Regs) (control : Control) (tables : Tables) (vector : ℕ) (code : Option ℕ) (m : List ℕ)
      (tlb : Translations) → length (delivered regs control tables vector code m tlb).memory ≡ length m

-- its reads over two memories that are alike
pub record AlikeReadsLaws : Type 0 where
  pub entry : (test : Claim) (control : Control) (tables : Tables) (vector : ℕ) (m n : List ℕ)
      (tlb : Translations)
      → AreAlike test control.root m n → IsWalked (view_of m control 0) test → AllPass test tlb
      → entry_found control tables vector m tlb ≡ entry_found control tables vector n tlb
  pub allowed : (test : Claim) (control : Control) (tables : Tables) (cpl vector : ℕ) (m n : List ℕ)
      (tlb : Translations)
      → AreAlike test control.root m n → IsWalked (view_of m control 0) test → AllPass test tlb
      → interrupt_allowed control tables cpl vector m tlb ≡ interrupt_allowed control tables cpl vector n tlb
