-- Accesses and effects over two memories that are alike.
use Rattle.std.specs.Prelude.{◌≡◌, ℕ, ◌^◌, ◌<◌, ◌≤◌, List}
use Rattle.x86_decode.specs.declared.instruction.Instr.{Instr}
use Rattle.x86_decode.specs.WellFormed.{IsWellFormed}
use Rattle.nk_bits.specs.declared.access.Access.{Access}
use Rattle.nk_bits.specs.declared.control.Control.{Control}
use Rattle.nk_bits.specs.Accesses.{IsAccessSize, IsWalked, accessed}
use Rattle.nk_bits.specs.Claims.{AllPass, Claim}
use Rattle.nk_bits.specs.Translations.{Translations}
use Rattle.page_walk.specs.MemoryAccess.{fetched, loaded, view_of}
use Rattle.x86_regs.specs.declared.registers.Regs.{Regs}
use Rattle.x86_regs.specs.Effects.{effect_of}
use Rattle.x86_regs.specs.EffectsKept.{AreRegisters}
use Rattle.x86_regs.specs.AlikeMemories.{AreAlike}

pub record AlikeLaws : Type 0 where
  pub accessed : (test : Claim) (control : Control) (cpl : ℕ) (m n : List ℕ) (access : Access)
      (tlb : Translations) (va width : ℕ)
      → AreAlike test control.root m n → IsWalked (view_of m control cpl) test → AllPass test tlb
      → va < 2 ^ 64 → 1 ≤ width
      → accessed (view_of m control cpl) access tlb va width ≡ accessed (view_of n control cpl) access tlb va width
  pub loaded : (test : Claim) (control : Control) (cpl : ℕ) (m n : List ℕ) (tlb : Translations) (va width : ℕ)
      → AreAlike test control.root m n → IsWalked (view_of m control cpl) test → AllPass test tlb
      → va < 2 ^ 64 → IsAccessSize width
      → loaded m (view_of m control cpl) tlb va width ≡ loaded n (view_of n control cpl) tlb va width
  pub fetched : (test : Claim) (control : Control) (cpl : ℕ) (m n : List ℕ) (tlb : Translations) (va : ℕ)
      → AreAlike test control.root m n → IsWalked (view_of m control cpl) test → AllPass test tlb → va < 2 ^ 64
      → fetched m (view_of m control cpl) tlb va ≡ fetched n (view_of n control cpl) tlb va
  pub effect : (i : Instr) (size : ℕ) (regs : Regs) (control : Control) (m n : List ℕ) (tlb : Translations)
      (test : Claim)
      → AreAlike test control.root m n → IsWalked (view_of m control regs.cpl) test → AllPass test tlb
      → IsWellFormed i → AreRegisters regs
      → effect_of i size regs control m tlb ≡ effect_of i size regs control n tlb
