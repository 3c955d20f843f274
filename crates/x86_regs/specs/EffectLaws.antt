-- What an instruction by itself changes, and what it keeps.
use Rattle.std.specs.Prelude.{◌≡◌, ℕ, ◌%◌, Bool, true, false, List, length, IfErr, IfOk, IfSome}
use Rattle.x86_decode.specs.declared.instruction.Instr.{Instr}
use Rattle.x86_decode.specs.Conditions.{is_protected}
use Rattle.x86_decode.specs.WellFormed.{IsWellFormed}
use Rattle.nk_bits.specs.declared.control.Control.{Control}
use Rattle.nk_bits.specs.declared.fault.AccessFault.{AccessFault}
use Rattle.nk_bits.specs.Accesses.{IsSmallAccessFault, IsWalked}
use Rattle.nk_bits.specs.Claims.{AllPass, Claim}
use Rattle.nk_bits.specs.Translations.{NamesFramesIn, Translations}
use Rattle.page_walk.specs.MemoryAccess.{view_of}
use Rattle.x86_regs.specs.declared.registers.Regs.{Regs}
use Rattle.x86_regs.specs.Effects.{LeavesToDelivery, LoadsFrameIn, effect_of, access_raised}
use Rattle.x86_regs.specs.EffectsKept.{AreRegisters, IsGranted, IsSmallAct, IsSmallFault, LoadsNothing}

-- what no instruction does by itself
pub record EffectLaws : Type 0 where
  pub privilege : (i : Instr) (size : ℕ) (regs : Regs) (control : Control) (m : List ℕ) (tlb : Translations)
      → IfOk (effect_of i size regs control m tlb).answer
      (λ effect. (effect.regs.cpl ≡ regs.cpl) × (effect.regs.ss ≡ regs.ss))
  pub root : (i : Instr) (size : ℕ) (regs : Regs) (control : Control) (m : List ℕ) (tlb : Translations)
      → IfOk (effect_of i size regs control m tlb).answer (λ effect. LoadsFrameIn (length m) effect.act)
  pub moved : (i : Instr) (size : ℕ) (regs : Regs) (control : Control) (m : List ℕ) (tlb : Translations)
      → IfOk (effect_of i size regs control m tlb).answer (LeavesToDelivery regs)

-- registers of 64 bits and translations of which a claim holds
pub record GrantLaws : Type 0 where
  pub registers : (i : Instr) (size : ℕ) (regs : Regs) (control : Control) (m : List ℕ) (tlb : Translations)
      → IsWellFormed i → AreRegisters regs
      → IfOk (effect_of i size regs control m tlb).answer (λ effect. AreRegisters effect.regs)
  pub calm : (i : Instr) (size : ℕ) (regs : Regs) (control : Control) (m : List ℕ) (tlb : Translations)
      → is_protected i.op ≡ false
      → IfOk (effect_of i size regs control m tlb).answer (λ effect. LoadsNothing effect.act)
  pub supervisor : (i : Instr) (size : ℕ) (regs : Regs) (control : Control) (m : List ℕ) (tlb : Translations)
      → is_protected i.op ≡ true
      → IfOk (effect_of i size regs control m tlb).answer (λ effect. regs.cpl ≡ 0)
  pub translations : (i : Instr) (size : ℕ) (regs : Regs) (control : Control) (m : List ℕ) (tlb : Translations)
      (test : Claim)
      → IsWellFormed i → AreRegisters regs → IsWalked (view_of m control regs.cpl) test
      → AllPass test tlb
      → AllPass test (effect_of i size regs control m tlb).tlb
  pub granted : (i : Instr) (size : ℕ) (regs : Regs) (control : Control) (m : List ℕ) (tlb : Translations)
      (test : Claim)
      → IsWellFormed i → AreRegisters regs → length m % 4096 ≡ 0 → NamesFramesIn (length m) tlb
      → IsWalked (view_of m control regs.cpl) test → AllPass test tlb
      → IfOk (effect_of i size regs control m tlb).answer
      (λ effect. IfSome effect.write (IsGranted (view_of m control regs.cpl) test (length m)))

-- the numbers of faults and acts
pub record BoundLaws : Type 0 where
  pub fault : (i : Instr) (size : ℕ) (regs : Regs) (control : Control) (m : List ℕ) (tlb : Translations)
      → IsWellFormed i → AreRegisters regs → IfErr (effect_of i size regs control m tlb).answer IsSmallFault
  pub act : (i : Instr) (size : ℕ) (regs : Regs) (control : Control) (m : List ℕ) (tlb : Translations)
      → IfOk (effect_of i size regs control m tlb).answer (λ effect. IsSmallAct effect.act)
  pub raised : (stack : Bool) (it : AccessFault) → IsSmallAccessFault it → IsSmallFault (access_raised stack it)
