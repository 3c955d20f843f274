-- The fault of a fetch has numbers of 64 bits: that of each byte, and that of bytes which are no instruction.
use Rattle.std.proofs.Common.{ℕ, zero, suc, ◌+◌, ◌^◌, ◌<◌, false, List, [], ◌∷◌, ◌++◌, length, lit<, mod-lt}
use Rattle.std.specs.Prelude.{IfErr, Result, Ok, Err}
use Rattle.nk_bits.specs.declared.access.Access.TheVariants.{Fetch}
use Rattle.nk_bits.specs.declared.fault.AccessFault.{AccessFault}
use Rattle.nk_bits.specs.declared.leaf.Target.{Target}
use Rattle.nk_bits.specs.Accesses.{IsSmallAccessFault, View, accessed}
use Rattle.nk_bits.specs.Outcomes.{Outcome, answered, then_by}
use Rattle.nk_bits.specs.Translations.{Translations}
use Rattle.nk_bits.specs.AccessLaws.{AccessLaws}
use Rattle.phys_mem.specs.Memory.{byte_at}
use Rattle.x86_decode.specs.Reader.{decoded_of}
use Rattle.x86_decode.specs.declared.instruction.Decoded.{Decoded}
use Rattle.x86_decode.specs.declared.instruction.Decoded.TheVariants.{Whole, Short, TooLong, Unknown}
use Rattle.x86_regs.specs.declared.faults.Fault.{Fault}
use Rattle.x86_regs.specs.EffectsKept.{IsSmallFault}
use Rattle.x86_regs.specs.Operands.{wrapped}
use Rattle.x86_regs.specs.EffectLaws.{BoundLaws}
use Rattle.cpu_step.specs.declared.fetch.Fetched.{Fetched}
use Rattle.cpu_step.specs.InstructionFetch.{byte_fetched, decided_by, fetched_from, instruction_at, raised_by_fetch}

-- the fault of a step after another
then_err : {F A B : Type 0} (Q : F → Type 0) (answer : Result A F) (tlb : Translations)
    (next : A → Translations → Outcome F B) → IfErr answer Q → ((x : A) → IfErr (next x tlb).answer Q)
    → IfErr (then_by answer tlb next).answer Q
then_err Q (Ok x) tlb next first later = later x
then_err Q (Err fault) tlb next first later = first

-- what bytes decide that are an instruction, or none
decided_small : (d : Decoded) (tlb : Translations) (more : Outcome Fault Fetched) → IfErr more.answer IsSmallFault
    → IfErr (decided_by d tlb more).answer IsSmallFault
decided_small (Whole instr size) tlb more later = tt
decided_small Short tlb more later = later
decided_small TooLong tlb more later = lit< tt
decided_small Unknown tlb more later = tt

module _ (accesses : AccessLaws) (bounds : BoundLaws) where
  raised_small : {A : Type 0} (answer : Result A AccessFault) → IfErr answer IsSmallAccessFault
      → IfErr (raised_by_fetch answer) IsSmallFault
  raised_small (Ok x) small = tt
  raised_small (Err it) small = bounds.raised false it small

  module _ (m : List ℕ) (view : View) where
    byte_small : (va : ℕ) (tlb : Translations) → va < 2 ^ 64 → IfErr (byte_fetched m view va tlb).answer IsSmallFault
    byte_small va tlb fits =
        let access : Outcome AccessFault Target = accessed view Fetch tlb va 1 in
        raised_small _
        (then_err IsSmallAccessFault access.answer access.tlb (λ target after. answered (byte_at m target.first) after)
        (accesses.fault view Fetch tlb va 1 fits) (λ target. tt))

    from_small : (left rip : ℕ) (bytes : List ℕ) (tlb : Translations)
        → IfErr (fetched_from left m view rip bytes tlb).answer IsSmallFault
    from_small zero rip bytes tlb = lit< tt
    from_small (suc left) rip bytes tlb =
        let va : ℕ = wrapped (rip + length bytes) in
        let first : Outcome Fault ℕ = byte_fetched m view va tlb in
        then_err IsSmallFault first.answer first.tlb
        (λ byte after. decided_by (decoded_of (bytes ++ byte ∷ [])) after
        (fetched_from left m view rip (bytes ++ byte ∷ []) after))
        (byte_small va tlb (mod-lt (rip + length bytes) (lit< tt)))
        (λ byte. decided_small (decoded_of (bytes ++ byte ∷ [])) first.tlb
        (fetched_from left m view rip (bytes ++ byte ∷ []) first.tlb)
        (from_small left rip (bytes ++ byte ∷ []) first.tlb))

  pub fetch_small : (m : List ℕ) (view : View) (rip : ℕ) (tlb : Translations)
      → IfErr (instruction_at m view rip tlb).answer IsSmallFault
  unfolding instruction_at
  fetch_small m view rip tlb = from_small m view 15 rip [] tlb
