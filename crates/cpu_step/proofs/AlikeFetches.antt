-- Over two memories that are alike an instruction is fetched alike, and has the same effect.
use Rattle.std.proofs.Common.{◌≡◌, ℕ, zero, suc, ◌+◌, ◌^◌, ◌<◌, List, [], ◌∷◌, ◌++◌, length, refl, ap, ◌∙◌, lit<, mod-lt, arith}
use Rattle.std.specs.Prelude.{IfOk, Result, Ok, Err}
use Rattle.std.proofs.lemmas.Result.{IfOk-at_ok}
use Rattle.nk_bits.specs.declared.access.Access.TheVariants.{Fetch}
use Rattle.nk_bits.specs.declared.control.Control.{Control}
use Rattle.nk_bits.specs.declared.fault.AccessFault.{AccessFault}
use Rattle.nk_bits.specs.declared.leaf.Target.{Target}
use Rattle.nk_bits.specs.Translations.{Translations}
use Rattle.nk_bits.specs.Claims.{AllPass, Claim}
use Rattle.nk_bits.specs.Outcomes.{Outcome, and_then, answered, then_by, then_on}
use Rattle.nk_bits.specs.Accesses.{IsWalked, View, accessed}
use Rattle.nk_bits.specs.AccessLaws.{AccessLaws}
use Rattle.phys_mem.specs.Memory.{byte_at}
use Rattle.page_walk.specs.MemoryAccess.{view_of}
use Rattle.x86_decode.specs.Reader.{decoded_of}
use Rattle.x86_decode.specs.WellFormed.{IsWellFormed}
use Rattle.x86_decode.specs.declared.instruction.Decoded.{Decoded}
use Rattle.x86_decode.specs.declared.instruction.Decoded.TheVariants.{Whole, Short, TooLong, Unknown}
use Rattle.x86_regs.specs.AlikeMemories.{AreAlike}
use Rattle.x86_regs.specs.declared.faults.Fault.{Fault}
use Rattle.x86_regs.specs.Effects.{effect_of}
use Rattle.x86_regs.specs.EffectsKept.{AreRegisters}
use Rattle.x86_regs.specs.Operands.{wrapped}
use Rattle.x86_regs.specs.AlikeLaws.{AlikeLaws}
use Rattle.cpu_step.specs.declared.fetch.Fetched.{Fetched}
use Rattle.cpu_step.specs.InstructionFetch.{byte_fetched, decided_by, fetched_from, in_fetch, instruction_at}
use Rattle.cpu_step.specs.Processor.{Processor}
use Rattle.cpu_step.specs.Turns.{instruction_made}

-- what is used of the laws below
pub record SameLaws : Type 0 where
  pub access : AccessLaws
  pub alike : AlikeLaws

-- two steps are the same where the first ones are, and the next ones from each answer
then_same : {F A B : Type 0} (answer : Result A F) (tlb : Translations) (next later : A → Translations → Outcome F B)
    → ((x : A) → answer ≡ Ok x → next x tlb ≡ later x tlb) → then_by answer tlb next ≡ then_by answer tlb later
then_same (Ok x) tlb next later same = same x refl
then_same (Err fault) tlb next later same = refl

same_on : {F A B : Type 0} (one other : Outcome F A) (next later : A → Translations → Outcome F B) → one ≡ other
    → ((x : A) → one.answer ≡ Ok x → next x one.tlb ≡ later x one.tlb) → and_then one next ≡ and_then other later
same_on {F} {A} one other next later same step =
    then_same one.answer one.tlb next later step ∙ ap (λ (o : Outcome F A). and_then o later) same

-- what bytes decide, with what comes behind them
decided_passes : (test : Claim) (d : Decoded) (tlb : Translations) (more : Outcome Fault Fetched) → AllPass test tlb
    → AllPass test more.tlb → AllPass test (decided_by d tlb more).tlb
decided_passes test (Whole instr size) tlb more pass later = pass
decided_passes test Short tlb more pass later = later
decided_passes test TooLong tlb more pass later = pass
decided_passes test Unknown tlb more pass later = pass

module _ (laws : SameLaws) (test : Claim) (control : Control) (cpl : ℕ) (m n : List ℕ)
    (alike : AreAlike test control.root m n) (walked : IsWalked (view_of m control cpl) test) (rip : ℕ) where
  abbrev here : View
  here = view_of m control cpl

  abbrev there : View
  there = view_of n control cpl

  place : (k : ℕ) → wrapped (rip + k) < 2 ^ 64
  place k = mod-lt (rip + k) (lit< tt)

  byte_passes : (k : ℕ) (tlb : Translations) → AllPass test tlb
      → AllPass test (byte_fetched m here (wrapped (rip + k)) tlb).tlb
  byte_passes k tlb pass =
      let va : ℕ = wrapped (rip + k) in
      let access : Outcome AccessFault Target = accessed here Fetch tlb va 1 in
      let kept = laws.access.kept here Fetch test tlb va 1 walked (place k) (omega arith) pass in
      then_on (AllPass test) access.answer access.tlb (λ target after. answered (byte_at m target.first) after) kept
      (λ target. kept)

  byte_same : (k : ℕ) (tlb : Translations) → AllPass test tlb
      → byte_fetched m here (wrapped (rip + k)) tlb ≡ byte_fetched n there (wrapped (rip + k)) tlb
  byte_same k tlb pass =
      ap (λ (o : Outcome AccessFault ℕ). in_fetch o)
      (laws.alike.fetched test control cpl m n tlb (wrapped (rip + k)) alike walked pass (place k))

  from_passes : (left : ℕ) (bytes : List ℕ) (tlb : Translations) → AllPass test tlb
      → AllPass test (fetched_from left m here rip bytes tlb).tlb
  from_passes zero bytes tlb pass = pass
  from_passes (suc left) bytes tlb pass =
      let first : Outcome Fault ℕ = byte_fetched m here (wrapped (rip + length bytes)) tlb in
      let kept = byte_passes (length bytes) tlb pass in
      then_on (AllPass test) first.answer first.tlb
      (λ byte after. decided_by (decoded_of (bytes ++ byte ∷ [])) after
      (fetched_from left m here rip (bytes ++ byte ∷ []) after)) kept
      (λ byte. decided_passes test (decoded_of (bytes ++ byte ∷ [])) first.tlb
      (fetched_from left m here rip (bytes ++ byte ∷ []) first.tlb) kept
      (from_passes left (bytes ++ byte ∷ []) first.tlb kept))

  from_same : (left : ℕ) (bytes : List ℕ) (tlb : Translations) → AllPass test tlb
      → fetched_from left m here rip bytes tlb ≡ fetched_from left n there rip bytes tlb
  from_same zero bytes tlb pass = refl
  from_same (suc left) bytes tlb pass =
      let va : ℕ = wrapped (rip + length bytes) in
      let first : Outcome Fault ℕ = byte_fetched m here va tlb in
      let kept = byte_passes (length bytes) tlb pass in
      same_on first (byte_fetched n there va tlb)
      (λ byte after. decided_by (decoded_of (bytes ++ byte ∷ [])) after
      (fetched_from left m here rip (bytes ++ byte ∷ []) after))
      (λ byte after. decided_by (decoded_of (bytes ++ byte ∷ [])) after
      (fetched_from left n there rip (bytes ++ byte ∷ []) after))
      (byte_same (length bytes) tlb pass)
      (λ byte _. ap (λ (more : Outcome Fault Fetched). decided_by (decoded_of (bytes ++ byte ∷ [])) first.tlb more)
      (from_same left (bytes ++ byte ∷ []) first.tlb kept))

  pub fetch_passes : (tlb : Translations) → AllPass test tlb → AllPass test (instruction_at m here rip tlb).tlb
  unfolding instruction_at
  fetch_passes tlb pass = from_passes 15 [] tlb pass

  pub fetch_same : (tlb : Translations) → AllPass test tlb
      → instruction_at m here rip tlb ≡ instruction_at n there rip tlb
  unfolding instruction_at
  fetch_same tlb pass = from_same 15 [] tlb pass

module _ (laws : SameLaws) (test : Claim) (p : Processor) (m n : List ℕ) (alike : AreAlike test p.control.root m n)
    (walked : IsWalked (view_of m p.control p.regs.cpl) test) where
  pub made_same : AllPass test p.tlb → AreRegisters p.regs
      → IfOk (instruction_at m (view_of m p.control p.regs.cpl) p.regs.rip p.tlb).answer (λ it. IsWellFormed it.instr)
      → instruction_made p m ≡ instruction_made p n
  made_same pass registers formed =
      let one = instruction_at m (view_of m p.control p.regs.cpl) p.regs.rip p.tlb in
      let kept = fetch_passes laws test p.control p.regs.cpl m n alike walked p.regs.rip p.tlb pass in
      same_on one (instruction_at n (view_of n p.control p.regs.cpl) p.regs.rip p.tlb)
      (λ it after. effect_of it.instr it.size p.regs p.control m after)
      (λ it after. effect_of it.instr it.size p.regs p.control n after)
      (fetch_same laws test p.control p.regs.cpl m n alike walked p.regs.rip p.tlb pass)
      (λ it is. laws.alike.effect it.instr it.size p.regs p.control m n one.tlb test alike walked kept
      (IfOk-at_ok _ is formed) registers)
