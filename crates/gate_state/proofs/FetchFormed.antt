-- What is fetched is well formed, since a spelling of it is in front of the bytes that were read; and translations go
-- on respecting the kinds over a fetch.
use Rattle.std.proofs.Common.{◌≡◌, ℕ, ◌<◌, true, false, List, refl, subst}
use Rattle.std.specs.Prelude.{Ok}
use Rattle.std.proofs.lemmas.Bool.{false≢true}
use Rattle.std.proofs.lemmas.List.Elements.{All-from_get_or}
use Rattle.nk_bits.specs.declared.control.Control.{Control}
use Rattle.nk_bits.specs.declared.kind.Kind.{Kind}
use Rattle.nk_bits.specs.Claims.{AllPass, Claim}
use Rattle.nk_bits.specs.Translations.{Translations}
use Rattle.page_walk.specs.MemoryAccess.{view_of}
use Rattle.x86_decode.specs.declared.instruction.Decoded.{Decoded}
use Rattle.x86_decode.specs.Decoding.{Decodes, IsFront}
use Rattle.x86_decode.specs.Spelling.{AreBytes}
use Rattle.x86_decode.specs.WellFormed.{IsWellFormed}
use Rattle.cpu_step.specs.declared.fetch.Fetched.{Fetched}
use Rattle.cpu_step.specs.InstructionFetch.{instruction_at}
use Rattle.gate_state.specs.MachineStates.{Opening}
use Rattle.gate_state.specs.RespectedKinds.{respecting}
use Rattle.gate_state.proofs.LowerLaws.{LowerLaws}
use Rattle.gate_state.proofs.Scene.{IsScene, SceneLaws}
use Rattle.gate_state.proofs.FetchSteps.{AreFetched, steps_bytes, steps_pass}
use Rattle.gate_state.proofs.FetchBytes.{byte_pass, fetched_byte}

-- bytes that decode to an instruction begin with a spelling of it
pub front_of : (laws : LowerLaws) (P : ℕ → ℕ → Type 0) (rip : ℕ) (it : Fetched) (read : AreFetched P rip it)
    → AreBytes read.bytes
    → IsFront it.instr read.bytes it.size
front_of laws P rip it read are =
    subst (λ (d : Decoded). Decodes read.bytes d) read.whole (laws.decoding.right read.bytes are read.few)

-- a claim that all that is kept passes
abbrev anything : Claim
anything = record { pair = λ pair. true; upper = λ entry. true; limited = false }

any_pass : (tlb : Translations) → AllPass anything tlb
any_pass tlb = record { pairs = λ k d below. refl; upper = λ k d below. refl; limits = λ is. absurd (false≢true is) }

module _ (laws : LowerLaws) (o : Opening) (ks : List Kind) (scenes : SceneLaws o ks) where
  -- translations go on respecting the kinds over a fetch
  pub fetch_pass : (m : List ℕ) (control : Control) (cpl rip : ℕ) (tlb : Translations) → IsScene o ks m control
      → AllPass (respecting o ks) tlb → AllPass (respecting o ks) (instruction_at m (view_of m control cpl) rip tlb).tlb
  fetch_pass m control cpl rip tlb scene all =
      steps_pass m (view_of m control cpl) (respecting o ks)
      (λ now va fits passed. byte_pass laws o ks scenes m control scene cpl now va fits passed) rip tlb all

  -- what is fetched is well formed
  pub fetch_formed : (m : List ℕ) (control : Control) (cpl rip : ℕ) (tlb : Translations) → IsScene o ks m control
      → (it : Fetched)
      → (instruction_at m (view_of m control cpl) rip tlb).answer ≡ Ok it → IsWellFormed it.instr
  fetch_formed m control cpl rip tlb scene it is =
      let read : AreFetched (λ va byte. byte < 256) rip it =
      steps_bytes m (view_of m control cpl) anything (λ now va fits passed. any_pass _) (λ va byte. byte < 256)
      (λ now va byte fits passed found. fetched_byte laws o ks scenes m control scene cpl now va byte found)
      rip tlb it (any_pass tlb) is in
      let are : AreBytes read.bytes = All-from_get_or (λ byte. byte < 256) read.bytes 0 read.each in
      let front : IsFront it.instr read.bytes it.size = front_of laws (λ va byte. byte < 256) rip it read are in
      laws.spelling.formed it.instr _ front.lawful.spells
