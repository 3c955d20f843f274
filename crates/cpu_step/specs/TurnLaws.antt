-- What a turn fetches, delivers and stores.
use Rattle.std.specs.Prelude.{◌≡◌, ◌≤◌, ◌<◌, ◌^◌, ℕ, Bool, List, IfErr, IfOk, Some, length}
use Rattle.nk_bits.specs.declared.control.Control.{Control}
use Rattle.nk_bits.specs.Accesses.{IsWalked, View}
use Rattle.nk_bits.specs.Claims.{AllPass, Claim}
use Rattle.nk_bits.specs.Translations.{Translations}
use Rattle.page_walk.specs.MemoryAccess.{view_of}
use Rattle.phys_mem.specs.Memory.{stored}
use Rattle.x86_alu.specs.Flags.{with_flag}
use Rattle.x86_decode.specs.declared.instruction.Decoded.{Decoded}
use Rattle.x86_decode.specs.Decoding.{Decodes}
use Rattle.x86_decode.specs.Reader.{decoded_of}
use Rattle.x86_decode.specs.Spelling.{AreBytes}
use Rattle.x86_decode.specs.WellFormed.{IsWellFormed}
use Rattle.x86_regs.specs.AlikeMemories.{AreAlike}
use Rattle.x86_regs.specs.EffectsKept.{AreRegisters, IsSmallFault}
use Rattle.cpu_step.specs.InstructionFetch.{instruction_at}
use Rattle.cpu_step.specs.Processor.{Processor, deliverable}
use Rattle.cpu_step.specs.TurnStores.{turn_stores}
use Rattle.cpu_step.specs.Turns.{instruction_made, turned}

-- the fetch goes by the decoder's answer, and its faults are small
pub record FetchLaws : Type 0 where
  pub right : (bytes : List ℕ) → AreBytes bytes → length bytes ≤ 15 → Decodes bytes (decoded_of bytes)
  pub only : (bytes : List ℕ) (answer : Decoded) → AreBytes bytes → length bytes ≤ 15
      → Decodes bytes answer → answer ≡ decoded_of bytes
  pub small : (m : List ℕ) (view : View) (rip : ℕ) (tlb : Translations)
      → IfErr (instruction_at m view rip tlb).answer IsSmallFault

-- sixteen pending vectors
pub record PendingLaws : Type 0 where
  pub left : (pending place : ℕ) (waits : Bool) → pending < 2 ^ 16 → place < 16
      → with_flag place waits pending < 2 ^ 16
  pub vector : (p : Processor) (vector : ℕ) → p.pending < 2 ^ 16 → deliverable p ≡ Some vector
      → (32 ≤ vector) × (vector < 48)

-- memory after a turn's stores
pub record TurnStoresLaws : Type 0 where
  pub memory : (p : Processor) (m : List ℕ) → (turned p m).memory ≡ stored m (turn_stores p m)

-- the fetch and the effect over two memories that are alike
pub record AlikeFetchLaws : Type 0 where
  pub instruction : (test : Claim) (control : Control) (cpl : ℕ) (m n : List ℕ) (rip : ℕ) (tlb : Translations)
      → AreAlike test control.root m n → IsWalked (view_of m control cpl) test → AllPass test tlb
      → instruction_at m (view_of m control cpl) rip tlb ≡ instruction_at n (view_of n control cpl) rip tlb
  pub made : (test : Claim) (p : Processor) (m n : List ℕ)
      → AreAlike test p.control.root m n → IsWalked (view_of m p.control p.regs.cpl) test → AllPass test p.tlb
      → AreRegisters p.regs → IfOk (instruction_at m (view_of m p.control p.regs.cpl) p.regs.rip p.tlb).answer
      (λ it. IsWellFormed it.instr) → instruction_made p m ≡ instruction_made p n
