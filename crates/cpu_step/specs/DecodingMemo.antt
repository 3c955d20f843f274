-- What the processor keeps of earlier decodings: at each entry two words of code, and what they decode to; and the
-- place of the code on its page.
use Rattle.std.specs.Prelude.{◌≡◌, ℕ, List, ◌++◌, take}
use Rattle.std.specs.Int.{w64, to_le_bytes}
use Rattle.nk_bits.specs.declared.access.Access.TheVariants.{Fetch}
use Rattle.nk_bits.specs.declared.fault.AccessFault.{AccessFault}
use Rattle.nk_bits.specs.Translations.{Translations}
use Rattle.nk_bits.specs.Outcomes.{Outcome, answered, and_then, refused}
use Rattle.nk_bits.specs.Accesses.{View, accessed}
use Rattle.x86_decode.specs.Decoding.{IfWhole}
use Rattle.x86_decode.specs.Reader.{decoded_of}
use Rattle.x86_decode.specs.WellFormed.{IsWellFormed}
use Rattle.x86_decode.specs.declared.instruction.Decoded.{Decoded}
use Rattle.x86_regs.specs.declared.faults.Fault.{Fault}
use Rattle.x86_regs.specs.declared.faults.Fault.TheVariants.{General}
use Rattle.cpu_step.specs.declared.fetch.Fetched.{Fetched}
use Rattle.cpu_step.specs.declared.memo.KeptAnswer.{KeptAnswer}
use Rattle.cpu_step.specs.InstructionFetch.{decided_by}

-- the first fifteen bytes of two words, of each the least significant byte first
unfoldable pub bytes_of_words : ℕ → ℕ → List ℕ
bytes_of_words low high = take 15 (to_le_bytes w64 low ++ to_le_bytes w64 high)

-- the answer is that of these words, and its instruction is well formed
pub record IsAnswerOf (low high : ℕ) (answer : Decoded) : Type 0 where
  pub decoded : answer ≡ decoded_of (bytes_of_words low high)
  pub formed : IfWhole answer (λ instr size. IsWellFormed instr)

-- an entry has the answer of its own words
abbrev pub IsRight : KeptAnswer → Type 0
IsRight entry = IsAnswerOf entry.low entry.high entry.answer

-- the place in memory of the byte at this address, for execution
abbrev pub place_found : View → ℕ → Translations → Outcome AccessFault ℕ
place_found view va tlb = and_then (accessed view Fetch tlb va 1) (λ target after. answered target.first after)

-- an answer that the memo lends decides this fetch, after which these translations are kept
pub record IsFetched (fetch : Outcome Fault Fetched) (after : Translations) (answer : Decoded) : Type 0 where
  pub decided : fetch ≡ decided_by answer after (refused (General 0) after)
  pub formed : IfWhole answer (λ instr size. IsWellFormed instr)
