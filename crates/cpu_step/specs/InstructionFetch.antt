-- The fetch of an instruction: bytes are fetched one at a time from RIP on, until they are a whole spelling, begin none,
-- or are fifteen that begin a longer one (SDM volume 3, 4.6 and 6.15, vectors 6 and 13; volume 2, 2.3.11).
use Rattle.std.specs.Prelude.{ℕ, zero, suc, ◌+◌, false, List, [], ◌∷◌, ◌++◌, length, Result, Ok, Err}
use Rattle.nk_bits.specs.declared.fault.AccessFault.{AccessFault}
use Rattle.nk_bits.specs.Translations.{Translations}
use Rattle.nk_bits.specs.Outcomes.{Outcome, outcome_of, answered, refused, and_then}
use Rattle.nk_bits.specs.Accesses.{View}
use Rattle.page_walk.specs.MemoryAccess.{fetched}
use Rattle.x86_decode.specs.declared.instruction.Decoded.{Decoded}
use Rattle.x86_decode.specs.declared.instruction.Decoded.TheVariants.{Whole, Short, TooLong, Unknown}
use Rattle.x86_decode.specs.Reader.{decoded_of}
use Rattle.x86_regs.specs.declared.faults.Fault.{Fault}
use Rattle.x86_regs.specs.declared.faults.Fault.TheVariants.{General, Opcode}
use Rattle.x86_regs.specs.Operands.{wrapped}
use Rattle.x86_regs.specs.Effects.{access_raised}
use Rattle.cpu_step.specs.declared.fetch.Fetched.{Fetched}

-- the fault of a fetch: a page fault, or #GP where the address isn't canonical
abbrev pub raised_by_fetch : {A : Type 0} → Result A AccessFault → Result A Fault
raised_by_fetch (Ok answer) = Ok answer
raised_by_fetch (Err it) = Err (access_raised false it)

abbrev pub in_fetch : {A : Type 0} → Outcome AccessFault A → Outcome Fault A
in_fetch outcome = outcome_of (raised_by_fetch outcome.answer) outcome.tlb

-- the byte at this address
abbrev pub byte_fetched : List ℕ → View → ℕ → Translations → Outcome Fault ℕ
byte_fetched m view va tlb = in_fetch (fetched m view tlb va)

-- what the bytes so far decide: the instruction, its fault, or that more of them are fetched
abbrev pub decided_by : Decoded → Translations → Outcome Fault Fetched → Outcome Fault Fetched
decided_by (Whole instr size) tlb more = answered (record { instr = instr; size = size }) tlb
decided_by Short tlb more = more
decided_by TooLong tlb more = refused (General 0) tlb
decided_by Unknown tlb more = refused Opcode tlb

-- the fetch goes on behind these bytes, with at most so many more; `decoded_of` is the one answer to the bytes that the
-- relation `Decodes` allows (`fetch_law`)
abbrev pub fetched_from : ℕ → List ℕ → View → ℕ → List ℕ → Translations → Outcome Fault Fetched
fetched_from zero m view rip bytes tlb = refused (General 0) tlb
fetched_from (suc left) m view rip bytes tlb =
    and_then (byte_fetched m view (wrapped (rip + length bytes)) tlb) (λ byte after.
    decided_by (decoded_of (bytes ++ byte ∷ [])) after (fetched_from left m view rip (bytes ++ byte ∷ []) after))

-- the instruction at RIP, with its length in bytes
unfoldable pub instruction_at : List ℕ → View → ℕ → Translations → Outcome Fault Fetched
instruction_at m view rip tlb = fetched_from 15 m view rip [] tlb
