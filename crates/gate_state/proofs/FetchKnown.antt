-- Where the bytes from RIP on are known and decode to an instruction at last, that is what is fetched.
use Rattle.std.proofs.Common.{◌≡◌, ℕ, zero, suc, ◌+◌, ◌^◌, ◌<◌, ◌≤◌, Bool, true, false, ◌&&◌, List, [], ◌∷◌, ◌++◌, length, get_or, refl, sym, ap, subst, ◌∙◌, arith}
use Rattle.std.specs.Prelude.{Result, Ok}
use Rattle.std.proofs.lemmas.Bool.{and_parts, false≢true}
use Rattle.std.proofs.lemmas.List.{append-nil, append_assoc, length-append}
use Rattle.std.proofs.Math.Seq.{get_or-append_seam}
use Rattle.nk_bits.specs.Accesses.{View}
use Rattle.nk_bits.specs.Claims.{AllPass, Claim}
use Rattle.nk_bits.specs.Outcomes.{Outcome, then_by}
use Rattle.nk_bits.specs.Translations.{Translations}
use Rattle.x86_decode.specs.declared.instruction.Decoded.{Decoded}
use Rattle.x86_decode.specs.declared.instruction.Decoded.TheVariants.{Whole, Short, TooLong, Unknown}
use Rattle.x86_decode.specs.Reader.{decoded_of}
use Rattle.x86_regs.specs.declared.faults.Fault.{Fault}
use Rattle.x86_regs.specs.Operands.{wrapped}
use Rattle.cpu_step.specs.declared.fetch.Fetched.{Fetched}
use Rattle.cpu_step.specs.InstructionFetch.{byte_fetched, decided_by, fetched_from, instruction_at}

abbrev pub is_short : Decoded → Bool
is_short (Whole instr size) = false
is_short Short = true
is_short TooLong = false
is_short Unknown = false

abbrev pub is_whole : Decoded → Bool
is_whole (Whole instr size) = true
is_whole Short = false
is_whole TooLong = false
is_whole Unknown = false

-- the bytes in front are too few while more are left, and an instruction with the last
abbrev pub reads_on : List ℕ → List ℕ → Bool
reads_on front [] = is_whole (decoded_of front)
reads_on front (byte ∷ rest) = is_short (decoded_of front) && reads_on (front ++ byte ∷ []) rest

short_is : (d : Decoded) → is_short d ≡ true → d ≡ Short
short_is (Whole instr size) is = absurd (false≢true is)
short_is Short is = refl
short_is TooLong is = absurd (false≢true is)
short_is Unknown is = absurd (false≢true is)

-- the outcome is the instruction that these bytes decode to
pub record IsRead (bytes : List ℕ) (outcome : Outcome Fault Fetched) : Type 0 where
  pub it : Fetched
  pub listed : decoded_of bytes ≡ Whole it.instr it.size
  pub found : outcome.answer ≡ Ok it

whole_read : (bytes : List ℕ) (tlb : Translations) (more : Outcome Fault Fetched) (d : Decoded) → decoded_of bytes ≡ d
    → is_whole d ≡ true
    → IsRead bytes (decided_by d tlb more)
whole_read bytes tlb more (Whole instr size) is whole =
    record { it = record { instr = instr; size = size }; listed = is; found = refl }
whole_read bytes tlb more Short is whole = absurd (false≢true whole)
whole_read bytes tlb more TooLong is whole = absurd (false≢true whole)
whole_read bytes tlb more Unknown is whole = absurd (false≢true whole)

-- the next byte is the one that was found
next_read : (bytes : List ℕ) (answer : Result ℕ Fault) (byte : ℕ) (tlb : Translations)
    (next : ℕ → Translations → Outcome Fault Fetched)
    → answer ≡ Ok byte → IsRead bytes (next byte tlb) → IsRead bytes (then_by answer tlb next)
next_read bytes answer byte tlb next is later =
    subst (λ (a : Result ℕ Fault). IsRead bytes (then_by a tlb next)) (sym is) later

module _ (m : List ℕ) (view : View) (test : Claim)
    (keeps : (tlb : Translations) (va : ℕ) → va < 2 ^ 64 → AllPass test tlb
    → AllPass test (byte_fetched m view va tlb).tlb)
    (rip : ℕ) (all : List ℕ)
    (finds : (tlb : Translations) (k : ℕ) → AllPass test tlb → k < length all
    → (byte_fetched m view (wrapped (rip + k)) tlb).answer ≡ Ok (get_or all k 0)) where
  read_behind : (rest front : List ℕ) (left : ℕ) (tlb : Translations) → front ++ rest ≡ all → length rest ≤ left
      → AllPass test tlb
      → reads_on front rest ≡ true
      → IsRead all (decided_by (decoded_of front) tlb (fetched_from left m view rip front tlb))
  read_behind [] front left tlb parts room passes reads =
      let same : front ≡ all = sym (append-nil front) ∙ parts in
      subst (λ (x : List ℕ). IsRead x (decided_by (decoded_of front) tlb (fetched_from left m view rip front tlb))) same
      (whole_read front tlb (fetched_from left m view rip front tlb) (decoded_of front) refl reads)
  read_behind (byte ∷ rest) front zero tlb parts room passes reads = absurd (omega (arith, room))
  read_behind (byte ∷ rest) front (suc left) tlb parts room passes reads =
      let both : (is_short (decoded_of front) ≡ true) × (reads_on (front ++ byte ∷ []) rest ≡ true) =
      and_parts _ _ reads in
      let va : ℕ = wrapped (rip + length front) in
      let first : Outcome Fault ℕ = byte_fetched m view va tlb in
      let count : length front + length (byte ∷ rest) ≡ length all =
      sym (length-append front (byte ∷ rest)) ∙ ap length parts in
      let below : length front < length all = omega (arith, count) in
      let there : get_or all (length front) 0 ≡ byte =
      sym (ap (λ (bytes : List ℕ). get_or bytes (length front) 0) parts) ∙ get_or-append_seam front byte rest 0 in
      let found : first.answer ≡ Ok byte = finds tlb (length front) passes below ∙ ap (λ (x : ℕ). Ok x) there in
      subst (λ (d : Decoded). IsRead all (decided_by d tlb (fetched_from (suc left) m view rip front tlb)))
      (sym (short_is (decoded_of front) both.0))
      (next_read all first.answer byte first.tlb
      (λ b after. decided_by (decoded_of (front ++ b ∷ [])) after
      (fetched_from left m view rip (front ++ b ∷ []) after)) found
      (read_behind rest (front ++ byte ∷ []) left first.tlb (append_assoc front (byte ∷ []) rest ∙ parts)
      (omega (arith, room))
      (keeps tlb va (omega arith) passes) both.1))

  pub read_known : (tlb : Translations) → length all ≤ 15 → AllPass test tlb → reads_on [] all ≡ true
      → IsRead all (instruction_at m view rip tlb)
  unfolding instruction_at
  read_known tlb few passes reads = read_behind all [] 15 tlb refl few passes reads
