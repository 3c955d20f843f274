-- A fetch byte by byte: what goes on holding of the translations, and what holds of the bytes that it comes to.
use Rattle.std.proofs.Common.{◌≡◌, ℕ, zero, suc, ◌+◌, ◌^◌, ◌<◌, ◌≤◌, List, [], ◌∷◌, ◌++◌, length, get_or, refl, sym, ap, subst, ◌∙◌, arith, inl, inr}
use Rattle.std.specs.Prelude.{Result, Ok, Err}
use Rattle.std.proofs.lemmas.Bool.{cases_lt}
use Rattle.std.proofs.lemmas.List.{length-append, get_or_append_left, get_or-append-add}
use Rattle.nk_bits.specs.Accesses.{View}
use Rattle.nk_bits.specs.Claims.{AllPass, Claim}
use Rattle.nk_bits.specs.Outcomes.{Outcome, then_by, then_on}
use Rattle.nk_bits.specs.Translations.{Translations}
use Rattle.x86_decode.specs.declared.instruction.Decoded.{Decoded}
use Rattle.x86_decode.specs.declared.instruction.Decoded.TheVariants.{Whole, Short, TooLong, Unknown}
use Rattle.x86_decode.specs.declared.instruction.Instr.{Instr}
use Rattle.x86_decode.specs.Reader.{decoded_of}
use Rattle.x86_regs.specs.declared.faults.Fault.{Fault}
use Rattle.x86_regs.specs.Operands.{wrapped}
use Rattle.cpu_step.specs.declared.fetch.Fetched.{Fetched}
use Rattle.cpu_step.specs.InstructionFetch.{byte_fetched, decided_by, fetched_from, instruction_at}

-- at most fifteen bytes, of each of which this holds at its address, decode to what was fetched
pub record AreFetched (P : ℕ → ℕ → Type 0) (rip : ℕ) (it : Fetched) : Type 0 where
  pub bytes : List ℕ
  pub few : length bytes ≤ 15
  pub each : (k : ℕ) → k < length bytes → P (wrapped (rip + k)) (get_or bytes k 0)
  pub whole : decoded_of bytes ≡ Whole it.instr it.size

-- what is answered is the answer
whole_is : (instr : Instr) (size : ℕ) (it : Fetched) (d : Decoded) (answer : Result Fetched Fault)
    → d ≡ Whole instr size
    → answer ≡ Ok (record { instr = instr; size = size }) → answer ≡ Ok it → d ≡ Whole it.instr it.size
whole_is instr size it d answer is made same =
    let one : record { instr = instr; size = size } ≡ it = cc in
    is ∙ ap (λ (x : Fetched). Whole x.instr x.size) one

no_answer : (fault : Fault) (it : Fetched) → Err fault ≡ Ok it → ⊥
no_answer fault it same = cc

-- what holds of each byte, and of one more at the next address
each_more : (P : ℕ → ℕ → Type 0) (rip : ℕ) (bytes : List ℕ) (byte : ℕ)
    → ((k : ℕ) → k < length bytes → P (wrapped (rip + k)) (get_or bytes k 0)) → P (wrapped (rip + length bytes)) byte
    → (k : ℕ) → k < length (bytes ++ byte ∷ []) → P (wrapped (rip + k)) (get_or (bytes ++ byte ∷ []) k 0)
each_more P rip bytes byte each last k below = elim (cases_lt k (length bytes)) [
  | inl before ↦
      subst (P (wrapped (rip + k))) (sym (get_or_append_left bytes (byte ∷ []) 0 k before)) (each k before)
  | inr not_before ↦
      let at : length bytes ≡ k = omega (arith, length-append bytes (byte ∷ [])) in
      let there : get_or (bytes ++ byte ∷ []) (length bytes + 0) 0 ≡ byte = get_or-append-add bytes (byte ∷ []) 0 0 in
      let here : length bytes + 0 ≡ length bytes = omega arith in
      subst (λ (x : ℕ). P (wrapped (rip + x)) (get_or (bytes ++ byte ∷ []) x 0)) at
      (subst (P (wrapped (rip + length bytes))) (sym there ∙ ap (λ (x : ℕ). get_or (bytes ++ byte ∷ []) x 0) here) last)
]

module _ (m : List ℕ) (view : View) (test : Claim)
    (keeps : (tlb : Translations) (va : ℕ) → va < 2 ^ 64 → AllPass test tlb
    → AllPass test (byte_fetched m view va tlb).tlb) where
  decided_pass : (d : Decoded) (tlb : Translations) (more : Outcome Fault Fetched) → AllPass test tlb
      → AllPass test more.tlb
      → AllPass test (decided_by d tlb more).tlb
  decided_pass (Whole instr size) tlb more all later = all
  decided_pass Short tlb more all later = later
  decided_pass TooLong tlb more all later = all
  decided_pass Unknown tlb more all later = all

  from_pass : (left rip : ℕ) (bytes : List ℕ) (tlb : Translations) → AllPass test tlb
      → AllPass test (fetched_from left m view rip bytes tlb).tlb
  from_pass zero rip bytes tlb all = all
  from_pass (suc left) rip bytes tlb all =
      let first : Outcome Fault ℕ = byte_fetched m view (wrapped (rip + length bytes)) tlb in
      let kept : AllPass test first.tlb = keeps tlb (wrapped (rip + length bytes)) (omega arith) all in
      then_on (AllPass test) first.answer first.tlb
      (λ byte after. decided_by (decoded_of (bytes ++ byte ∷ [])) after
      (fetched_from left m view rip (bytes ++ byte ∷ []) after))
      kept
      (λ byte. decided_pass (decoded_of (bytes ++ byte ∷ [])) first.tlb
      (fetched_from left m view rip (bytes ++ byte ∷ []) first.tlb) kept
      (from_pass left rip (bytes ++ byte ∷ []) first.tlb kept))

  -- the translations go on passing
  pub steps_pass : (rip : ℕ) (tlb : Translations) → AllPass test tlb → AllPass test (instruction_at m view rip tlb).tlb
  unfolding instruction_at
  steps_pass rip tlb all = from_pass 15 rip [] tlb all

  module _ (P : ℕ → ℕ → Type 0) (reads : (tlb : Translations) (va byte : ℕ) → va < 2 ^ 64 → AllPass test tlb
      → (byte_fetched m view va tlb).answer ≡ Ok byte → P va byte) where
    by_decoded : (rip : ℕ) (bytes : List ℕ) (tlb : Translations) (more : Outcome Fault Fetched) (it : Fetched)
        → length bytes ≤ 15
        → ((k : ℕ) → k < length bytes → P (wrapped (rip + k)) (get_or bytes k 0))
        → (more.answer ≡ Ok it → AreFetched P rip it)
        → (d : Decoded) → decoded_of bytes ≡ d → (decided_by d tlb more).answer ≡ Ok it → AreFetched P rip it
    by_decoded rip bytes tlb more it few each later (Whole instr size) is same =
        let whole : decoded_of bytes ≡ Whole it.instr it.size =
        whole_is instr size it (decoded_of bytes) _ is refl same in
        record { bytes = bytes; few = few; each = each; whole = whole }
    by_decoded rip bytes tlb more it few each later Short is same = later same
    by_decoded rip bytes tlb more it few each later TooLong is same = absurd (no_answer _ it same)
    by_decoded rip bytes tlb more it few each later Unknown is same = absurd (no_answer _ it same)

    by_byte : (answer : Result ℕ Fault) (tlb : Translations) (next : ℕ → Translations → Outcome Fault Fetched)
        (it : Fetched) (rip : ℕ)
        → ((byte : ℕ) → answer ≡ Ok byte → (next byte tlb).answer ≡ Ok it → AreFetched P rip it)
        → (then_by answer tlb next).answer ≡ Ok it → AreFetched P rip it
    by_byte (Ok byte) tlb next it rip later same = later byte refl same
    by_byte (Err fault) tlb next it rip later same = absurd (no_answer fault it same)

    from_bytes : (left rip : ℕ) (bytes : List ℕ) (tlb : Translations) (it : Fetched) → left + length bytes ≡ 15
        → AllPass test tlb
        → ((k : ℕ) → k < length bytes → P (wrapped (rip + k)) (get_or bytes k 0))
        → (fetched_from left m view rip bytes tlb).answer ≡ Ok it → AreFetched P rip it
    from_bytes zero rip bytes tlb it count all each same = absurd (no_answer _ it same)
    from_bytes (suc left) rip bytes tlb it count all each same =
        let va : ℕ = wrapped (rip + length bytes) in
        let first : Outcome Fault ℕ = byte_fetched m view va tlb in
        let kept : AllPass test first.tlb = keeps tlb va (omega arith) all in
        by_byte first.answer first.tlb
        (λ byte after. decided_by (decoded_of (bytes ++ byte ∷ [])) after
        (fetched_from left m view rip (bytes ++ byte ∷ []) after))
        it rip
        (λ byte is then_is.
        let longer : length (bytes ++ byte ∷ []) ≡ length bytes + 1 = length-append bytes (byte ∷ []) in
        let more : (k : ℕ) → k < length (bytes ++ byte ∷ []) → P (wrapped (rip + k)) (get_or (bytes ++ byte ∷ []) k 0) =
        each_more P rip bytes byte each (reads tlb va byte (omega arith) all is) in
        by_decoded rip (bytes ++ byte ∷ []) first.tlb (fetched_from left m view rip (bytes ++ byte ∷ []) first.tlb) it
        (omega (arith, longer, count)) more
        (λ again. from_bytes left rip (bytes ++ byte ∷ []) first.tlb it (omega (arith, longer, count)) kept more again)
        (decoded_of (bytes ++ byte ∷ [])) refl then_is)
        same

    -- what holds of each byte as it is read holds of the bytes that the instruction was fetched by
    pub steps_bytes : (rip : ℕ) (tlb : Translations) (it : Fetched) → AllPass test tlb
        → (instruction_at m view rip tlb).answer ≡ Ok it → AreFetched P rip it
    unfolding instruction_at
    steps_bytes rip tlb it all same =
        from_bytes 15 rip [] tlb it refl all (λ k below. absurd (omega (arith, below))) same
