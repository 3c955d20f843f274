-- Bytes that are fetched in a row with the same translations: what they decide, and what comes if they are too few.
use Rattle.std.proofs.Common.{◌≡◌, ℕ, zero, suc, ◌+◌, ◌<◌, ◌≤◌, List, [], ◌∷◌, ◌++◌, length, refl, ap, sym, ◌∙◌, arith}
use Rattle.std.proofs.lemmas.List.{append-nil, append_assoc, length-append}
use Rattle.std.proofs.lemmas.List.Elements.{All-append}
use Rattle.nk_bits.specs.Translations.{Translations}
use Rattle.nk_bits.specs.Outcomes.{Outcome, answered, and_then}
use Rattle.nk_bits.specs.Accesses.{View}
use Rattle.phys_mem.specs.Memory.{IsBytes, byte_at}
use Rattle.x86_decode.specs.declared.instruction.Decoded.{Decoded}
use Rattle.x86_decode.specs.declared.instruction.Decoded.TheVariants.{Whole, Short, TooLong, Unknown}
use Rattle.x86_decode.specs.Reader.{decoded_of}
use Rattle.x86_decode.specs.Spelling.{AreBytes}
use Rattle.x86_regs.specs.declared.faults.Fault.{Fault}
use Rattle.x86_regs.specs.Operands.{wrapped}
use Rattle.cpu_step.specs.declared.fetch.Fetched.{Fetched}
use Rattle.cpu_step.specs.InstructionFetch.{byte_fetched, decided_by, fetched_from}
use Rattle.cpu_step.proofs.LongerCode.{DecodingFacts, decoded_longer}
use Rattle.cpu_step.specs.CodeLines.{code_behind}
use Rattle.cpu_step.proofs.WordBytes.{code_bytes, code_length}

-- what these bytes decide, with at most so many more
abbrev pub settled_by : List ℕ → List ℕ → View → ℕ → Translations → ℕ → Outcome Fault Fetched
settled_by front m view rip after left = decided_by (decoded_of front) after (fetched_from left m view rip front after)

-- what bytes decide, more of them decide, where it is known what comes if they were too few
module _ (decodings : DecodingFacts) where
  settled : (bytes more : List ℕ) (after : Translations) (next last : Outcome Fault Fetched) → AreBytes bytes → AreBytes (bytes ++ more) → length (bytes ++ more) ≤ 15 →
      (decoded_of bytes ≡ Short → next ≡ decided_by (decoded_of (bytes ++ more)) after last) →
      decided_by (decoded_of bytes) after next ≡ decided_by (decoded_of (bytes ++ more)) after last
  settled bytes more after next last some are few short = go (decoded_of bytes) refl
    where
      go : (answer : Decoded) → decoded_of bytes ≡ answer → decided_by answer after next ≡ decided_by (decoded_of (bytes ++ more)) after last
      go (Whole instr size) is = ap (λ d. decided_by d after last) (decoded_longer decodings bytes more some are few (Whole instr size) is (λ e. cc))
      go Short is = short is
      go TooLong is = ap (λ d. decided_by d after last) (decoded_longer decodings bytes more some are few TooLong is (λ e. cc))
      go Unknown is = ap (λ d. decided_by d after last) (decoded_longer decodings bytes more some are few Unknown is (λ e. cc))

  module _ (m : List ℕ) (bytes : IsBytes m) (view : View) (rip place base : ℕ) (after : Translations) (count : ℕ)
      (fetches : (k : ℕ) → k < count → byte_fetched m view (wrapped (rip + (base + k))) after ≡ answered (byte_at m (place + k)) after) where
    -- the next byte, and those behind it
    step : (more n left i : ℕ) (front : List ℕ) (now : Translations) → length front ≡ base + i → i + suc n ≡ count → base + count ≤ 15 → AreBytes front →
        byte_fetched m view (wrapped (rip + (base + i))) now ≡ answered (byte_at m (place + i)) after →
        (decoded_of (front ++ byte_at m (place + i) ∷ []) ≡ Short → fetched_from more m view rip (front ++ byte_at m (place + i) ∷ []) after
        ≡ settled_by ((front ++ byte_at m (place + i) ∷ []) ++ code_behind m place (suc i) n) m view rip after left) →
        fetched_from (suc more) m view rip front now ≡ settled_by (front ++ code_behind m place i (suc n)) m view rip after left
    step more n left i front now size whole few are fetch later =
        let byte : ℕ = byte_at m (place + i) in
        let rest : List ℕ = code_behind m place (suc i) n in
        let longer : List ℕ = front ++ byte ∷ [] in
        let some : AreBytes longer = All-append (λ b. b < 256) front (byte ∷ []) are (code_bytes m bytes place i 1) in
        let all : AreBytes (longer ++ rest) = All-append (λ b. b < 256) longer rest some (code_bytes m bytes place (suc i) n) in
        let short : length (longer ++ rest) ≤ 15 = omega (arith, length-append longer rest, length-append front (byte ∷ []), code_length m place (suc i) n, size, whole, few) in
        ap (λ x. and_then (byte_fetched m view (wrapped (rip + x)) now) (λ b t. decided_by (decoded_of (front ++ b ∷ [])) t (fetched_from more m view rip (front ++ b ∷ []) t))) size
        ∙ (ap (λ o. and_then o (λ b t. decided_by (decoded_of (front ++ b ∷ [])) t (fetched_from more m view rip (front ++ b ∷ []) t))) fetch
        ∙ (settled longer rest after (fetched_from more m view rip longer after) (fetched_from left m view rip (longer ++ rest) after) some all short later
        ∙ ap (λ x. settled_by x m view rip after left) (append_assoc front (byte ∷ []) rest)))

    pub run_fetched : (n left more i : ℕ) (front : List ℕ) (now : Translations) → more ≡ n + left → length front ≡ base + i → i + suc n ≡ count → base + count ≤ 15 → AreBytes front →
        byte_fetched m view (wrapped (rip + (base + i))) now ≡ answered (byte_at m (place + i)) after →
        fetched_from (suc more) m view rip front now ≡ settled_by (front ++ code_behind m place i (suc n)) m view rip after left
    run_fetched zero left more i front now is size whole few are fetch =
        let longer : List ℕ = front ++ byte_at m (place + i) ∷ [] in
        let none : more ≡ left = omega (arith, is) in
        step more 0 left i front now size whole few are fetch
        (λ short.
        ap (λ x. fetched_from x m view rip longer after) none
        ∙ (ap (λ (d : Decoded). decided_by d after (fetched_from left m view rip longer after)) (sym short) ∙ ap (λ x. settled_by x m view rip after left) (sym (append-nil longer))))
    run_fetched (suc n) left more i front now is size whole few are fetch =
        let byte : ℕ = byte_at m (place + i) in
        let longer : List ℕ = front ++ byte ∷ [] in
        let some : AreBytes longer = All-append (λ b. b < 256) front (byte ∷ []) are (code_bytes m bytes place i 1) in
        let fewer : more ≡ suc (n + left) = omega (arith, is) in
        step more (suc n) left i front now size whole few are fetch
        (λ short.
        ap (λ x. fetched_from x m view rip longer after) fewer
        ∙ run_fetched n left (n + left) (suc i) longer after refl (omega (arith, length-append front (byte ∷ []), size)) (omega (arith, whole)) few some
        (fetches (suc i) (omega (arith, whole))))
