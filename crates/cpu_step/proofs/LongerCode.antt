-- What bytes decode to, those bytes and more decode to, up to fifteen, unless more of them were needed.
use Rattle.std.proofs.Common.{◌≡◌, ℕ, ◌-◌, ◌≤◌, List, [], ◌∷◌, ◌++◌, length, take, drop, refl, ap, sym, subst, ◌∙◌, arith, inl, inr}
use Rattle.std.proofs.lemmas.Bool.{cases_lt}
use Rattle.std.proofs.lemmas.List.{append-nil, append_assoc, length-append, length-drop, length-take-le, take-append-le, take-append-drop, take-take}
use Rattle.std.proofs.Math.Seq.{take-append_seam}
use Rattle.x86_decode.specs.declared.instruction.Instr.{Instr}
use Rattle.x86_decode.specs.declared.instruction.Decoded.{Decoded}
use Rattle.x86_decode.specs.declared.instruction.Decoded.TheVariants.{Whole, Short, TooLong, Unknown}
use Rattle.x86_decode.specs.Decoding.{Decodes, IsFront, IsUnknown}
use Rattle.x86_decode.specs.Reader.{decoded_of}
use Rattle.x86_decode.specs.Spelling.{AreBytes, IsLawful, Spells}

-- what the law on decodings says
pub record DecodingFacts : Type 0 where
  pub right : (bytes : List ℕ) → AreBytes bytes → length bytes ≤ 15 → Decodes bytes (decoded_of bytes)
  pub only : (bytes : List ℕ) (other : Decoded) → AreBytes bytes → length bytes ≤ 15 → Decodes bytes other → other ≡ decoded_of bytes

nil_of : (xs : List ℕ) → length xs ≡ 0 → xs ≡ []
nil_of [] none = refl
nil_of (x ∷ xs) none = absurd (omega (arith, none))

-- the front of a list, and the rest of a longer front
front_of_longer : (bytes more : List ℕ) (size : ℕ) → length bytes ≤ size → take size (bytes ++ more) ≡ bytes ++ drop (length bytes) (take size (bytes ++ more))
front_of_longer bytes more size over =
    let front : List ℕ = take size (bytes ++ more) in
    let same : take (length bytes) front ≡ bytes = take-take (length bytes) size (bytes ++ more) over ∙ take-append_seam bytes more in
    sym (take-append-drop (length bytes) front) ∙ ap (λ x. x ++ drop (length bytes) front) same

front_longer : (instr : Instr) (bytes more : List ℕ) (size : ℕ) → IsFront instr bytes size → IsFront instr (bytes ++ more) size
front_longer instr bytes more size front = record {
  within = omega (arith, front.within, length-append bytes more);
  lawful = subst (IsLawful instr) (sym (take-append-le size bytes more front.within)) front.lawful;
}

-- bytes that begin no spelling begin none with more behind them
module _ (bytes more : List ℕ) (unknown : IsUnknown bytes) where
  none_in_front : (instr : Instr) (size : ℕ) → IsFront instr (bytes ++ more) size → ⊥
  none_in_front instr size front = elim (cases_lt (length bytes) size) [
    | inl over ↦
        let rest : List ℕ = drop (length bytes) (take size (bytes ++ more)) in
        let count : length rest ≡ size - length bytes = length-drop (length bytes) (take size (bytes ++ more)) ∙ ap (λ n. n - length bytes) (length-take-le size (bytes ++ more) front.within) in
        unknown.no_cut (record {
          more = rest;
          some = λ none. omega (arith, ap length none, count, over);
          instr = instr;
          spells = subst (Spells instr) (front_of_longer bytes more size (omega (arith, over))) front.lawful.spells;
        })
    | inr within ↦ unknown.no_front instr size (record {
      within = within;
      lawful = subst (IsLawful instr) (take-append-le size bytes more within) front.lawful;
    })
  ]

  unknown_longer : IsUnknown (bytes ++ more)
  unknown_longer = record {
    no_front = none_in_front;
    no_cut = λ cut. unknown.no_cut (record {
      more = more ++ cut.more;
      some = λ none. cut.some (nil_of cut.more (omega (arith, ap length none, length-append more cut.more)));
      instr = cut.instr;
      spells = subst (Spells cut.instr) (append_assoc bytes more cut.more) cut.spells;
    });
  }

module _ (facts : DecodingFacts) where
  pub decoded_longer : (bytes more : List ℕ) → AreBytes bytes → AreBytes (bytes ++ more) → length (bytes ++ more) ≤ 15 → (answer : Decoded) →
      decoded_of bytes ≡ answer → (answer ≡ Short → ⊥) → answer ≡ decoded_of (bytes ++ more)
  decoded_longer bytes more some are few answer is enough =
      go answer (subst (λ (d : Decoded). Decodes bytes d) is (facts.right bytes some (omega (arith, few, length-append bytes more)))) is enough
    where
      go : (answer : Decoded) → Decodes bytes answer → decoded_of bytes ≡ answer → (answer ≡ Short → ⊥) → answer ≡ decoded_of (bytes ++ more)
      go (Whole instr size) right is enough = facts.only (bytes ++ more) (Whole instr size) are few (front_longer instr bytes more size right)
      go Short right is enough = absurd (enough refl)
      go TooLong right is enough =
          let none : more ≡ [] = nil_of more (omega (arith, right.1, few, length-append bytes more)) in
          sym is ∙ (ap decoded_of (sym (append-nil bytes)) ∙ ap (λ x. decoded_of (bytes ++ x)) (sym none))
      go Unknown right is enough = facts.only (bytes ++ more) Unknown are few (unknown_longer bytes more right)
