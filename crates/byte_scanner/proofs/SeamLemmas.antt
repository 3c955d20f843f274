-- Where one or two kept bytes go on in a piece.
use Rattle.std.proofs.Common.{◌≡◌, ℕ, ◌+◌, ◌-◌, ◌≤◌, List, ◌∷◌, Option, Some, None, true, false, slice_get, refl, ap, sym, ◌∙◌, subst, arith, inl, inr}
use Rattle.std.specs.Prelude.{MatchOption}
use Rattle.std.proofs.lemmas.Bool.{both_ways, cases_lt}
use Rattle.decode_fields.specs.Protected.{is_protected_at, length_of_bytes}
use Rattle.byte_scanner.specs.declared.encoding.Found.{Found}
use Rattle.byte_scanner.specs.FirstFound.{found_with}
use Rattle.byte_scanner.specs.FoundBytes.{IsFoundOf}
use Rattle.byte_scanner.specs.LeastPlace.{IsLeastPlace, IsNowhere, NoneBelow}
use Rattle.byte_scanner.specs.PieceRuns.{IsFirstIn}
use Rattle.byte_scanner.proofs.ProtectedLemmas.{stands_here}

-- the next place of a run, below which none stands
module _ (bytes : List ℕ) (place start at : ℕ) (there : start + place ≡ at) (clean : NoneBelow (slice_get bytes) place) where
  first_here : (found : Found) → (is_protected_at (slice_get bytes) place ≡ true) × (found ≡ found_with (slice_get bytes) place at) → IsFirstIn start bytes found
  first_here found h = record {
    place = place;
    least = record { stands = h.0; lowest = clean };
    is = h.1 ∙ ap (λ (a : ℕ). found_with (slice_get bytes) place a) (sym there);
  }

  none_here : is_protected_at (slice_get bytes) place ≡ false → NoneBelow (slice_get bytes) (place + 1)
  none_here off k low =
      elim (cases_lt k place) [
        | inl below ↦ clean k below
        | inr here ↦
            let e : place ≡ k = omega arith in
            let P : ℕ → Type 0 = λ p. is_protected_at (slice_get bytes) p ≡ false in
            subst P e off
      ]

  pub at_next : (r : Option Found) → MatchOption r (is_protected_at (slice_get bytes) place ≡ false) (λ found. (is_protected_at (slice_get bytes) place ≡ true) × (found ≡ found_with (slice_get bytes) place at)) → MatchOption r (NoneBelow (slice_get bytes) (place + 1)) (IsFirstIn start bytes)
  at_next None off = none_here off
  at_next (Some found) h = first_here found h

none_at_all : (bytes : List ℕ) → NoneBelow (slice_get bytes) 0
none_at_all bytes place low = absurd (omega arith)

module _ (at : ℕ) (piece : List ℕ) (next : Option ℕ) (next_is : next ≡ slice_get piece 0) (first last : ℕ) where
  across_first : (r : Option Found) → MatchOption r (length_of_bytes (Some first) (Some last) next ≡ 0) (IsFoundOf (at - 2) (Some first) (Some last) next) → MatchOption r (NoneBelow (slice_get (first ∷ last ∷ piece)) 1) (IsFirstIn (at - 2) (first ∷ last ∷ piece))
  across_first r h =
      at_next (first ∷ last ∷ piece) 0 (at - 2) (at - 2) (omega arith) (none_at_all (first ∷ last ∷ piece)) r
      (stands_here (slice_get (first ∷ last ∷ piece)) 0 (Some first) (Some last) next refl refl (sym next_is) (at - 2) r h)

  -- two bytes are kept, and one begins at the first of them
  pub across_two : (found : Found) → IsFoundOf (at - 2) (Some first) (Some last) next found → IsFirstIn (at - 2) (first ∷ last ∷ piece) found
  across_two found h = across_first (Some found) h

module _ (at : ℕ) (piece : List ℕ) (next second : Option ℕ) (next_is : next ≡ slice_get piece 0) (second_is : second ≡ slice_get piece 1) where
  -- or none does
  pub across_last : (first last : ℕ) → 2 ≤ at → length_of_bytes (Some first) (Some last) next ≡ 0 → (r : Option Found) → MatchOption r (length_of_bytes (Some last) next second ≡ 0) (IsFoundOf (at - 1) (Some last) next second) → MatchOption r (NoneBelow (slice_get (first ∷ last ∷ piece)) 2) (IsFirstIn (at - 2) (first ∷ last ∷ piece))
  across_last first last enough zero r h =
      at_next (first ∷ last ∷ piece) 1 (at - 2) (at - 1) (omega arith) (across_first at piece next next_is first last None zero) r
      (stands_here (slice_get (first ∷ last ∷ piece)) 1 (Some last) next second refl (sym next_is) (sym second_is) (at - 1) r h)

  -- one byte is kept
  pub across_one : (last : ℕ) (r : Option Found) → MatchOption r (length_of_bytes (Some last) next second ≡ 0) (IsFoundOf (at - 1) (Some last) next second) → MatchOption r (NoneBelow (slice_get (last ∷ piece)) 1) (IsFirstIn (at - 1) (last ∷ piece))
  across_one last r h =
      at_next (last ∷ piece) 0 (at - 1) (at - 1) (omega arith) (none_at_all (last ∷ piece)) r
      (stands_here (slice_get (last ∷ piece)) 0 (Some last) next second refl (sym next_is) (sym second_is) (at - 1) r h)

-- the least place of a piece has its first encoding
pub at_least : (bytes : List ℕ) (at place : ℕ) → IsLeastPlace (slice_get bytes) place → (r : Option Found) → MatchOption r (is_protected_at (slice_get bytes) place ≡ false) (λ found. (is_protected_at (slice_get bytes) place ≡ true) × (found ≡ found_with (slice_get bytes) place (at + place))) → MatchOption r (IsNowhere (slice_get bytes)) (IsFirstIn at bytes)
at_least bytes at place least None off = absurd (both_ways (is_protected_at (slice_get bytes) place) off least.stands)
at_least bytes at place least (Some found) h = record { place = place; least = least; is = h.1 }
