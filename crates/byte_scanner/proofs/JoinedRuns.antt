-- Bytes behind bytes, and what the kept bytes with a piece say of the run with the piece.
use Rattle.std.proofs.Common.{◌≡◌, ℕ, zero, suc, ◌+◌, ◌-◌, ◌<◌, ◌≤◌, List, [], ◌∷◌, ◌++◌, length, take, drop, Bool, true, false, ◌==◌, cond, Option, Some, None, slice_get, refl, ap, sym, ◌∙◌, subst, arith, inl, inr, length-append, length-drop, append_assoc}
use Rattle.std.specs.Prelude.{MatchOption}
use Rattle.std.proofs.lemmas.Bool.{cases_lt, eqb-true}
use Rattle.std.proofs.lemmas.List.{length-take-le, take-append-drop}
use Rattle.decode_fields.specs.Protected.{is_protected_at, length_at}
use Rattle.byte_scanner.specs.declared.encoding.Found.{Found}
use Rattle.byte_scanner.specs.FirstFound.{found_with}
use Rattle.byte_scanner.specs.LeastPlace.{IsNowhere, NoneBelow}
use Rattle.byte_scanner.specs.PieceRuns.{IsBehind, IsFirstIn, last_two, run_before, start_before}
use Rattle.byte_scanner.specs.Scanned.{Scanned}
use Rattle.byte_scanner.proofs.KeptLemmas.{last_two-behind}
use Rattle.byte_scanner.proofs.ProtectedLemmas.{length_range, same_found, same_protected}

-- the bytes of a whole: those of its front, and those of its tail
pub slice_get-front : (front tail : List ℕ) (k : ℕ) → k < length front → slice_get (front ++ tail) k ≡ slice_get front k
slice_get-front [] tail k h = absurd (omega arith)
slice_get-front (x ∷ xs) tail zero h = refl
slice_get-front (x ∷ xs) tail (suc k) h = slice_get-front xs tail k (omega arith)

pub slice_get-tail : (front tail : List ℕ) (k : ℕ) → slice_get (front ++ tail) (length front + k) ≡ slice_get tail k
slice_get-tail [] tail k =
    let e : 0 + k ≡ k = omega arith in
    ap (slice_get tail) e
slice_get-tail (x ∷ xs) tail k =
    let e : suc (length xs) + k ≡ suc (length xs + k) = omega arith in
    ap (slice_get (x ∷ (xs ++ tail))) e ∙ slice_get-tail xs tail k

module _ (front tail : List ℕ) where
  tail_place : (k j : ℕ) → slice_get (front ++ tail) (length front + k + j) ≡ slice_get tail (k + j)
  tail_place k j =
      let e : length front + k + j ≡ length front + (k + j) = omega arith in
      ap (slice_get (front ++ tail)) e ∙ slice_get-tail front tail (k + j)

  -- encodings of the tail are those of the whole, as many places on
  same_tail : (k : ℕ) → is_protected_at (slice_get (front ++ tail)) (length front + k) ≡ is_protected_at (slice_get tail) k
  same_tail k = same_protected (slice_get (front ++ tail)) (slice_get tail) (length front + k) k (slice_get-tail front tail k) (tail_place k 1) (tail_place k 2)

  module _ (clean : NoneBelow (slice_get (front ++ tail)) (length front)) where
    -- where none begins in the front, those of the tail are all
    by_tail : (place : ℕ) → length front ≤ place → is_protected_at (slice_get tail) (place - length front) ≡ false → is_protected_at (slice_get (front ++ tail)) place ≡ false
    by_tail place high off =
        let e : length front + (place - length front) ≡ place = omega arith in
        let P : ℕ → Type 0 = λ p. is_protected_at (slice_get (front ++ tail)) p ≡ false in
        subst P e (same_tail (place - length front) ∙ off)

    pub nowhere_in_both : IsNowhere (slice_get tail) → IsNowhere (slice_get (front ++ tail))
    nowhere_in_both rest place =
        elim (cases_lt place (length front)) [
          | inl low ↦ clean place low
          | inr high ↦ by_tail place high (rest (place - length front))
        ]

    -- and the tail's first is that of both
    pub first_in_both : (start at : ℕ) (found : Found) → start + length front ≡ at → IsFirstIn at tail found → IsFirstIn start (front ++ tail) found
    first_in_both start at found meets first =
        let there : at + first.place ≡ start + (length front + first.place) = omega (arith, meets) in
        record {
          place = length front + first.place;
          least = record {
            stands = same_tail first.place ∙ first.least.stands;
            lowest = λ k below. elim (cases_lt k (length front)) [
              | inl low ↦ clean k low
              | inr high ↦ by_tail k high (first.least.lowest (k - length front) (omega arith))
            ];
          };
          is = first.is
              ∙ ap (λ (a : ℕ). found_with (slice_get tail) first.place a) there
              ∙ sym (same_found (slice_get (front ++ tail)) (slice_get tail) (length front + first.place) first.place (slice_get-tail front tail first.place) (tail_place first.place 1) (tail_place first.place 2) (start + (length front + first.place)));
        }

-- where none begins in the kept bytes, what the piece has is what both have
pub either_part : (kept piece : List ℕ) (at : ℕ) → length kept ≤ at → NoneBelow (slice_get (kept ++ piece)) (length kept) → (r : Option Found) → MatchOption r (IsNowhere (slice_get piece)) (IsFirstIn at piece) → MatchOption r (IsNowhere (slice_get (kept ++ piece))) (IsFirstIn (at - length kept) (kept ++ piece))
either_part kept piece at enough clean None nowhere = nowhere_in_both kept piece clean nowhere
either_part kept piece at enough clean (Some found) first = first_in_both kept piece clean (at - length kept) at found (omega arith) first

-- no encoding begins in a clean run before its last two bytes, whatever follows
clean_front : (run piece : List ℕ) → IsNowhere (slice_get run) → NoneBelow (slice_get (run ++ piece)) (length run - 2)
clean_front run piece clean place low =
    same_protected (slice_get (run ++ piece)) (slice_get run) place place (slice_get-front run piece place (omega arith)) (slice_get-front run piece (place + 1) (omega arith)) (slice_get-front run piece (place + 2) (omega arith))
    ∙ clean place

-- a run that a scanner stands behind, its kept bytes, and a piece that follows
module _ (start at : ℕ) (run kept piece : List ℕ) (behind : IsBehind (record { kept = kept; end = at }) start run) where
  abbrev front : List ℕ
  front = take (length run - 2) run

  front_length : length front ≡ length run - 2
  front_length = length-take-le (length run - 2) run (omega arith)

  kept_length : length kept ≡ length run - (length run - 2)
  kept_length = ap length behind.keeps ∙ length-drop (length run - 2) run

  parts : front ++ (kept ++ piece) ≡ run ++ piece
  parts =
      ap (λ (xs : List ℕ). front ++ (xs ++ piece)) behind.keeps
      ∙ sym (append_assoc front (last_two run) piece)
      ∙ ap (λ (xs : List ℕ). xs ++ piece) (take-append-drop (length run - 2) run)

  front_clean : NoneBelow (slice_get (front ++ (kept ++ piece))) (length front)
  front_clean place low =
      let P : List ℕ → Type 0 = λ bytes. is_protected_at (slice_get bytes) place ≡ false in
      subst P (sym parts) (clean_front run piece behind.clean place (omega (arith, front_length, low)))

  pub run_first : (found : Found) → IsFirstIn (at - length kept) (kept ++ piece) found → IsFirstIn start (run ++ piece) found
  run_first found first =
      let meets : start + length front ≡ at - length kept = omega (arith, front_length, kept_length, behind.ends) in
      let P : List ℕ → Type 0 = λ bytes. IsFirstIn start bytes found in
      subst P parts (first_in_both front (kept ++ piece) front_clean start (at - length kept) found meets first)

  -- what is kept of the run with the piece
  keeps_on : last_two (kept ++ piece) ≡ last_two (run ++ piece)
  keeps_on =
      elim (cases_lt (length run) 2) [
        | inl short ↦
            let none : length run - 2 ≡ 0 = omega arith in
            let all : last_two run ≡ run = ap (λ (n : ℕ). drop n run) none in
            ap (λ (xs : List ℕ). last_two (xs ++ piece)) (behind.keeps ∙ all)
        | inr enough ↦
            sym (last_two-behind front (kept ++ piece) (omega (arith, length-append kept piece, kept_length)))
            ∙ ap last_two parts
      ]

  pub run_goes_on : (after : Scanned) → after.kept ≡ last_two (kept ++ piece) → after.end ≡ at + length piece → IsNowhere (slice_get (kept ++ piece)) → IsBehind after start (run ++ piece)
  run_goes_on after kept_is end_is clean =
      let P : List ℕ → Type 0 = λ bytes. IsNowhere (slice_get bytes) in
      record {
        ends = omega (arith, end_is, behind.ends, length-append run piece);
        keeps = kept_is ∙ keeps_on;
        clean = subst P parts (nowhere_in_both front (kept ++ piece) front_clean clean);
      }

-- an encoding that is found has two bytes or three
pub first_count : (start : ℕ) (run : List ℕ) (found : Found) → IsFirstIn start run found → (2 ≤ found.count) × (found.count ≤ 3)
first_count start run found first =
    let place = first.place in
    let range = length_range (slice_get run place) (slice_get run (place + 1)) (slice_get run (place + 2)) first.least.stands in
    let count : found.count ≡ length_at (slice_get run) place = ap (λ (f : Found). f.count) first.is in
    (omega (arith, count, range.0), omega (arith, count, range.1))

-- what is left of a scanner where a piece begins: nothing behind a gap
rejoined_by : (t : Bool) (s : Scanned) (at start : ℕ) (run : List ℕ) → (t ≡ true → s.end ≡ at) → IsBehind s start run → IsBehind (record { kept = cond t s.kept []; end = at }) (cond t start at) (cond t run [])
rejoined_by true s at start run meets behind = record { ends = sym (meets refl) ∙ behind.ends; keeps = behind.keeps; clean = behind.clean }
rejoined_by false s at start run meets behind = record { ends = omega arith; keeps = refl; clean = λ place. refl }

rejoined : (s : Scanned) (at start : ℕ) (run kept : List ℕ) → kept ≡ cond (s.end == at) s.kept [] → IsBehind s start run → IsBehind (record { kept = kept; end = at }) (start_before s.end at start) (run_before s.end at run)
rejoined s at start run kept e behind =
    let P : List ℕ → Type 0 = λ bytes. IsBehind (record { kept = bytes; end = at }) (start_before s.end at start) (run_before s.end at run) in
    subst P (sym e) (rejoined_by (s.end == at) s at start run (eqb-true s.end at) behind)

-- the two ends of a piece
module _ (s : Scanned) (at : ℕ) (piece kept : List ℕ) (kept_is : kept ≡ cond (s.end == at) s.kept []) where
  pub fed_first : (found : Found) → IsFirstIn (at - length kept) (kept ++ piece) found → (start : ℕ) (run : List ℕ) → IsBehind s start run → IsFirstIn (start_before s.end at start) (run_before s.end at run ++ piece) found
  fed_first found first start run behind =
      run_first (start_before s.end at start) at (run_before s.end at run) kept piece (rejoined s at start run kept kept_is behind) found first

  pub fed_on : (after : Scanned) → after.kept ≡ last_two (kept ++ piece) → after.end ≡ at + length piece → IsNowhere (slice_get (kept ++ piece)) → (start : ℕ) (run : List ℕ) → IsBehind s start run → IsBehind after (start_before s.end at start) (run_before s.end at run ++ piece)
  fed_on after after_kept after_end clean start run behind =
      run_goes_on (start_before s.end at start) at (run_before s.end at run) kept piece (rejoined s at start run kept kept_is behind) after after_kept after_end clean
