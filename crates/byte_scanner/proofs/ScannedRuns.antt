-- From runs of an image's code to what is scanned of it.
use Rattle.std.proofs.Common.{◌≡◌, ℕ, ◌+◌, ◌-◌, ◌<◌, ◌≤◌, List, [], ◌++◌, length, Bool, true, false, ◌==◌, cond, Option, Some, None, slice_get, nat_lt, refl, ap, sym, ◌∙◌, subst, arith, inl, inr, length-append}
use Rattle.std.specs.Prelude.{MatchOption}
use Rattle.std.proofs.lemmas.Bool.{cases_lt, eqb-true, eqb-false}
use Rattle.std.proofs.lemmas.Option.{slice_get_past}
use Rattle.elf_image.specs.Pages.{IsPageList, pages_of}
use Rattle.decode_fields.specs.Protected.{is_protected_at, length_of_bytes}
use Rattle.byte_scanner.specs.declared.encoding.Found.{Found}
use Rattle.byte_scanner.specs.FirstFound.{first_found, found_with}
use Rattle.byte_scanner.specs.FoundBytes.{found_from}
use Rattle.byte_scanner.specs.ImageCode.{code_at}
use Rattle.byte_scanner.specs.LeastPlace.{IsNowhere, NoneBelow}
use Rattle.byte_scanner.specs.PieceRuns.{Feeds, IsBehind, IsFirstIn, run_before, start_before}
use Rattle.byte_scanner.specs.Scanned.{Scanned}
use Rattle.byte_scanner.specs.ScannedCode.{HasScanned, IsCode, NoCode, NoCodeFrom}
use Rattle.byte_scanner.proofs.AllCode.{first_is, unfound}
use Rattle.byte_scanner.proofs.JoinedRuns.{slice_get-front, slice_get-tail}
use Rattle.byte_scanner.proofs.ProtectedLemmas.{found_whole, length_whole, none_alone, none_here, same_found, same_protected, second_inside}

-- a run that is the code from an address on
module _ (b : List ℕ) (start : ℕ) (run : List ℕ) (shows : IsCode b start run) where
  shown : (k j : ℕ) → k + j < length run → code_at b (start + k + j) ≡ slice_get run (k + j)
  shown k j inside =
      let e : start + k + j ≡ start + (k + j) = omega arith in
      ap (code_at b) e ∙ shows (k + j) inside

  -- away from its end it has the code's encodings
  within : (k : ℕ) → k + 2 < length run → is_protected_at (code_at b) (start + k) ≡ is_protected_at (slice_get run) k
  within k inside =
      same_protected (code_at b) (slice_get run) (start + k) k (shows k (omega arith)) (shown k 1 (omega arith)) (shown k 2 inside)

  module _ (ends : code_at b (start + length run) ≡ None) where
    ended : (a : ℕ) → a ≡ start + length run → code_at b a ≡ None
    ended a e = ap (code_at b) e ∙ ends

    -- and so it has at its end, where the code ends too
    to_end : IsNowhere (slice_get run) → (k : ℕ) → k < length run → is_protected_at (code_at b) (start + k) ≡ false
    to_end clean k inside =
        elim (cases_lt (k + 2) (length run)) [
          | inl far ↦ within k far ∙ clean k
          | inr near ↦ elim (cases_lt (k + 1) (length run)) [
            | inl two ↦
                let third : code_at b (start + k + 2) ≡ slice_get run (k + 2) =
                ended (start + k + 2) (omega arith) ∙ sym (slice_get_past run (k + 2) near) in
                same_protected (code_at b) (slice_get run) (start + k) k (shows k inside) (shown k 1 two) third ∙ clean k
            | inr one ↦ none_alone (code_at b) (start + k) (ended (start + k + 1) (omega arith))
          ]
        ]

  module _ (found : Found) (first : IsFirstIn start run found) where
    abbrev place : ℕ
    place = first.place

    two : place + 1 < length run
    two = second_inside run place first.least.stands

    -- where the third byte isn't in the run, the encoding has two
    short : length run ≤ place + 2 → (is_protected_at (code_at b) (start + place) ≡ true) × (found_with (code_at b) (start + place) (start + place) ≡ found_with (slice_get run) place (start + place))
    short past =
        let none = slice_get_past run (place + 2) past in
        let x = slice_get run place in
        let y = slice_get run (place + 1) in
        let stands : nat_lt 0 (length_of_bytes x y None) ≡ true =
        sym (ap (λ (third : Option ℕ). nat_lt 0 (length_of_bytes x y third)) none) ∙ first.least.stands in
        let whole = length_whole x y (code_at b (start + place + 2)) stands in (
          ap (λ (z : Option ℕ). nat_lt 0 (length_of_bytes z (code_at b (start + place + 1)) (code_at b (start + place + 2)))) (shows place (omega (arith, two)))
              ∙ ap (λ (z : Option ℕ). nat_lt 0 (length_of_bytes x z (code_at b (start + place + 2)))) (shown place 1 two)
              ∙ ap (nat_lt 0) whole.1,
          ap (λ (z : Option ℕ). found_from (start + place) z (code_at b (start + place + 1)) (code_at b (start + place + 2))) (shows place (omega (arith, two)))
              ∙ ap (λ (z : Option ℕ). found_from (start + place) x z (code_at b (start + place + 2))) (shown place 1 two)
              ∙ found_whole (start + place) x y (code_at b (start + place + 2)) stands
              ∙ sym (ap (λ (third : Option ℕ). found_from (start + place) x y third) none),
        )

    -- the run's first encoding is one of the code
    here : (is_protected_at (code_at b) (start + place) ≡ true) × (found_with (code_at b) (start + place) (start + place) ≡ found_with (slice_get run) place (start + place))
    here =
        elim (cases_lt (place + 2) (length run)) [
          | inl far ↦ (
            within place far ∙ first.least.stands,
            same_found (code_at b) (slice_get run) (start + place) place (shows place (omega arith)) (shown place 1 (omega arith)) (shown place 2 far) (start + place),
          )
          | inr past ↦ short past
        ]

    -- and none of the code is lower
    lower : NoneBelow (code_at b) start → (y : ℕ) → y < start + place → is_protected_at (code_at b) y ≡ false
    lower before y low =
        elim (cases_lt y start) [
          | inl less ↦ before y less
          | inr more ↦
              let e : start + (y - start) ≡ y = omega arith in
              let P : ℕ → Type 0 = λ a. is_protected_at (code_at b) a ≡ false in
              subst P e (within (y - start) (omega (arith, two)) ∙ first.least.lowest (y - start) (omega arith))
        ]

    pub first_of_code : IsPageList b (pages_of b) → NoneBelow (code_at b) start → first_found b ≡ Some found
    first_of_code pages before =
        first_is b pages (start + place) here.0 (lower before)
        ∙ ap (λ (it : Found). Some it) (here.1 ∙ sym first.is)

-- a run and what follows it are the code, where each is
shows_both : (b : List ℕ) (start at : ℕ) (run piece : List ℕ) → start + length run ≡ at → IsCode b start run → IsCode b at piece → IsCode b start (run ++ piece)
shows_both b start at run piece meets first second k inside =
    elim (cases_lt k (length run)) [
      | inl low ↦ first k low ∙ sym (slice_get-front run piece k low)
      | inr high ↦
          let e : start + k ≡ at + (k - length run) = omega (arith, meets) in
          let there : length run + (k - length run) ≡ k = omega arith in
          ap (code_at b) e
          ∙ second (k - length run) (omega (arith, length-append run piece))
          ∙ sym (slice_get-tail run piece (k - length run))
          ∙ ap (slice_get (run ++ piece)) there
    ]

-- up to an address past the run's end, before which no code follows it, no encoding stands
clean_upto : (b : List ℕ) (s : Scanned) (upto at : ℕ) (scanned : HasScanned b s upto) → upto ≤ at → NoCode b upto at → scanned.start + length scanned.run < at → NoneBelow (code_at b) at
clean_upto b s upto at scanned passes no_code ended y low =
    let start = scanned.start in
    let run = scanned.run in
    let none : (a : ℕ) → start + length run ≤ a → a < at → code_at b a ≡ None =
    λ a from below. elim (cases_lt a upto) [ inl less ↦ scanned.gap a from less | inr more ↦ no_code a more below ] in
    elim (cases_lt y start) [
      | inl before ↦ scanned.before y before
      | inr from ↦ elim (cases_lt y (start + length run)) [
        | inl inside ↦
            let e : start + (y - start) ≡ y = omega arith in
            let P : ℕ → Type 0 = λ a. is_protected_at (code_at b) a ≡ false in
            subst P e (to_end b start run scanned.shows (none (start + length run) (omega arith) ended) scanned.behind.clean (y - start) (omega arith))
        | inr past ↦ none_here (code_at b) y (none y past low)
      ]
    ]

-- what a piece goes on with
record GoesOn (b : List ℕ) (at start : ℕ) (run : List ℕ) : Type 0 where
  meets : start + length run ≡ at
  shows : IsCode b start run
  before : NoneBelow (code_at b) start

goes_on_by : (t : Bool) (b : List ℕ) (s : Scanned) (upto at : ℕ) (scanned : HasScanned b s upto) → upto ≤ at → NoCode b upto at → (t ≡ true → s.end ≡ at) → (t ≡ false → s.end ≡ at → ⊥) → GoesOn b at (cond t scanned.start at) (cond t scanned.run [])
goes_on_by true b s upto at scanned passes no_code same other = record {
  meets = sym scanned.behind.ends ∙ same refl;
  shows = scanned.shows;
  before = scanned.before;
}
goes_on_by false b s upto at scanned passes no_code same other =
    let differs : scanned.start + length scanned.run ≡ at → ⊥ = λ e. other refl (scanned.behind.ends ∙ e) in
    record {
      meets = omega arith;
      shows = λ k inside. absurd (omega arith);
      before = clean_upto b s upto at scanned passes no_code (omega (arith, differs, scanned.reached));
    }

goes_on : (b : List ℕ) (s : Scanned) (upto at : ℕ) (scanned : HasScanned b s upto) → upto ≤ at → NoCode b upto at → GoesOn b at (start_before s.end at scanned.start) (run_before s.end at scanned.run)
goes_on b s upto at scanned passes no_code =
    goes_on_by (s.end == at) b s upto at scanned passes no_code (eqb-true s.end at) (eqb-false s.end at)

pub nothing_scanned : (b : List ℕ) (s : Scanned) → IsBehind s 0 [] → HasScanned b s 0
nothing_scanned b s behind = record {
  start = 0;
  run = [];
  behind = behind;
  shows = λ k inside. absurd (omega arith);
  before = λ y low. absurd (omega arith);
  reached = omega arith;
  gap = λ a from below. absurd (omega arith);
}

pub scanned_on : (b : List ℕ) (s after : Scanned) (upto at : ℕ) (piece : List ℕ) (found : Option Found) → IsPageList b (pages_of b) → HasScanned b s upto → upto ≤ at → NoCode b upto at → IsCode b at piece → Feeds s after at piece found → MatchOption found (HasScanned b after (at + length piece)) (λ it. first_found b ≡ Some it)
scanned_on b s after upto at piece None pages scanned passes no_code code feeds =
    let on = goes_on b s upto at scanned passes no_code in
    let start = start_before s.end at scanned.start in
    let run = run_before s.end at scanned.run in
    let ends : start + length (run ++ piece) ≡ at + length piece = omega (arith, length-append run piece, on.meets) in
    record {
      start = start;
      run = run ++ piece;
      behind = feeds scanned.start scanned.run scanned.behind;
      shows = shows_both b start at run piece on.meets on.shows code;
      before = on.before;
      reached = omega (arith, ends);
      gap = λ a from below. absurd (omega (arith, ends, from, below));
    }
scanned_on b s after upto at piece (Some it) pages scanned passes no_code code feeds =
    let on = goes_on b s upto at scanned passes no_code in
    let start = start_before s.end at scanned.start in
    let run = run_before s.end at scanned.run in
    first_of_code b start (run ++ piece) (shows_both b start at run piece on.meets on.shows code) it (feeds scanned.start scanned.run scanned.behind) pages on.before

pub all_scanned : (b : List ℕ) (s : Scanned) (upto : ℕ) → HasScanned b s upto → NoCodeFrom b upto → first_found b ≡ None
all_scanned b s upto scanned no_code =
    unfound b (λ a. clean_upto b s upto (upto + a + 1) scanned (omega arith) (λ y from below. no_code y from) (omega (arith, scanned.reached)) a (omega arith))
