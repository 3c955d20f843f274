-- From an image's pages, each scanned whole or passed over, to its code.
use Rattle.std.proofs.Common.{◌≡◌, ℕ, ◌+◌, ◌*◌, ◌/◌, ◌<◌, ◌≤◌, List, [], length, get_or, true, false, Option, Some, None, refl, ap, sym, ◌∙◌, subst, arith, inl, inr}
use Rattle.std.specs.Prelude.{MatchOption}
use Rattle.std.proofs.lemmas.Bool.{both_ways, cases_Bool, cases_lt}
use Rattle.elf_image.specs.Pages.{IsBytesOfPage, IsPageList, is_executable, page_count, pages_of}
use Rattle.byte_scanner.specs.declared.encoding.Found.{Found}
use Rattle.byte_scanner.specs.FirstFound.{first_found}
use Rattle.byte_scanner.specs.ImageCode.{code_at}
use Rattle.byte_scanner.specs.PieceRuns.{Feeds, IsBehind}
use Rattle.byte_scanner.specs.Scanned.{Scanned}
use Rattle.byte_scanner.specs.ScannedCode.{HasWalked, NoCode}
use Rattle.byte_scanner.proofs.PageBytes.{code_off, page_code}
use Rattle.byte_scanner.proofs.ScannedRuns.{all_scanned, nothing_scanned, scanned_on}

pub nothing_walked : (b : List ℕ) (s : Scanned) → IsBehind s 0 [] → HasWalked b s 0
nothing_walked b s behind = record {
  upto = 0;
  scanned = nothing_scanned b s behind;
  ahead = λ j low inside. omega arith;
  passed = λ a j from below page. absurd (omega arith);
}

pub walked_ahead : (b : List ℕ) (s : Scanned) (i : ℕ) → HasWalked b s i → i < page_count b → s.end ≤ 4096 * get_or (pages_of b) i 0
walked_ahead b s i walked inside =
    let scanned = walked.scanned in
    omega (arith, walked.ahead i (omega arith) inside, scanned.reached, scanned.behind.ends)

-- a page that may not be executed is passed over
pub passed_over : (b : List ℕ) (s : Scanned) (i : ℕ) → HasWalked b s i → is_executable b (get_or (pages_of b) i 0) ≡ false → HasWalked b s (i + 1)
passed_over b s i walked off = record {
  upto = walked.upto;
  scanned = walked.scanned;
  ahead = λ j low inside. walked.ahead j (omega arith) inside;
  passed = λ a j from below page. elim (cases_lt j i) [
    | inl earlier ↦ walked.passed a j from earlier page
    | inr last ↦
        let same : j ≡ i = omega arith in
        ap (is_executable b) (page ∙ ap (λ (k : ℕ). get_or (pages_of b) k 0) same) ∙ off
  ];
}

module _ (b : List ℕ) (pages : IsPageList b (pages_of b)) where
  -- no code stands from the address on at a page that was passed
  none_passed : (s : Scanned) (i : ℕ) (walked : HasWalked b s i) (a : ℕ) → walked.upto ≤ a → ((j : ℕ) → i ≤ j → j < page_count b → get_or (pages_of b) j 0 ≡ a / 4096 → ⊥) → code_at b a ≡ None
  none_passed s i walked a from later =
      elim (cases_Bool (is_executable b (a / 4096))) [
        | inl on ↦
            let (j, inside, page) = pages.complete (a / 4096) (pages.executable (a / 4096) on) in
            elim (cases_lt j i) [
              | inl earlier ↦ absurd (both_ways (is_executable b (a / 4096)) (walked.passed a j from earlier (sym page)) on)
              | inr not_earlier ↦ absurd (later j not_earlier inside page)
            ]
        | inr off ↦ code_off b a (a / 4096) refl off
      ]

  -- the numbers of pages do not fall
  not_below : (i j : ℕ) → i ≤ j → j < page_count b → get_or (pages_of b) i 0 ≤ get_or (pages_of b) j 0
  not_below i j upto inside =
      elim (cases_lt i j) [
        | inl less ↦ omega (arith, pages.ascending i j less inside)
        | inr same ↦
            let e : i ≡ j = omega arith in
            let is = ap (λ (k : ℕ). get_or (pages_of b) k 0) e in
            omega (arith, is)
      ]

  before_page : (s : Scanned) (i : ℕ) (walked : HasWalked b s i) → i < page_count b → NoCode b walked.upto (4096 * get_or (pages_of b) i 0)
  before_page s i walked inside a from below =
      none_passed s i walked a from (λ j low there page. absurd (omega (arith, not_below i j low there, page, below)))

  pub walked_on : (s after : Scanned) (i : ℕ) (bytes : List ℕ) (found : Option Found) → HasWalked b s i → i < page_count b → is_executable b (get_or (pages_of b) i 0) ≡ true → IsBytesOfPage b (get_or (pages_of b) i 0) bytes → Feeds s after (4096 * get_or (pages_of b) i 0) bytes found → MatchOption found (HasWalked b after (i + 1)) (λ it. first_found b ≡ Some it)
  walked_on s after i bytes None walked inside on page feeds =
      let n = get_or (pages_of b) i 0 in
      let full = page.full in
      record {
        upto = 4096 * n + length bytes;
        scanned = scanned_on b s after walked.upto (4096 * n) bytes None pages walked.scanned (walked.ahead i (omega arith) inside) (before_page s i walked inside) (page_code b n bytes page on) feeds;
        ahead = λ j low there. omega (arith, pages.ascending i j (omega arith) there, full);
        passed = λ a j from below here. absurd (omega (arith, not_below j i (omega arith) inside, here, from, full));
      }
  walked_on s after i bytes (Some it) walked inside on page feeds =
      let n = get_or (pages_of b) i 0 in
      scanned_on b s after walked.upto (4096 * n) bytes (Some it) pages walked.scanned (walked.ahead i (omega arith) inside) (before_page s i walked inside) (page_code b n bytes page on) feeds

  -- the same where the page's address is given
  pub walked_at : (s after : Scanned) (i va : ℕ) (bytes : List ℕ) (found : Option Found) → va ≡ 4096 * get_or (pages_of b) i 0 → HasWalked b s i → i < page_count b → is_executable b (get_or (pages_of b) i 0) ≡ true → IsBytesOfPage b (get_or (pages_of b) i 0) bytes → Feeds s after va bytes found → MatchOption found (HasWalked b after (i + 1)) (λ it. first_found b ≡ Some it)
  walked_at s after i va bytes found there walked inside on page feeds =
      let P : ℕ → Type 0 = λ at. Feeds s after at bytes found in
      walked_on s after i bytes found walked inside on page (subst P there feeds)

  pub all_walked : (s : Scanned) (i : ℕ) → page_count b ≤ i → HasWalked b s i → first_found b ≡ None
  all_walked s i last walked =
      all_scanned b s walked.upto walked.scanned (λ a from. none_passed s i walked a from (λ j low there page. absurd (omega (arith, low, there))))
