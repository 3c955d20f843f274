-- Four codes that are kept: where a stretch begins, where other code takes the place of one, and the one that has a line.
use Rattle.std.proofs.Common.{◌≡◌, ◌≢◌, ℕ, ◌+◌, ◌<◌, ◌≤◌, inl, inr, List, All, length, set, get_or, sym, subst, ap, ◌∙◌, arith}
use Rattle.std.proofs.lemmas.Bool.{cases_eq}
use Rattle.std.proofs.lemmas.List.{get_or-set_other, get_or-set_same, length-set}
use Rattle.std.proofs.lemmas.List.Elements.{All-set, All-weaker}
use Rattle.nk_bits.specs.declared.control.Control.{Control}
use Rattle.nk_bits.specs.Translations.{NamesFramesIn, Translations}
use Rattle.mem_access.specs.declared.window.Window.{Window}
use Rattle.mem_access.specs.Windows.{IsWindow}
use Rattle.cpu_step.specs.declared.kept_code.KeptCode.{KeptCode}
use Rattle.cpu_step.specs.declared.lines.Line.{Line}
use Rattle.cpu_step.specs.CodeLines.{IsCodeIn, IsLineOf, IsPageStretch, IsStretch, code_number, page_place}
use Rattle.cpu_step.specs.KeptFetches.{IsKeptCode, LiesOnPage}

module _ (size : ℕ) (control : Control) (cpl : ℕ) (tlb : Translations) where
  pub lies_on_page : (code : KeptCode) → IsKeptCode size control cpl tlb code → LiesOnPage size code
  lies_on_page code kept = record { page = kept.page; bound = kept.bound; inside = kept.inside; aligned = kept.aligned }

  pub codes_lie : (codes : List KeptCode) → All (IsKeptCode size control cpl tlb) codes → All (LiesOnPage size) codes
  codes_lie codes all = All-weaker (IsKeptCode size control cpl tlb) (LiesOnPage size) lies_on_page codes all

  -- the first code stands under each number
  pub first_stretch : (first : KeptCode) (codes : List KeptCode) (w : Window) → length codes ≡ 4 → All (λ (code : KeptCode). code ≡ first) codes → IsKeptCode size control cpl tlb first →
      IsWindow size control cpl tlb w → ((i : ℕ) → i < 4 → get_or w.off i 0 ≡ page_place first) → NamesFramesIn size tlb → IsStretch size control cpl tlb codes w
  first_stretch first codes w count all kept windowed off frames = record {
    count = count;
    kept = λ i d less. subst (IsKeptCode size control cpl tlb) (sym (all i d less)) kept;
    windowed = windowed;
    off = λ i d few. off i few ∙ ap page_place (sym (all i d (omega (arith, few, count))));
    frames = frames;
  }

  -- other code takes the place of one
  pub other_stretch : (code : KeptCode) (slot : ℕ) (codes : List KeptCode) (w v : Window) → slot < 4 → IsKeptCode size control cpl tlb code → IsStretch size control cpl tlb codes w →
      IsWindow size control cpl tlb v → get_or v.off slot 0 ≡ page_place code → ((i : ℕ) → i ≢ slot → get_or v.off i 0 ≡ get_or w.off i 0) →
      IsStretch size control cpl tlb (set codes slot code) v
  other_stretch code slot codes w v inside kept stretch windowed off others = record {
    count = length-set codes slot code ∙ stretch.count;
    kept = All-set (IsKeptCode size control cpl tlb) codes slot code kept stretch.kept;
    windowed = windowed;
    off = λ i d few. elim (cases_eq i slot) [
      | inl same ↦ ap (λ k. get_or v.off k 0) same ∙ (off ∙ ap page_place (sym (ap (λ k. get_or (set codes slot code) k d) same
          ∙ get_or-set_same codes slot code d (omega (arith, inside, stretch.count)))))
      | inr other ↦ others i other ∙ (stretch.off i d few ∙ ap page_place (sym (get_or-set_other codes slot i code d other)))
    ];
    frames = stretch.frames;
  }

  -- the page of the code that has a line is kept off under its own number
  pub page_stretch : (code : KeptCode) (codes : List KeptCode) (w : Window) (m : List ℕ) (line : Line) → IsStretch size control cpl tlb codes w →
      ((d : KeptCode) → code ≡ get_or codes (code_number line.at) d) → IsCodeIn code m line → 16 ≤ line.size → IsPageStretch size control cpl tlb code w
  page_stretch code codes w m line stretch chosen is some =
      let number : ℕ = code_number line.at in
      let is_chosen : code ≡ get_or codes number code = chosen code in
      let kept : IsKeptCode size control cpl tlb code = subst (IsKeptCode size control cpl tlb) (sym is_chosen) (stretch.kept number code (omega (arith, stretch.count))) in
      let near : line.at ≤ code.start + code.last = omega (arith, is.to, some) in
      let own : code_number code.start ≡ number = omega (arith, is.from, near, kept.page) in record {
        kept = kept;
        windowed = stretch.windowed;
        off = ap (λ k. get_or w.off k 0) own ∙ (stretch.off number code (omega arith) ∙ ap page_place (sym is_chosen));
        frames = stretch.frames;
      }

-- the line that was found for an address, whose code is that for the address
module _ (stamp : ℕ) (codes : List KeptCode) (m : List ℕ) (lines : List Line) (slot : ℕ) (line : Line) (rip : ℕ) (code : KeptCode) (all : All (IsLineOf stamp codes m) lines)
    (less : slot < length lines) (is : line ≡ get_or lines slot line) (stamped : (d : Line) → (get_or lines slot d).stamp ≡ stamp) (there : (d : Line) → (get_or lines slot d).at ≡ rip)
    (chosen : (d : KeptCode) → code ≡ get_or codes (code_number rip) d) where
  pub found_line : IsLineOf stamp codes m line
  found_line = subst (IsLineOf stamp codes m) (sym is) (all slot line less)

  found_at : line.at ≡ rip
  found_at = ap (λ (x : Line). x.at) is ∙ there line

  pub found_chosen : (d : KeptCode) → code ≡ get_or codes (code_number line.at) d
  found_chosen d = chosen d ∙ ap (λ x. get_or codes (code_number x) d) (sym found_at)

  pub found_code : IsCodeIn code m line
  found_code = subst (λ (x : KeptCode). IsCodeIn x m line) (sym (found_chosen code)) (found_line.here (ap (λ (x : Line). x.stamp) is ∙ stamped line) code)
