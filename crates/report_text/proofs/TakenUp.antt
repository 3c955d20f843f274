-- Lines that are taken up in pieces: their bytes one by one, and a line in three parts.
use Rattle.std.proofs.Common.{◌≡◌, ℕ, ◌+◌, ◌-◌, ◌<◌, ◌≤◌, List, [], ◌++◌, Option, Result, OnErr, OnOk, sym, ap, ◌∙◌, subst, append_assoc, append-nil, arith}
use Rattle.std.specs.Io.KnownBytes.{Appends}
use Rattle.nk_host.specs.PiecesOut.{MovedOn}
use Rattle.nk_host.specs.Taken.{AppendsPrefix}
use Rattle.nk_host.specs.PieceLaws.{PiecesLaws}
use Rattle.report_text.specs.ClosingSection.{lines_of}
use Rattle.report_text.proofs.ListedLines.{lines_from, no_lines}
use Rattle.report_text.proofs.Known.{err_then, ok_both}

-- some of the text was taken up, and the rest is what g gives from this place on
pub record AreTaken {O : Type 0} (taken : O → Option (List ℕ)) (faults : O → ℕ) (first now : O)
    (held later whole : List ℕ)
    (g : ℕ → List ℕ) (total place : ℕ) : Type 0 where
  pub done : List ℕ
  pub split : whole ≡ done ++ lines_of g (total - place) place
  pub moved : MovedOn (taken first) (taken now) held later done
  pub never_fell : faults first ≤ faults now

module _ (laws : PiecesLaws) {O : Type 0} (taken : O → Option (List ℕ)) (faults : O → ℕ) (first now : O)
    (held later : List ℕ)
    (g : ℕ → List ℕ) (total : ℕ) where
  -- at first nothing was taken up
  pub takes_begin : AreTaken taken faults first first held held (lines_of g total 0) g total 0
  takes_begin = record {
    done = [];
    split = let same : total ≡ total - 0 = omega arith in ap (λ n. lines_of g n 0) same;
    moved = laws.moved_none (taken first) held;
    never_fell = omega arith;
  }

  module _ (whole : List ℕ) (place : ℕ) (going : AreTaken taken faults first now held later whole g total place) where
    split_here : place < total → whole ≡ going.done ++ (g place ++ lines_of g (total - (place + 1)) (place + 1))
    split_here below = going.split ∙ ap (λ l. going.done ++ l) (lines_from g total place below)

    -- what this place gives was taken up
    pub takes_on : (then : O) (more : List ℕ) → place < total → MovedOn (taken now) (taken then) later more (g place)
        → faults now ≤ faults then → AreTaken taken faults first then held more whole g total (place + 1)
    takes_on then more below put low = record {
      done = going.done ++ g place;
      split = split_here below ∙ sym (append_assoc going.done (g place) (lines_of g (total - (place + 1)) (place + 1)));
      moved = laws.moved_on (taken first) (taken now) (taken then) held later more going.done (g place) going.moved put;
      never_fell = omega (arith, going.never_fell, low);
    }

    -- a fault cut it
    pub takes_were_cut : (then : O) → place < total → AppendsPrefix (taken now) (taken then) (later ++ g place)
        → AppendsPrefix (taken first) (taken then) (held ++ whole)
    takes_were_cut then below cut =
        let rest = lines_of g (total - (place + 1)) (place + 1) in
        let here = going.done ++ g place in
        let text : (held ++ here) ++ rest ≡ held ++ whole =
        append_assoc held here rest ∙ ap (λ l. held ++ l)
        (append_assoc going.done (g place) rest ∙ sym (split_here below)) in
        subst (AppendsPrefix (taken first) (taken then)) text
        (laws.prefix_longer (taken first) (taken then) (held ++ here) rest
        (laws.moved_cut (taken first) (taken now) (taken then) held later going.done (g place) going.moved cut))

    -- all was taken up
    pub takes_ended : total ≤ place → MovedOn (taken first) (taken now) held later whole
    takes_ended past =
        let all = going.split ∙ ap (λ l. going.done ++ l) (no_lines g total place past) ∙ append-nil going.done in
        subst (MovedOn (taken first) (taken now) held later) (sym all) going.moved

-- A line in three parts, where none waited before: a fault cut one of them, or what waited at the end, or all went out.
pub first_cut : PiecesLaws → (a b : Option (List ℕ)) (h x rest line : List ℕ) → h ≡ [] → line ≡ x ++ rest
    → AppendsPrefix a b (h ++ x) → AppendsPrefix a b line
first_cut laws a b h x rest line empty is cut =
    subst (AppendsPrefix a b) (sym is) (laws.prefix_longer a b x rest
    (subst (λ none. AppendsPrefix a b (none ++ x)) empty cut))

module _ (laws : PiecesLaws) (a : Option (List ℕ)) (h x y z line : List ℕ) (empty : h ≡ []) (is : line ≡ x ++ (y ++ z))
  where
    module _ (b : Option (List ℕ)) (l : List ℕ) (first : MovedOn a b h l x) where
      pub second_cut : (c : Option (List ℕ)) → AppendsPrefix b c (l ++ y) → AppendsPrefix a c line
      second_cut c cut =
          subst (AppendsPrefix a c) (append_assoc x y z ∙ sym is)
          (laws.prefix_longer a c (x ++ y) z (subst (λ none. AppendsPrefix a c (none ++ (x ++ y))) empty
          (laws.moved_cut a b c h l x y first cut)))

      module _ (c : Option (List ℕ)) (m : List ℕ) (second : MovedOn b c l m y) where
        both : MovedOn a c h m (x ++ y)
        both = laws.moved_on a b c h l m x y first second

        pub third_cut : (d : Option (List ℕ)) → AppendsPrefix c d (m ++ z) → AppendsPrefix a d line
        third_cut d cut =
            subst (AppendsPrefix a d) (append_assoc x y z ∙ sym is)
            (subst (λ none. AppendsPrefix a d (none ++ ((x ++ y) ++ z))) empty (laws.moved_cut a c d h m (x ++ y) z both cut))

        module _ (d : Option (List ℕ)) (n : List ℕ) (third : MovedOn c d m n z) {A E : Type 0} (r : Result A E)
            (e : Option (List ℕ)) where
          whole : MovedOn a d [] n line
          whole =
              subst (λ none. MovedOn a d none n line) empty
              (subst (MovedOn a d h n) (append_assoc x y z ∙ sym is) (laws.moved_on a c d h m n (x ++ y) z both third))

          pub end_cut : OnErr r (AppendsPrefix d e (n ++ [])) → OnErr r (AppendsPrefix a e line)
          end_cut cut =
              err_then r (λ h. subst (AppendsPrefix a e) (append-nil line) (laws.moved_cut a d e [] n line [] whole h)) cut

          pub went_out : (k : List ℕ) → OnOk r (MovedOn d e n k []) → OnOk r (k ≡ []) → OnOk r (Appends a e line)
          went_out k fourth none =
              ok_both r (λ moved left.
              let last : MovedOn a e [] [] (line ++ []) =
              subst (λ left. MovedOn a e [] left (line ++ [])) left (laws.moved_on a d e [] n k line [] whole moved) in
              subst (Appends a e) (append-nil line) (laws.moved_all a e [] (line ++ []) last)) fourth none
