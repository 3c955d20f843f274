-- The lines of a listing, one behind another.
use Rattle.std.proofs.Common.{◌≡◌, ℕ, zero, suc, ◌+◌, ◌-◌, ◌<◌, ◌≤◌, ◌==◌, false, List, [], ◌∷◌, ◌++◌, length, Option, refl, sym, ap, ◌∙◌, subst, append_assoc, append-nil, arith}
use Rattle.std.proofs.lemmas.Bool.{cond-false, cond-true, eq-eqb, ne_eqb}
use Rattle.std.specs.Io.KnownBytes.{Appends}
use Rattle.std.proofs.KnownBytes.{Appends-trans, Appends-nil}
use Rattle.nk_host.specs.Taken.{AppendsPrefix}
use Rattle.x86_decode.specs.declared.instruction.Decoded.{Decoded}
use Rattle.x86_decode.specs.Reader.{decoded_of}
use Rattle.report_text.specs.ListingLines.{code_run, found_line, found_size, code_listing}
use Rattle.report_text.proofs.Texts.{prefix_behind, prefix_of_both}

-- the lines of what stands in front of a run, and of what is behind it
abbrev lines_behind : List ℕ → ℕ → ℕ → List ℕ → List ℕ
lines_behind b at count run = found_line at run (decoded_of run) ++ code_listing b (at + found_size (decoded_of run)) count

pub some_run : (run : List ℕ) → (length run == 0) ≡ false → 0 < length run
some_run [] none = absurd (cc)
some_run (byte ∷ run) some = omega arith

-- the line that goes out, by the bytes that are shown and by what the decoding found in them
pub same_line : (at : ℕ) (run shown : List ℕ) (found : Decoded) → shown ≡ run → found ≡ decoded_of run
    → found_line at shown found ≡ found_line at run (decoded_of run)
same_line at run shown found is says = λ i. found_line at (is i) (says i)

pub some_listed : (b : List ℕ) (at count : ℕ) → 0 < length (code_run b at 15)
    → code_listing b at (suc count) ≡ lines_behind b at count (code_run b at 15)
unfolding code_listing
some_listed b at count some =
    cond-false (length (code_run b at 15) == 0) [] (lines_behind b at count (code_run b at 15))
    (ne_eqb (length (code_run b at 15)) 0 (λ none. omega (arith, some, none)))

pub none_listed : (b : List ℕ) (at count : ℕ) → length (code_run b at 15) ≡ 0 → code_listing b at count ≡ []
unfolding code_listing
none_listed b at zero none = refl
none_listed b at (suc count) none =
    cond-true (length (code_run b at 15) == 0) [] (lines_behind b at count (code_run b at 15))
    (eq-eqb (length (code_run b at 15)) 0 none)

pub nothing_listed : (b : List ℕ) (at : ℕ) → code_listing b at 0 ≡ []
unfolding code_listing
nothing_listed b at = refl

-- so many lines went out, and the rest begins at this address
pub record AreListed {O : Type 0} (taken : O → Option (List ℕ)) (faults : O → ℕ) (first now : O) (b : List ℕ)
    (start count i at : ℕ) : Type 0 where
  pub done : List ℕ
  pub split : code_listing b start count ≡ done ++ code_listing b at (count - i)
  pub appended : Appends (taken first) (taken now) done
  pub never_fell : faults first ≤ faults now

module _ {O : Type 0} (taken : O → Option (List ℕ)) (faults : O → ℕ) (first now : O) (b : List ℕ) (start count : ℕ) where
  pub list_begins : AreListed taken faults first first b start count 0 start
  list_begins = record {
    done = [];
    split = let same : count ≡ count - 0 = omega arith in ap (λ n. code_listing b start n) same;
    appended = Appends-nil (taken first);
    never_fell = omega arith;
  }

  module _ (i at : ℕ) (going : AreListed taken faults first now b start count i at) where
    module _ (run : List ℕ) (is : run ≡ code_run b at 15) (below : i < count) (some : 0 < length run) where
      split_here : code_listing b start count ≡ going.done ++ lines_behind b at (count - (i + 1)) run
      split_here =
          let left : count - i ≡ suc (count - (i + 1)) = omega (arith, below) in
          let P : List ℕ → Type 0 = λ r. 0 < length r in
          going.split ∙ ap (λ n. going.done ++ code_listing b at n) left
          ∙ ap (λ l. going.done ++ l) (some_listed b at (count - (i + 1)) (subst P is some)
          ∙ ap (lines_behind b at (count - (i + 1))) (sym is))

      -- a line went out
      pub list_goes_on : (later : O) (next : ℕ) → Appends (taken now) (taken later) (found_line at run (decoded_of run))
          → faults now ≤ faults later → next ≡ at + found_size (decoded_of run)
          → AreListed taken faults first later b start count (i + 1) next
      list_goes_on later next put low moved =
          let line = found_line at run (decoded_of run) in
          record {
            done = going.done ++ line;
            split = split_here
                ∙ sym (append_assoc going.done line (code_listing b (at + found_size (decoded_of run)) (count - (i + 1))))
                ∙ ap (λ a. (going.done ++ line) ++ code_listing b a (count - (i + 1))) (sym moved);
            appended = Appends-trans (taken first) (taken now) (taken later) going.done line going.appended put;
            never_fell = omega (arith, going.never_fell, low);
          }

      -- a fault cut it
      pub list_was_cut : (later : O) → AppendsPrefix (taken now) (taken later) (found_line at run (decoded_of run))
          → AppendsPrefix (taken first) (taken later) (code_listing b start count)
      list_was_cut later cut =
          let line = found_line at run (decoded_of run) in
          let rest = code_listing b (at + found_size (decoded_of run)) (count - (i + 1)) in
          subst (AppendsPrefix (taken first) (taken later)) (sym split_here)
          (prefix_behind (taken first) (taken now) (taken later) going.done (line ++ rest) going.appended
          (prefix_of_both (taken now) (taken later) line rest cut))

    whole : code_listing b at (count - i) ≡ [] → Appends (taken first) (taken now) (code_listing b start count)
    whole none =
        let all = going.split ∙ ap (λ l. going.done ++ l) none ∙ append-nil going.done in
        subst (Appends (taken first) (taken now)) (sym all) going.appended

    -- the run ended
    pub list_stops : length (code_run b at 15) ≡ 0 → Appends (taken first) (taken now) (code_listing b start count)
    list_stops none = whole (none_listed b at (count - i) none)

    -- all lines went out
    pub list_ends : count ≤ i → Appends (taken first) (taken now) (code_listing b start count)
    list_ends past =
        let left : count - i ≡ 0 = omega (arith, past) in
        whole (ap (λ n. code_listing b at n) left ∙ nothing_listed b at)
