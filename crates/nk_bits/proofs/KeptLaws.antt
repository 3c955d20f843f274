-- What is kept as a whole, the pairs and the upper entries: what holds of each goes on holding over each change, and what
-- then holds of the leaf that a page's translation gives.
use Rattle.std.proofs.Common.{◌≡◌, ℕ, ◌-◌, ◌*◌, ◌/◌, ◌<◌, Bool, true, false, not, nat_lt, ◌==◌, ◌||◌, List, [], ◌∷◌, ◌++◌, All, arith, refl, ap, subst}
use Rattle.std.specs.Prelude.{⊤, IfOk, IfSome, Option, Some, None, Result, Ok, Err, if◌then◌else◌}
use Rattle.std.proofs.lemmas.Bool.{and_parts, eqb-true, eq-eqb, false≢true, lt-ltb, ltb-true}
use Rattle.std.proofs.lemmas.List.Elements.{All-head, All-tail, All-filter, All-append, All-drop, All-cons, All-nil, All-weaker}
use Rattle.std.proofs.lemmas.Option.{IfSome_then}
use Rattle.nk_bits.specs.declared.leaf.Leaf.{Leaf}
use Rattle.nk_bits.specs.declared.leaf.Upper.{Upper}
use Rattle.nk_bits.specs.Paging.{page_of, is_canonical, walk, walk_below}
use Rattle.nk_bits.specs.UpperEntries.{KeptEntry, span_of, is_for, serves_page, kept_for, without, with_entry, begun, walk_by}
use Rattle.nk_bits.specs.Translations.{Translations, NamesFramesIn, look, flushed, faulted, invalidated, forgotten, with_leaf, entry_forgotten, entry_kept, or_walked, fill_walked, translation, tlb_after}
use Rattle.nk_bits.specs.Claims.{Claim, AllPass, IsLimited, lies_in}
use Rattle.nk_bits.specs.Accesses.{View, IsWalked}
use Rattle.nk_bits.proofs.TranslationLaws.{All-dropped, All-filled, look_has}
use Rattle.nk_bits.proofs.WalkLaws.{leaf_in_memory, rest_in_memory}
use Rattle.nk_bits.proofs.UpperLaws.{covers_says}
use Rattle.nk_bits.proofs.KeptLimits.{entry_forgotten_limited, entry_kept_limited, faulted_limited, flushed_limited, forgotten_limited, invalidated_limited, with_leaf_limited}

-- P holds of each pair, and K of each upper entry; and where this is claimed, no more is kept than the processor keeps
pub record Holding (P : ℕ × Leaf → Type 0) (K : KeptEntry → Type 0) (limited : Bool) (tlb : Translations) : Type 0 where
  pub pairs : All P tlb.pairs
  pub upper : All K tlb.upper
  pub limits : limited ≡ true → IsLimited tlb

-- the page's entry of a level serves the page
same_number : (a : ℕ) → (a == a) ≡ true
same_number a = eq-eqb a a refl

covers_second : (page : ℕ) (it : Upper) → serves_page page (2, span_of 2 page, it) ≡ true
covers_second page it = ap (λ b. b || false || false) (same_number (span_of 2 page))

covers_third : (page : ℕ) (it : Upper) → serves_page page (3, span_of 3 page, it) ≡ true
covers_third page it = ap (λ b. b || false) (same_number (span_of 3 page))

covers_fourth : (page : ℕ) (it : Upper) → serves_page page (4, span_of 4 page, it) ≡ true
covers_fourth page it = same_number (span_of 4 page)

-- a walk that begins at an entry that is found, or else is done in another way
begun_has : (Q : Leaf → Type 0) (t : ℕ → ℕ → ℕ) (frames page level : ℕ) (found : Option Upper) (other : Result Leaf ℕ) →
    IfSome found (λ it. IfOk (walk_below t frames page level it) Q) → IfOk other Q → IfOk (begun t frames page level found other) Q
begun_has Q t frames page level (Some it) other here there = here
begun_has Q t frames page level None other here there = there

begun_same : (t u : ℕ → ℕ → ℕ) (frames page level : ℕ) (found : Option Upper) (one other : Result Leaf ℕ) →
    IfSome found (λ it. walk_below t frames page level it ≡ walk_below u frames page level it) → one ≡ other →
    begun t frames page level found one ≡ begun u frames page level found other
begun_same t u frames page level (Some it) one other here there = here
begun_same t u frames page level None one other here there = there

module _ (K : KeptEntry → Type 0) where
  -- what is kept for a page is an entry of the list
  pub kept_for_has : (upper : List KeptEntry) (level page : ℕ) → All K upper → IfSome (kept_for upper level page) (λ it. K (level, span_of level page, it))
  kept_for_has [] level page all = tt
  kept_for_has (entry ∷ upper) level page all = go (is_for level page entry) refl (kept_for_has upper level page (All-tail K entry upper all))
    where
      go : (here : Bool) → is_for level page entry ≡ here → IfSome (kept_for upper level page) (λ it. K (level, span_of level page, it)) →
          IfSome (if here then Some entry.2 else kept_for upper level page) (λ it. K (level, span_of level page, it))
      go true is later =
          let parts = and_parts (entry.0 == level) (entry.1 == span_of level page) is in
          let numbered : K (entry.0, span_of level page, entry.2) = subst (λ bits. K (entry.0, bits, entry.2)) (eqb-true entry.1 (span_of level page) parts.1) (All-head K entry upper all) in
          subst (λ k. K (k, span_of level page, entry.2)) (eqb-true entry.0 level parts.0) numbered
      go false is later = later

  -- where all that begin at such an entry do so, the processor's walk has what a walk from the root has
  pub walk_by_has : (Q : Leaf → Type 0) (t : ℕ → ℕ → ℕ) (frames root page : ℕ) (upper : List KeptEntry) → All K upper →
      ((entry : KeptEntry) → K entry → serves_page page entry ≡ true → IfOk (walk_below t frames page entry.0 entry.2) Q) →
      IfOk (walk t frames root page) Q → IfOk (walk_by t frames root upper page) Q
  unfolding walk_by
  walk_by_has Q t frames root page upper all below begins =
      let second = IfSome_then (kept_for upper 2 page) (kept_for_has upper 2 page all) (λ it k. below (2, span_of 2 page, it) k (covers_second page it)) in
      let third = IfSome_then (kept_for upper 3 page) (kept_for_has upper 3 page all) (λ it k. below (3, span_of 3 page, it) k (covers_third page it)) in
      let fourth = IfSome_then (kept_for upper 4 page) (kept_for_has upper 4 page all) (λ it k. below (4, span_of 4 page, it) k (covers_fourth page it)) in
      begun_has Q t frames page 2 (kept_for upper 2 page) _ second
      (begun_has Q t frames page 3 (kept_for upper 3 page) _ third
      (begun_has Q t frames page 4 (kept_for upper 4 page) _ fourth begins))

  -- and where they do the same in other tables, so does the processor's walk
  pub walk_by_same : (t u : ℕ → ℕ → ℕ) (frames root other page : ℕ) (upper : List KeptEntry) → All K upper →
      ((entry : KeptEntry) → K entry → serves_page page entry ≡ true → walk_below t frames page entry.0 entry.2 ≡ walk_below u frames page entry.0 entry.2) →
      walk t frames root page ≡ walk u frames other page → walk_by t frames root upper page ≡ walk_by u frames other upper page
  unfolding walk_by
  walk_by_same t u frames root other page upper all below begins =
      let second = IfSome_then (kept_for upper 2 page) (kept_for_has upper 2 page all) (λ it k. below (2, span_of 2 page, it) k (covers_second page it)) in
      let third = IfSome_then (kept_for upper 3 page) (kept_for_has upper 3 page all) (λ it k. below (3, span_of 3 page, it) k (covers_third page it)) in
      let fourth = IfSome_then (kept_for upper 4 page) (kept_for_has upper 4 page all) (λ it k. below (4, span_of 4 page, it) k (covers_fourth page it)) in
      begun_same t u frames page 2 (kept_for upper 2 page) _ _ second
      (begun_same t u frames page 3 (kept_for upper 3 page) _ _ third
      (begun_same t u frames page 4 (kept_for upper 4 page) _ _ fourth begins))

-- the frame of the leaf that the processor's walk finds is in memory
if_found : {A : Type 0} (Q : A → Type 0) (r : Result A ℕ) → ((x : A) → r ≡ Ok x → Q x) → IfOk r Q
if_found Q (Ok x) has = has x refl
if_found Q (Err level) has = tt

pub walk_by_in_memory : (t : ℕ → ℕ → ℕ) (frames root page : ℕ) (upper : List KeptEntry) → IfOk (walk_by t frames root upper page) (λ leaf. leaf.frame < frames)
walk_by_in_memory t frames root page upper =
    walk_by_has (λ entry. ⊤) (λ leaf. leaf.frame < frames) t frames root page upper (λ k entry low. tt)
    (λ entry _ is. if_found (λ leaf. leaf.frame < frames) (walk_below t frames page entry.0 entry.2) (λ leaf found.
    let level = covers_says page entry is in
    rest_in_memory t frames page (entry.0 - 1) entry.2.frame entry.2.rights leaf (omega (arith, level.0)) found))
    (if_found (λ leaf. leaf.frame < frames) (walk t frames root page) (λ leaf found. leaf_in_memory t frames root page leaf found))

-- each change of what is kept
module _ (P : ℕ × Leaf → Type 0) (K : KeptEntry → Type 0) (limited : Bool) where
  pub flushed_holds : Holding P K limited flushed
  flushed_holds = record { pairs = All-nil P; upper = All-nil K; limits = λ is. flushed_limited }

  pub faulted_holds : (tlb : Translations) (page : ℕ) → Holding P K limited tlb → Holding P K limited (faulted tlb page)
  faulted_holds tlb page all = record { pairs = All-dropped P tlb.pairs page all.pairs; upper = All-filter (λ entry. not (serves_page page entry)) K tlb.upper all.upper; limits = λ is. faulted_limited tlb page (all.limits is) }

  pub invalidated_holds : (tlb : Translations) (page : ℕ) → Holding P K limited tlb → Holding P K limited (invalidated tlb page)
  invalidated_holds tlb page all = record { pairs = All-dropped P tlb.pairs page all.pairs; upper = All-nil K; limits = λ is. invalidated_limited tlb page (all.limits is) }

  pub forgotten_holds : (tlb : Translations) (page : ℕ) → Holding P K limited tlb → Holding P K limited (forgotten tlb page)
  forgotten_holds tlb page all = record { pairs = All-dropped P tlb.pairs page all.pairs; upper = all.upper; limits = λ is. forgotten_limited tlb page (all.limits is) }

  pub with_leaf_holds : (tlb : Translations) (page : ℕ) (leaf : Leaf) → Holding P K limited tlb → P (page, leaf) → Holding P K limited (with_leaf tlb page leaf)
  with_leaf_holds tlb page leaf all new = record { pairs = All-filled P tlb.pairs page leaf all.pairs new; upper = all.upper; limits = λ is. with_leaf_limited tlb page leaf (all.limits is) }

  All-without : (upper : List KeptEntry) (level page : ℕ) → All K upper → All K (without upper level page)
  All-without upper level page all = All-filter (λ entry. not (is_for level page entry)) K upper all

  All-with_entry : (upper : List KeptEntry) (level page : ℕ) (it : Upper) → All K upper → K (level, span_of level page, it) → All K (with_entry upper level page it)
  unfolding with_entry
  All-with_entry upper level page it all new =
      All-drop K _ (without upper level page ++ (level, span_of level page, it) ∷ [])
      (All-append K (without upper level page) ((level, span_of level page, it) ∷ []) (All-without upper level page all) (All-cons K (level, span_of level page, it) [] new (All-nil K)))

  pub entry_forgotten_holds : (tlb : Translations) (level page : ℕ) → Holding P K limited tlb → Holding P K limited (entry_forgotten tlb level page)
  entry_forgotten_holds tlb level page all = record { pairs = all.pairs; upper = All-without tlb.upper level page all.upper; limits = λ is. entry_forgotten_limited tlb level page (all.limits is) }

  pub entry_kept_holds : (tlb : Translations) (level page : ℕ) (found : Option Upper) → Holding P K limited tlb → IfSome found (λ it. K (level, span_of level page, it)) →
      Holding P K limited (entry_kept tlb level page found)
  entry_kept_holds tlb level page None all new = all
  entry_kept_holds tlb level page (Some it) all new = record { pairs = all.pairs; upper = All-with_entry tlb.upper level page it all.upper new; limits = λ is. entry_kept_limited tlb level page (Some it) (all.limits is) }

  -- and the translation of a page, where its walk has P too
  or_walked_has : (page : ℕ) (kept : Option Leaf) (walked : Result Leaf ℕ) → IfSome kept (λ leaf. P (page, leaf)) → IfOk walked (λ leaf. P (page, leaf)) →
      IfSome (or_walked kept walked) (λ leaf. P (page, leaf))
  or_walked_has page (Some leaf) walked here there = here
  or_walked_has page None (Ok leaf) here there = there
  or_walked_has page None (Err level) here there = tt

  fill_walked_holds : (tlb : Translations) (page : ℕ) (kept : Option Leaf) (walked : Result Leaf ℕ) → Holding P K limited tlb → IfOk walked (λ leaf. P (page, leaf)) →
      Holding P K limited (fill_walked tlb page kept walked)
  fill_walked_holds tlb page (Some leaf) walked all new = all
  fill_walked_holds tlb page None (Ok leaf) all new = with_leaf_holds tlb page leaf all new
  fill_walked_holds tlb page None (Err level) all new = all

  pub translation_has : (t : ℕ → ℕ → ℕ) (frames root page : ℕ) (tlb : Translations) → Holding P K limited tlb → IfOk (walk_by t frames root tlb.upper page) (λ leaf. P (page, leaf)) →
      IfSome (translation t frames root tlb page) (λ leaf. P (page, leaf))
  translation_has t frames root page tlb all new = or_walked_has page (look tlb.pairs page) (walk_by t frames root tlb.upper page) (look_has P tlb.pairs page all.pairs) new

  pub after_holds : (t : ℕ → ℕ → ℕ) (frames root page : ℕ) (tlb : Translations) → Holding P K limited tlb → IfOk (walk_by t frames root tlb.upper page) (λ leaf. P (page, leaf)) →
      Holding P K limited (tlb_after t frames root tlb page)
  after_holds t frames root page tlb all new = fill_walked_holds tlb page (look tlb.pairs page) (walk_by t frames root tlb.upper page) all new

-- a claim
pub passing_holds : (test : Claim) (tlb : Translations) → AllPass test tlb → Holding (λ pair. test.pair pair ≡ true) (λ entry. test.upper entry ≡ true) test.limited tlb
passing_holds test tlb all = record { pairs = all.pairs; upper = all.upper; limits = all.limits }

pub holding_passes : (test : Claim) (tlb : Translations) → Holding (λ pair. test.pair pair ≡ true) (λ entry. test.upper entry ≡ true) test.limited tlb → AllPass test tlb
holding_passes test tlb all = record { pairs = all.pairs; upper = all.upper; limits = all.limits }

pub walked_passes : (view : View) (test : Claim) (upper : List KeptEntry) (va : ℕ) → IsWalked view test → All (λ entry. test.upper entry ≡ true) upper → is_canonical va ≡ true →
    IfOk (walk_by view.entries view.frames view.root upper (page_of va)) (λ leaf. test.pair (page_of va, leaf) ≡ true)
walked_passes view test upper va walked all canonical =
    walk_by_has (λ entry. test.upper entry ≡ true) (λ leaf. test.pair (page_of va, leaf) ≡ true) view.entries view.frames view.root (page_of va) upper all
    (λ entry passes is. if_found (λ leaf. test.pair (page_of va, leaf) ≡ true) (walk_below view.entries view.frames (page_of va) entry.0 entry.2)
    (λ leaf found. walked.below entry va leaf passes canonical is found))
    (if_found (λ leaf. test.pair (page_of va, leaf) ≡ true) (walk view.entries view.frames view.root (page_of va)) (λ leaf found. walked.root va leaf canonical found))

pub translation_passes : (view : View) (test : Claim) (tlb : Translations) (va : ℕ) → IsWalked view test → AllPass test tlb → is_canonical va ≡ true →
    IfSome (translation view.entries view.frames view.root tlb (page_of va)) (λ leaf. test.pair (page_of va, leaf) ≡ true)
translation_passes view test tlb va walked all canonical =
    translation_has (λ pair. test.pair pair ≡ true) (λ entry. test.upper entry ≡ true) test.limited view.entries view.frames view.root (page_of va) tlb (passing_holds test tlb all)
    (walked_passes view test tlb.upper va walked all.upper canonical)

pub after_passes : (view : View) (test : Claim) (tlb : Translations) (va : ℕ) → IsWalked view test → AllPass test tlb → is_canonical va ≡ true →
    AllPass test (tlb_after view.entries view.frames view.root tlb (page_of va))
after_passes view test tlb va walked all canonical =
    holding_passes test _
    (after_holds (λ pair. test.pair pair ≡ true) (λ entry. test.upper entry ≡ true) test.limited view.entries view.frames view.root (page_of va) tlb (passing_holds test tlb all)
    (walked_passes view test tlb.upper va walked all.upper canonical))

pub flushed_passes : (test : Claim) → AllPass test flushed
flushed_passes test = holding_passes test flushed (flushed_holds (λ pair. test.pair pair ≡ true) (λ entry. test.upper entry ≡ true) test.limited)

pub faulted_passes : (test : Claim) (tlb : Translations) (page : ℕ) → AllPass test tlb → AllPass test (faulted tlb page)
faulted_passes test tlb page all = holding_passes test (faulted tlb page) (faulted_holds (λ pair. test.pair pair ≡ true) (λ entry. test.upper entry ≡ true) test.limited tlb page (passing_holds test tlb all))

pub invalidated_passes : (test : Claim) (tlb : Translations) (page : ℕ) → AllPass test tlb → AllPass test (invalidated tlb page)
invalidated_passes test tlb page all = holding_passes test (invalidated tlb page) (invalidated_holds (λ pair. test.pair pair ≡ true) (λ entry. test.upper entry ≡ true) test.limited tlb page (passing_holds test tlb all))

pub forgotten_passes : (test : Claim) (tlb : Translations) (page : ℕ) → AllPass test tlb → AllPass test (forgotten tlb page)
forgotten_passes test tlb page all = holding_passes test (forgotten tlb page) (forgotten_holds (λ pair. test.pair pair ≡ true) (λ entry. test.upper entry ≡ true) test.limited tlb page (passing_holds test tlb all))

pub entry_forgotten_passes : (test : Claim) (tlb : Translations) (level page : ℕ) → AllPass test tlb → AllPass test (entry_forgotten tlb level page)
entry_forgotten_passes test tlb level page all = holding_passes test (entry_forgotten tlb level page) (entry_forgotten_holds (λ pair. test.pair pair ≡ true) (λ entry. test.upper entry ≡ true) test.limited tlb level page (passing_holds test tlb all))

pub entry_kept_passes : (test : Claim) (tlb : Translations) (level page : ℕ) (found : Option Upper) → AllPass test tlb → IfSome found (λ it. test.upper (level, span_of level page, it) ≡ true) → AllPass test (entry_kept tlb level page found)
entry_kept_passes test tlb level page found all new = holding_passes test (entry_kept tlb level page found) (entry_kept_holds (λ pair. test.pair pair ≡ true) (λ entry. test.upper entry ≡ true) test.limited tlb level page found (passing_holds test tlb all) new)

pub with_leaf_passes : (test : Claim) (tlb : Translations) (page : ℕ) (leaf : Leaf) → AllPass test tlb → test.pair (page, leaf) ≡ true → AllPass test (with_leaf tlb page leaf)
with_leaf_passes test tlb page leaf all new = holding_passes test (with_leaf tlb page leaf) (with_leaf_holds (λ pair. test.pair pair ≡ true) (λ entry. test.upper entry ≡ true) test.limited tlb page leaf (passing_holds test tlb all) new)

-- the frames that are named
pub names_hold : (size : ℕ) (tlb : Translations) → NamesFramesIn size tlb → Holding (λ pair. 4096 * pair.1.frame < size) (λ entry. 4096 * entry.2.frame < size) false tlb
names_hold size tlb all = record { pairs = all.pairs; upper = all.upper; limits = λ is. absurd (false≢true is) }

pub holding_names : (size : ℕ) (tlb : Translations) → Holding (λ pair. 4096 * pair.1.frame < size) (λ entry. 4096 * entry.2.frame < size) false tlb → NamesFramesIn size tlb
holding_names size tlb all = record { pairs = all.pairs; upper = all.upper }

pub flushed_within : (size : ℕ) → NamesFramesIn size flushed
flushed_within size = holding_names size flushed (flushed_holds (λ pair. 4096 * pair.1.frame < size) (λ entry. 4096 * entry.2.frame < size) false)

pub faulted_within : (size : ℕ) (tlb : Translations) (page : ℕ) → NamesFramesIn size tlb → NamesFramesIn size (faulted tlb page)
faulted_within size tlb page all = holding_names size (faulted tlb page) (faulted_holds (λ pair. 4096 * pair.1.frame < size) (λ entry. 4096 * entry.2.frame < size) false tlb page (names_hold size tlb all))

pub invalidated_within : (size : ℕ) (tlb : Translations) (page : ℕ) → NamesFramesIn size tlb → NamesFramesIn size (invalidated tlb page)
invalidated_within size tlb page all = holding_names size (invalidated tlb page) (invalidated_holds (λ pair. 4096 * pair.1.frame < size) (λ entry. 4096 * entry.2.frame < size) false tlb page (names_hold size tlb all))

pub forgotten_within : (size : ℕ) (tlb : Translations) (page : ℕ) → NamesFramesIn size tlb → NamesFramesIn size (forgotten tlb page)
forgotten_within size tlb page all = holding_names size (forgotten tlb page) (forgotten_holds (λ pair. 4096 * pair.1.frame < size) (λ entry. 4096 * entry.2.frame < size) false tlb page (names_hold size tlb all))

pub entry_forgotten_within : (size : ℕ) (tlb : Translations) (level page : ℕ) → NamesFramesIn size tlb → NamesFramesIn size (entry_forgotten tlb level page)
entry_forgotten_within size tlb level page all = holding_names size (entry_forgotten tlb level page) (entry_forgotten_holds (λ pair. 4096 * pair.1.frame < size) (λ entry. 4096 * entry.2.frame < size) false tlb level page (names_hold size tlb all))

pub entry_kept_within : (size : ℕ) (tlb : Translations) (level page : ℕ) (found : Option Upper) → NamesFramesIn size tlb → IfSome found (λ it. 4096 * it.frame < size) → NamesFramesIn size (entry_kept tlb level page found)
entry_kept_within size tlb level page found all new = holding_names size (entry_kept tlb level page found) (entry_kept_holds (λ pair. 4096 * pair.1.frame < size) (λ entry. 4096 * entry.2.frame < size) false tlb level page found (names_hold size tlb all) new)

pub with_leaf_within : (size : ℕ) (tlb : Translations) (page : ℕ) (leaf : Leaf) → NamesFramesIn size tlb → 4096 * leaf.frame < size → NamesFramesIn size (with_leaf tlb page leaf)
with_leaf_within size tlb page leaf all new = holding_names size (with_leaf tlb page leaf) (with_leaf_holds (λ pair. 4096 * pair.1.frame < size) (λ entry. 4096 * entry.2.frame < size) false tlb page leaf (names_hold size tlb all) new)

pub lies : (size : ℕ) (tlb : Translations) → NamesFramesIn size tlb → AllPass (lies_in size) tlb
lies size tlb names = record {
  pairs = All-weaker (λ pair. 4096 * pair.1.frame < size) (λ pair. nat_lt (4096 * pair.1.frame) size ≡ true) (λ pair. lt-ltb (4096 * pair.1.frame) size) tlb.pairs names.pairs;
  upper = All-weaker (λ entry. 4096 * entry.2.frame < size) (λ entry. nat_lt (4096 * entry.2.frame) size ≡ true) (λ entry. lt-ltb (4096 * entry.2.frame) size) tlb.upper names.upper;
  limits = λ is. absurd (false≢true is);
}

pub named : (size : ℕ) (tlb : Translations) → AllPass (lies_in size) tlb → NamesFramesIn size tlb
named size tlb all = record {
  pairs = All-weaker (λ pair. nat_lt (4096 * pair.1.frame) size ≡ true) (λ pair. 4096 * pair.1.frame < size) (λ pair. ltb-true (4096 * pair.1.frame) size) tlb.pairs all.pairs;
  upper = All-weaker (λ entry. nat_lt (4096 * entry.2.frame) size ≡ true) (λ entry. 4096 * entry.2.frame < size) (λ entry. ltb-true (4096 * entry.2.frame) size) tlb.upper all.upper;
}

pub walk_by_within : (t : ℕ → ℕ → ℕ) (frames root page size : ℕ) (upper : List KeptEntry) → frames ≡ size / 4096 →
    IfOk (walk_by t frames root upper page) (λ leaf. 4096 * leaf.frame < size)
walk_by_within t frames root page size upper whole = go (walk_by t frames root upper page) (walk_by_in_memory t frames root page upper)
  where
    go : (r : Result Leaf ℕ) → IfOk r (λ leaf. leaf.frame < frames) → IfOk r (λ leaf. 4096 * leaf.frame < size)
    go (Ok leaf) below = omega (arith, below, whole)
    go (Err level) below = tt

pub after_within : (t : ℕ → ℕ → ℕ) (frames root page size : ℕ) (tlb : Translations) → frames ≡ size / 4096 → NamesFramesIn size tlb →
    NamesFramesIn size (tlb_after t frames root tlb page)
after_within t frames root page size tlb whole names =
    holding_names size _
    (after_holds (λ pair. 4096 * pair.1.frame < size) (λ entry. 4096 * entry.2.frame < size) false t frames root page tlb (names_hold size tlb names)
    (walk_by_within t frames root page size tlb.upper whole))

pub look_within : (tlb : Translations) (page size : ℕ) → NamesFramesIn size tlb → IfSome (look tlb.pairs page) (λ leaf. 4096 * leaf.frame < size)
look_within tlb page size names = look_has (λ pair. 4096 * pair.1.frame < size) tlb.pairs page names.pairs

pub kept_within : (tlb : Translations) (level page size : ℕ) → NamesFramesIn size tlb → IfSome (kept_for tlb.upper level page) (λ it. 4096 * it.frame < size)
kept_within tlb level page size names = kept_for_has (λ entry. 4096 * entry.2.frame < size) tlb.upper level page names.upper

pub lies_walked : (view : View) (size : ℕ) → view.frames ≡ size / 4096 → IsWalked view (lies_in size)
lies_walked view size whole = record {
  root = λ va leaf canonical found.
      let below : leaf.frame < view.frames = leaf_in_memory view.entries view.frames view.root (page_of va) leaf found in
      lt-ltb (4096 * leaf.frame) size (omega (arith, below, whole));
  below = λ entry va leaf passes canonical is found.
      let level = covers_says (page_of va) entry is in
      let below : leaf.frame < view.frames = rest_in_memory view.entries view.frames (page_of va) (entry.0 - 1) entry.2.frame entry.2.rights leaf (omega (arith, level.0)) found in
      lt-ltb (4096 * leaf.frame) size (omega (arith, below, whole));
}
