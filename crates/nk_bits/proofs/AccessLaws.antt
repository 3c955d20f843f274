-- What holds of the translations and of the places after an access.
use Rattle.std.proofs.Common.{◌≡◌, ℕ, ◌*◌, ◌/◌, ◌^◌, ◌<◌, ◌≤◌, Bool, true, false, List, All, refl, sym, ap, ◌∙◌}
use Rattle.std.specs.Prelude.{IfOk, IfSome, Option, Some, None, Result, Ok, Err, if◌then◌else◌}
use Rattle.std.proofs.lemmas.Bool.{false≢true}
use Rattle.std.proofs.lemmas.Result.{IfOk-at_ok}
use Rattle.nk_bits.specs.declared.access.Access.{Access}
use Rattle.nk_bits.specs.declared.leaf.Leaf.{Leaf}
use Rattle.nk_bits.specs.declared.fault.AccessFault.{AccessFault}
use Rattle.nk_bits.specs.declared.fault.AccessFault.TheVariants.{Page}
use Rattle.nk_bits.specs.Paging.{page_of, is_canonical}
use Rattle.nk_bits.specs.AccessRights.{may}
use Rattle.nk_bits.specs.UpperEntries.{KeptEntry, walk_by}
use Rattle.nk_bits.specs.Translations.{Translations, NamesFramesIn, look, with_leaf, translation, tlb_after, or_walked, fill_walked}
use Rattle.nk_bits.specs.Claims.{Claim, AllPass}
use Rattle.nk_bits.specs.Outcomes.{Outcome, answered, then_by, then_on}
use Rattle.nk_bits.specs.Accesses.{View, IsWalked, Serves, IsKeptTranslation, reached, judged, kept_after, completed, accessed, crosses, next_page, has_canonical_bytes, place_in, fault_code}
use Rattle.nk_bits.proofs.KeptLaws.{Holding, faulted_holds, after_holds, passing_holds, holding_passes, walked_passes, translation_passes, names_hold, holding_names, walk_by_within}
use Rattle.nk_bits.proofs.TranslationLaws.{look_filled}
use Rattle.nk_bits.proofs.SpanLaws.{canonical_first, canonical_next}

-- a choice, by what each branch has where it is taken
chosen_on : {F A : Type 0} (P : Translations → Type 0) (b : Bool) (one other : Outcome F A) →
    (b ≡ true → P one.tlb) → P other.tlb → P (if b then one else other).tlb
chosen_on P true one other all none = all refl
chosen_on P false one other all none = none

chosen_ok : {F A : Type 0} (Q : A → Type 0) (b : Bool) (one other : Outcome F A) →
    (b ≡ true → IfOk one.answer Q) → (b ≡ false → IfOk other.answer Q) → IfOk (if b then one else other).answer Q
chosen_ok Q true one other first second = first refl
chosen_ok Q false one other first second = second refl

-- a step after an answer
then_ok : {F A B : Type 0} (Q : B → Type 0) (answer : Result A F) (tlb : Translations) (next : A → Translations → Outcome F B) →
    ((x : A) → answer ≡ Ok x → IfOk (next x tlb).answer Q) → IfOk (then_by answer tlb next).answer Q
then_ok Q (Ok x) tlb next later = later x refl
then_ok Q (Err fault) tlb next later = tt

-- What holds of each pair and of each entry kept, and of each leaf that the walk of a canonical page finds, goes on holding.
module _ (P : ℕ × Leaf → Type 0) (K : KeptEntry → Type 0) (limited : Bool) (view : View) (access : Access)
    (walked : (upper : List KeptEntry) (va : ℕ) → All K upper → is_canonical va ≡ true →
    IfOk (walk_by view.entries view.frames view.root upper (page_of va)) (λ leaf. P (page_of va, leaf))) where
  kept_has : (judgement : Result ℕ AccessFault) (tlb : Translations) (va : ℕ) → Holding P K limited tlb → Holding P K limited (kept_after judgement tlb va)
  kept_has (Ok place) tlb va all = all
  kept_has (Err fault) tlb va all = faulted_holds P K limited tlb (page_of va) all

  pub reached_keeps : (tlb : Translations) (va : ℕ) → is_canonical va ≡ true → Holding P K limited tlb → Holding P K limited (reached view access tlb va).tlb
  unfolding reached
  reached_keeps tlb va canonical all =
      kept_has (judged view access va (translation view.entries view.frames view.root tlb (page_of va))) (tlb_after view.entries view.frames view.root tlb (page_of va)) va
      (after_holds P K limited view.entries view.frames view.root (page_of va) tlb all (walked tlb.upper va all.upper canonical))

  completed_keeps : (va width first : ℕ) (tlb : Translations) → has_canonical_bytes va width ≡ true → Holding P K limited tlb → Holding P K limited (completed view access va width first tlb).tlb
  unfolding completed
  completed_keeps va width first tlb canonical all =
      chosen_on (Holding P K limited) (crosses va width) _ _
      (λ two.
      let second = reached view access tlb (next_page va) in
      let kept = reached_keeps tlb (next_page va) (canonical_next va width canonical two) all in
      then_on (Holding P K limited) second.answer second.tlb (λ second after. answered (record { first = first; second = second }) after) kept (λ x. kept))
      all

  pub accessed_keeps : (tlb : Translations) (va width : ℕ) → va < 2 ^ 64 → 1 ≤ width → Holding P K limited tlb → Holding P K limited (accessed view access tlb va width).tlb
  unfolding accessed
  accessed_keeps tlb va width fits some all =
      chosen_on (Holding P K limited) (has_canonical_bytes va width) _ _
      (λ canonical.
      let first = reached view access tlb va in
      let kept = reached_keeps tlb va (canonical_first va width fits some canonical) all in
      then_on (Holding P K limited) first.answer first.tlb (completed view access va width) kept (λ x. completed_keeps va width x first.tlb canonical kept))
      all

-- A claim goes on passing.
module _ (test : Claim) (view : View) (access : Access) (walked : IsWalked view test) where
  by_walk : (upper : List KeptEntry) (va : ℕ) → All (λ entry. test.upper entry ≡ true) upper → is_canonical va ≡ true →
      IfOk (walk_by view.entries view.frames view.root upper (page_of va)) (λ leaf. test.pair (page_of va, leaf) ≡ true)
  by_walk upper va all canonical = walked_passes view test upper va walked all canonical

  pub reached_passes : (tlb : Translations) (va : ℕ) → is_canonical va ≡ true → AllPass test tlb → AllPass test (reached view access tlb va).tlb
  reached_passes tlb va canonical all =
      holding_passes test _ (reached_keeps (λ pair. test.pair pair ≡ true) (λ entry. test.upper entry ≡ true) test.limited view access by_walk tlb va canonical (passing_holds test tlb all))

  pub accessed_passes : (tlb : Translations) (va width : ℕ) → va < 2 ^ 64 → 1 ≤ width → AllPass test tlb → AllPass test (accessed view access tlb va width).tlb
  accessed_passes tlb va width fits some all =
      holding_passes test _ (accessed_keeps (λ pair. test.pair pair ≡ true) (λ entry. test.upper entry ≡ true) test.limited view access by_walk tlb va width fits some (passing_holds test tlb all))

-- Where an access finds its places, a translation that passes the test serves each.
module _ (test : Claim) (view : View) (access : Access) (walked : IsWalked view test) where
  judged_serves : (va : ℕ) (leaf : Leaf) (b : Bool) → test.pair (page_of va, leaf) ≡ true → may access leaf.rights view.cpl view.wp view.smep ≡ b →
      IfOk (if b then Ok (place_in leaf va) else Err (Page (fault_code access view.cpl true) va)) (Serves view access test va)
  judged_serves va leaf true passes is = record { leaf = leaf; passes = passes; may_access = is; place_is = refl }
  judged_serves va leaf false passes is = tt

  pub reached_serves : (tlb : Translations) (va : ℕ) → is_canonical va ≡ true → AllPass test tlb →
      IfOk (reached view access tlb va).answer (Serves view access test va)
  unfolding reached
  reached_serves tlb va canonical all =
      go (translation view.entries view.frames view.root tlb (page_of va)) (translation_passes view test tlb va walked all canonical)
    where
      go : (found : Option Leaf) → IfSome found (λ leaf. test.pair (page_of va, leaf) ≡ true) → IfOk (judged view access va found) (Serves view access test va)
      go None has = tt
      go (Some leaf) has = judged_serves va leaf (may access leaf.rights view.cpl view.wp view.smep) has refl

  completed_serves : (va width first : ℕ) (tlb : Translations) → has_canonical_bytes va width ≡ true → AllPass test tlb → Serves view access test va first →
      IfOk (completed view access va width first tlb).answer (λ target. Serves view access test va target.first × (crosses va width ≡ true → Serves view access test (next_page va) target.second))
  unfolding completed
  completed_serves va width first tlb canonical all serves =
      chosen_ok (λ target. Serves view access test va target.first × (crosses va width ≡ true → Serves view access test (next_page va) target.second)) (crosses va width) _ _
      (λ two.
      let second = reached view access tlb (next_page va) in
      then_ok (λ target. Serves view access test va target.first × (crosses va width ≡ true → Serves view access test (next_page va) target.second)) second.answer second.tlb (λ second after. answered (record { first = first; second = second }) after)
      (λ x is. (serves, λ _. IfOk-at_ok (Serves view access test (next_page va)) is (reached_serves tlb (next_page va) (canonical_next va width canonical two) all))))
      (λ one. (serves, λ two. absurd (false≢true (sym one ∙ two))))

  pub accessed_serves : (tlb : Translations) (va width : ℕ) → va < 2 ^ 64 → 1 ≤ width → AllPass test tlb →
      IfOk (accessed view access tlb va width).answer (λ target. Serves view access test va target.first × (crosses va width ≡ true → Serves view access test (next_page va) target.second))
  unfolding accessed
  accessed_serves tlb va width fits some all =
      chosen_ok (λ target. Serves view access test va target.first × (crosses va width ≡ true → Serves view access test (next_page va) target.second)) (has_canonical_bytes va width) _ _
      (λ canonical.
      let first = reached view access tlb va in
      let here = canonical_first va width fits some canonical in
      then_ok (λ target. Serves view access test va target.first × (crosses va width ≡ true → Serves view access test (next_page va) target.second)) first.answer first.tlb (completed view access va width)
      (λ x is. completed_serves va width x first.tlb canonical (reached_passes test view access walked tlb va here all)
      (IfOk-at_ok (Serves view access test va) is (reached_serves tlb va here all))))
      (λ _. tt)

-- A page whose translation serves the access is found again, and nothing changes.
pub page_held : (view : View) (access : Access) (tlb : Translations) (va : ℕ) (leaf : Leaf) → look tlb.pairs (page_of va) ≡ Some leaf →
    may access leaf.rights view.cpl view.wp view.smep ≡ true → reached view access tlb va ≡ answered (place_in leaf va) tlb
unfolding reached
page_held view access tlb va leaf kept serves =
    ap (λ found.
    let judgement = judged view access va (or_walked found (walk_by view.entries view.frames view.root tlb.upper (page_of va))) in
    record { answer = judgement; tlb = kept_after judgement (fill_walked tlb (page_of va) found (walk_by view.entries view.frames view.root tlb.upper (page_of va))) va }) kept
    ∙ ap (λ b.
    let judgement = if b then Ok (place_in leaf va) else Err (Page (fault_code access view.cpl true) va) in
    record { answer = judgement; tlb = kept_after judgement tlb va }) serves

-- After a page was reached, its translation is kept, and it serves the access.
pub reached_kept : (view : View) (access : Access) (tlb : Translations) (va : ℕ) → IfOk (reached view access tlb va).answer (IsKeptTranslation view access (reached view access tlb va).tlb va)
unfolding reached
reached_kept view access tlb va = go (look tlb.pairs (page_of va)) refl (walk_by view.entries view.frames view.root tlb.upper (page_of va))
  where
    by_leaf : (leaf : Leaf) (after : Translations) (b : Bool) → look after.pairs (page_of va) ≡ Some leaf → may access leaf.rights view.cpl view.wp view.smep ≡ b →
        let judgement = if b then Ok (place_in leaf va) else Err (Page (fault_code access view.cpl true) va) in
        IfOk judgement (IsKeptTranslation view access (kept_after judgement after va) va)
    by_leaf leaf after true kept is = record { leaf = leaf; kept = kept; may_access = is; place_is = refl }
    by_leaf leaf after false kept is = tt

    go : (found : Option Leaf) → look tlb.pairs (page_of va) ≡ found → (walked : Result Leaf ℕ) →
        let judgement = judged view access va (or_walked found walked) in
        IfOk judgement (IsKeptTranslation view access (kept_after judgement (fill_walked tlb (page_of va) found walked) va) va)
    go (Some leaf) is walked = by_leaf leaf tlb (may access leaf.rights view.cpl view.wp view.smep) is refl
    go None is (Ok leaf) = by_leaf leaf (with_leaf tlb (page_of va) leaf) (may access leaf.rights view.cpl view.wp view.smep) (look_filled tlb.pairs (page_of va) leaf) refl
    go None is (Err level) = tt

-- Every frame that is named is in memory after an access too, since a walk finds none outside.
pub reached_within : (view : View) (access : Access) (size : ℕ) → view.frames ≡ size / 4096 → (tlb : Translations) (va : ℕ) → is_canonical va ≡ true →
    NamesFramesIn size tlb → NamesFramesIn size (reached view access tlb va).tlb
reached_within view access size whole tlb va canonical names =
    holding_names size _
    (reached_keeps (λ pair. 4096 * pair.1.frame < size) (λ entry. 4096 * entry.2.frame < size) false view access
    (λ upper at _ _. walk_by_within view.entries view.frames view.root (page_of at) size upper whole) tlb va canonical (names_hold size tlb names))
