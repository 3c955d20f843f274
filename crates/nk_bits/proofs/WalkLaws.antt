-- The walk: its two forms are one, and what holds along it.
use Rattle.std.proofs.Common.{◌≡◌, ℕ, zero, suc, Bool, true, false, refl, ◌-◌, ◌<◌, ◌≤◌, arith, ap, sym, not, nat_le, ◌==◌, ◌||◌, ◌&&◌, ◌∙◌}
use Rattle.std.specs.Prelude.{Result, Ok, Err, IfOk, if◌then◌else◌}
use Rattle.std.proofs.lemmas.Bool.{leb-false, false≢true}
use Rattle.std.proofs.lemmas.Result.{IfOk-at_ok}
use Rattle.nk_bits.specs.declared.leaf.Rights.{Rights}
use Rattle.nk_bits.specs.declared.leaf.Leaf.{Leaf}
use Rattle.nk_bits.specs.Paging.{page_index, frame_of, rights_of, common, all_rights, is_present, is_large, is_missing, walk, walk_from}

-- the four look-ups are the recursion from level 4
pub walk_by_level : (t : ℕ → ℕ → ℕ) (frames root page : ℕ) → walk t frames root page ≡ walk_from t frames page 4 root all_rights
unfolding walk walk_from
walk_by_level t frames root page = refl

-- a choice between an error and a result
ok_choice : (b : Bool) (level : ℕ) (r : Result Leaf ℕ) (P : Leaf → Type 0) → (b ≡ false → IfOk r P) → IfOk (if b then Err level else r) P
ok_choice true level r P rest = tt
ok_choice false level r P rest = rest refl

-- one look-up, by the level of its table: past an entry that isn't missing the walk goes on, and at one that is it ends
pub walk_past : (t : ℕ → ℕ → ℕ) (frames page level f : ℕ) (r : Rights) → 1 ≤ level →
    is_missing frames level (t f (page_index page level)) ≡ false →
    walk_from t frames page level f r ≡ walk_from t frames page (level - 1) (frame_of (t f (page_index page level))) (common r (rights_of (t f (page_index page level))))
unfolding walk_from
walk_past t frames page zero f r low there = absurd (omega (arith, low))
walk_past t frames page (suc level) f r low there =
    let below : level ≡ suc level - 1 = omega arith in
    let e = t f (page_index page (suc level)) in
    ap (λ b. if b then Err (suc level) else walk_from t frames page level (frame_of e) (common r (rights_of e))) there
    ∙ ap (λ k. walk_from t frames page k (frame_of e) (common r (rights_of e))) below

pub walk_missing : (t : ℕ → ℕ → ℕ) (frames page level f : ℕ) (r : Rights) → 1 ≤ level →
    is_missing frames level (t f (page_index page level)) ≡ true → walk_from t frames page level f r ≡ Err level
unfolding walk_from
walk_missing t frames page zero f r low missing = absurd (omega (arith, low))
walk_missing t frames page (suc level) f r low missing =
    let e = t f (page_index page (suc level)) in
    ap (λ b. if b then Err (suc level) else walk_from t frames page level (frame_of e) (common r (rights_of e))) missing

-- below the last level the frame is the page's
pub walk_end : (t : ℕ → ℕ → ℕ) (frames page f : ℕ) (r : Rights) → walk_from t frames page 0 f r ≡ Ok (record { frame = f; rights = r })
unfolding walk_from
walk_end t frames page f r = refl

-- the middle one of three tests that all fail
middle_false : (a b c : Bool) → (a || b || c) ≡ false → b ≡ false
middle_false a false c none = refl
middle_false false true c none = absurd (false≢true (sym none))
middle_false true true c none = absurd (false≢true (sym none))

-- an entry that isn't missing names a frame in memory
pub frame_in_memory : (frames level e : ℕ) → is_missing frames level e ≡ false → frame_of e < frames
unfolding is_missing
frame_in_memory frames level e there = leb-false frames (frame_of e) (middle_false (not (is_present e)) (nat_le frames (frame_of e)) ((level == 3 || level == 2) && is_large e) there)

-- What is carried along a walk over t: G holds of a level, a frame and the rights so far, and each entry that isn't missing
-- carries it one level down.
module _ (t : ℕ → ℕ → ℕ) (frames page : ℕ) (G : ℕ → ℕ → Rights → Type 0)
    (carries : (level f : ℕ) (r : Rights) → G (suc level) f r →
    is_missing frames (suc level) (t f (page_index page (suc level))) ≡ false →
    G level (frame_of (t f (page_index page (suc level)))) (common r (rights_of (t f (page_index page (suc level)))))) where
  -- the leaf that is found has G at level 0
  pub found_has : (level f : ℕ) (r : Rights) → G level f r → IfOk (walk_from t frames page level f r) (λ leaf. G 0 leaf.frame leaf.rights)
  unfolding walk_from
  found_has zero f r g = g
  found_has (suc level) f r g =
      ok_choice (is_missing frames (suc level) (t f (page_index page (suc level)))) (suc level) _ (λ leaf. G 0 leaf.frame leaf.rights) (λ there. found_has level _ _ (carries level f r g there))

  pub leaf_has : (level f : ℕ) (r : Rights) (leaf : Leaf) → G level f r → walk_from t frames page level f r ≡ Ok leaf → G 0 leaf.frame leaf.rights
  leaf_has level f r leaf g found = IfOk-at_ok (λ leaf. G 0 leaf.frame leaf.rights) found (found_has level f r g)

-- the frame that a walk finds is in memory
pub leaf_in_memory : (t : ℕ → ℕ → ℕ) (frames root page : ℕ) (leaf : Leaf) → walk t frames root page ≡ Ok leaf → leaf.frame < frames
leaf_in_memory t frames root page leaf found =
    leaf_has t frames page (λ level f r. level ≤ 3 → f < frames) (λ level f r g there _. frame_in_memory frames (suc level) _ there)
    4 root all_rights leaf (λ low. absurd (omega (arith, low))) (sym (walk_by_level t frames root page) ∙ found) (omega arith)

-- and so is that of the rest of a walk, where a look-up is left
pub rest_in_memory : (t : ℕ → ℕ → ℕ) (frames page level f : ℕ) (r : Rights) (leaf : Leaf) → 1 ≤ level → walk_from t frames page level f r ≡ Ok leaf → leaf.frame < frames
rest_in_memory t frames page level f r leaf some found =
    leaf_has t frames page (λ at f r. at < level → f < frames) (λ at f r g there _. frame_in_memory frames (suc at) _ there)
    level f r leaf (λ low. absurd (omega (arith, low))) found some
