-- The walk by recursion on the level, and what holds along it.
use Rattle.std.proofs.Common.{◌≡◌, ℕ, zero, suc, ◌+◌, Bool, true, false, Option, None, refl, subst, arith}
use Rattle.std.specs.Prelude.{Err, IfSome, if◌then◌else◌}
use Rattle.nk_bits.specs.declared.leaf.Rights.{Rights}
use Rattle.nk_bits.specs.Paging.{all_rights, common, frame_of, is_missing, page_index, rights_of, upper_from, walk, walk_from}

-- the four look-ups are the recursion from level 4
pub walk_by_level : (t : ℕ → ℕ → ℕ) (frames root page : ℕ) → walk t frames root page ≡ walk_from t frames page 4 root all_rights
unfolding walk walk_from
walk_by_level t frames root page = refl

-- a choice whose first branch both share
same_choice : {A : Type 0} (b : Bool) (x y z : A) → (b ≡ false → y ≡ z) → (if b then x else y) ≡ (if b then x else z)
same_choice true x y z same = refl
same_choice false x y z same = same refl

-- what holds of the second branch holds of a choice whose first is None
some_choice : {A : Type 0} (P : A → Type 0) (b : Bool) (o : Option A) → (b ≡ false → IfSome o P) → IfSome (if b then None else o) P
some_choice P true o rest = tt
some_choice P false o rest = rest refl

-- What is carried along a walk over t: G holds of a level, a frame and the rights so far, and each entry that isn't missing
-- carries it one level down.
module _ (t : ℕ → ℕ → ℕ) (frames page : ℕ) (G : ℕ → ℕ → Rights → Type 0)
    (carries : (level f : ℕ) (r : Rights) → G (suc level) f r →
    is_missing frames (suc level) (t f (page_index page (suc level))) ≡ false →
    G level (frame_of (t f (page_index page (suc level)))) (common r (rights_of (t f (page_index page (suc level)))))) where
  -- tables that agree where G holds walk alike
  pub walk_alike : (u : ℕ → ℕ → ℕ) →
      ((level f : ℕ) (r : Rights) → G (suc level) f r → u f (page_index page (suc level)) ≡ t f (page_index page (suc level))) →
      (level f : ℕ) (r : Rights) → G level f r → walk_from u frames page level f r ≡ walk_from t frames page level f r
  unfolding walk_from
  walk_alike u agree zero f r g = refl
  walk_alike u agree (suc level) f r g =
      rw (agree level f r g)
      (same_choice (is_missing frames (suc level) (t f (page_index page (suc level)))) (Err (suc level)) _ _ (λ there. walk_alike u agree level _ _ (carries level f r g there)))

  -- the first look-ups alike
  pub upper_alike : (u : ℕ → ℕ → ℕ) →
      ((level f : ℕ) (r : Rights) → G (suc level) f r → u f (page_index page (suc level)) ≡ t f (page_index page (suc level))) →
      (left level f : ℕ) (r : Rights) → G level f r → upper_from u frames page left level f r ≡ upper_from t frames page left level f r
  unfolding upper_from
  upper_alike u agree zero level f r g = refl
  upper_alike u agree (suc left) zero f r g = refl
  upper_alike u agree (suc left) (suc level) f r g =
      rw (agree level f r g)
      (same_choice (is_missing frames (suc level) (t f (page_index page (suc level)))) None _ _ (λ there. upper_alike u agree left level _ _ (carries level f r g there)))

  -- and what they find has it
  pub upper_has : (left rest level f : ℕ) (r : Rights) → level ≡ left + rest → G level f r → IfSome (upper_from t frames page left level f r) (λ it. G rest it.frame it.rights)
  unfolding upper_from
  upper_has zero rest level f r is g = let same : level ≡ rest = omega (arith, is) in subst (λ l. G l f r) same g
  upper_has (suc left) rest zero f r is g = tt
  upper_has (suc left) rest (suc level) f r is g =
      some_choice (λ it. G rest it.frame it.rights) (is_missing frames (suc level) (t f (page_index page (suc level)))) _
      (λ there. upper_has left rest level _ _ (omega (arith, is)) (carries level f r g there))
