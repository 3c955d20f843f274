-- The bytes of guarded frames after stores, and where neither these frames nor their bytes change.
use Rattle.std.proofs.Common.{◌≡◌, ℕ, suc, ◌+◌, ◌*◌, ◌/◌, ◌<◌, Bool, true, false, List, [], ◌∷◌, length, set, arith, refl, sym, ap, ◌∙◌, inl, inr}
use Rattle.std.specs.Prelude.{nat_lt, ◌&&◌, ◌==◌, if◌then◌else◌}
use Rattle.std.proofs.lemmas.Bool.{eqb-true, false≢true, ltb-true}
use Rattle.std.proofs.lemmas.Bool.Decides.{eqb_tells}
use Rattle.std.proofs.lemmas.List.{get_or-set_other, get_or-set_same, length-set}
use Rattle.nk_bits.specs.declared.kind.Kind.{Kind}
use Rattle.nk_bits.specs.declared.kind.Kind.TheVariants.{Guarded}
use Rattle.nk_bits.specs.Kinds.{is_guarded, kind_of}
use Rattle.phys_mem.specs.Memory.{byte_at, stored}
use Rattle.nk_body.specs.CallRules.{puts}
use Rattle.nk_body.specs.NestedRecord.{held_bytes}
use Rattle.nk_body.proofs.RegionFrames.{InGuarded, in_memory}

-- one store
pick : (g l e : Bool) (new old v : ℕ) → (l ≡ true → e ≡ true → (g ≡ true) × (new ≡ v)) → (l ≡ true → e ≡ false → new ≡ old)
    → (if g && l then new else 0) ≡ (if l && e then v else (if g && l then old else 0))
pick true true true new old v here other = (here refl refl).1
pick true true false new old v here other = other refl refl
pick true false e new old v here other = refl
pick false true true new old v here other = absurd (false≢true (here refl refl).0)
pick false true false new old v here other = refl
pick false false e new old v here other = refl

module _ (kinds : List Kind) (m : List ℕ) (p v : ℕ) (guarded : kind_of kinds (p / 4096) ≡ Guarded) (inside : p < length m) where
  held_set : (f o : ℕ) → held_bytes kinds (set m p v) f o
      ≡ (if nat_lt o 4096 && 4096 * f + o == p then v else held_bytes kinds m f o)
  unfolding held_bytes
  held_set f o =
      pick (is_guarded (kind_of kinds f)) (nat_lt o 4096) (4096 * f + o == p) (byte_at (set m p v) (4096 * f + o)) (byte_at m (4096 * f + o)) v
      (λ low same.
      let at : 4096 * f + o ≡ p = eqb-true _ p same in
      let frame : f ≡ p / 4096 = omega (arith, at, ltb-true o 4096 low) in
      (ap (λ n. is_guarded (kind_of kinds n)) frame ∙ ap is_guarded guarded, ap (byte_at (set m p v)) at ∙ get_or-set_same m p v 0 inside))
      (λ low other. get_or-set_other m p (4096 * f + o) v 0
      (λ same. elim (eqb_tells (4096 * f + o) p) [ inl is ↦ false≢true (sym other ∙ is.0) | inr is ↦ is.1 same ]))

pub held_stored : (kinds : List Kind) (ws : List (ℕ × ℕ)) (m : List ℕ) → length m ≡ 4096 * length kinds → InGuarded kinds ws
    → held_bytes kinds (stored m ws) ≡ puts (held_bytes kinds m) ws
unfolding stored puts
held_stored kinds [] m size are = refl
held_stored kinds (w ∷ ws) m size are =
    let here : kind_of kinds (w.0 / 4096) ≡ Guarded = are 0 w (omega arith) in
    let frame : w.0 / 4096 < length kinds = in_memory kinds (w.0 / 4096) Guarded refl here in
    held_stored kinds ws (set m w.0 w.1) (length-set m w.0 w.1 ∙ size) (λ k d below. are (suc k) d (omega (arith, below)))
    ∙ ap (λ h. puts h ws) (λ i f o. held_set kinds m w.0 w.1 here (omega (arith, frame, size)) f o i)

-- guarded frames that stay, with their bytes
module _ (kinds after : List Kind) (m later : List ℕ) (same : (f : ℕ) → is_guarded (kind_of after f) ≡ is_guarded (kind_of kinds f))
    (bytes : (p : ℕ) → is_guarded (kind_of kinds (p / 4096)) ≡ true → byte_at later p ≡ byte_at m p) where
  choose : (g h l : Bool) (a b : ℕ) → h ≡ g → (g ≡ true → l ≡ true → a ≡ b) → (if h && l then a else 0) ≡ (if g && l then b else 0)
  choose g h l a b is alike = ap (λ x. if x && l then a else 0) is ∙ go g l alike
    where
      go : (g l : Bool) → (g ≡ true → l ≡ true → a ≡ b) → (if g && l then a else 0) ≡ (if g && l then b else 0)
      go true true alike = alike refl refl
      go true false alike = refl
      go false l alike = refl

  held_at : (f o : ℕ) → held_bytes after later f o ≡ held_bytes kinds m f o
  unfolding held_bytes
  held_at f o =
      choose (is_guarded (kind_of kinds f)) (is_guarded (kind_of after f)) (nat_lt o 4096) (byte_at later (4096 * f + o)) (byte_at m (4096 * f + o)) (same f)
      (λ guarded low.
      let frame : (4096 * f + o) / 4096 ≡ f = omega (arith, ltb-true o 4096 low) in
      bytes (4096 * f + o) (ap (λ n. is_guarded (kind_of kinds n)) frame ∙ guarded))

  pub held_same : held_bytes after later ≡ held_bytes kinds m
  held_same = λ i f o. held_at f o i
