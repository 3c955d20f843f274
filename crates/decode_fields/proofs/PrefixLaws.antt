-- Where the prefix bytes of a list end.
use Rattle.std.proofs.Common.{◌≡◌, ℕ, suc, ◌+◌, true, false, List, [], ◌∷◌, ◌++◌, length, take, drop, refl, ap, sym, ◌∙◌, subst, arith, inl, inr}
use Rattle.std.proofs.lemmas.Bool.{and_parts, and_from, cases_Bool, cond-true, cond-false}
use Rattle.std.specs.List.{list_all, prefix_len}
use Rattle.decode_fields.specs.Prefixes.{is_prefix, prefix_bytes}

take_suc : (n : ℕ) (x : ℕ) (xs : List ℕ) → take (1 + n) (x ∷ xs) ≡ x ∷ take n xs
take_suc n x xs = let e : 1 + n ≡ suc n = omega arith in rw e refl

prefix_bytes-cons : (x : ℕ) (xs : List ℕ) → is_prefix x ≡ true → prefix_bytes (x ∷ xs) ≡ x ∷ prefix_bytes xs
prefix_bytes-cons x xs passes =
    ap (λ n. take n (x ∷ xs)) (cond-true (is_prefix x) (1 + prefix_len is_prefix xs) 0 passes) ∙ take_suc _ x xs

prefix_bytes-none : (x : ℕ) (xs : List ℕ) → is_prefix x ≡ false → prefix_bytes (x ∷ xs) ≡ []
prefix_bytes-none x xs fails = ap (λ n. take n (x ∷ xs)) (cond-false (is_prefix x) (1 + prefix_len is_prefix xs) 0 fails)

-- the prefix bytes are followed by what isn't one
pub prefix_bytes-append : (front : List ℕ) (byte : ℕ) (rest : List ℕ) → list_all is_prefix front ≡ true → is_prefix byte ≡ false → prefix_bytes (front ++ (byte ∷ rest)) ≡ front
prefix_bytes-append [] byte rest all ends = prefix_bytes-none byte rest ends
prefix_bytes-append (x ∷ front) byte rest all ends =
    let parts : (is_prefix x ≡ true) × (list_all is_prefix front ≡ true) = and_parts _ _ all in
    prefix_bytes-cons x (front ++ (byte ∷ rest)) parts.0 ∙ ap (λ xs. x ∷ xs) (prefix_bytes-append front byte rest parts.1 ends)

-- what the list splits into: prefix bytes, and a rest that begins with none
pub record Splits (bytes front rest : List ℕ) : Type 0 where
  pub parts : bytes ≡ front ++ rest
  pub front_all : list_all is_prefix front ≡ true
  pub ends : (byte : ℕ) (more : List ℕ) → rest ≡ byte ∷ more → is_prefix byte ≡ false

splits-cons_prefix : (x : ℕ) (xs front rest : List ℕ) → is_prefix x ≡ true → Splits xs front rest → Splits (x ∷ xs) (x ∷ front) rest
splits-cons_prefix x xs front rest passes s = record {
  parts = ap (λ ys. x ∷ ys) s.parts;
  front_all = and_from _ _ passes s.front_all;
  ends = s.ends;
}

cons_head : (x y : ℕ) (xs ys : List ℕ) → x ∷ xs ≡ y ∷ ys → x ≡ y
cons_head x y xs ys e = cc

splits-cons_other : (x : ℕ) (xs : List ℕ) → is_prefix x ≡ false → Splits (x ∷ xs) [] (x ∷ xs)
splits-cons_other x xs fails = record { parts = refl; front_all = refl; ends = λ byte more e. subst (λ (y : ℕ). is_prefix y ≡ false) (cons_head x byte xs more e) fails }

-- every list splits so, at the end of its prefix bytes
pub splits-rest : (bytes : List ℕ) → Splits bytes (prefix_bytes bytes) (drop (length (prefix_bytes bytes)) bytes)
splits-rest [] = record { parts = refl; front_all = refl; ends = λ byte more e. absurd (cc) }
splits-rest (x ∷ xs) =
    let P : List ℕ → Type 0 = λ front. Splits (x ∷ xs) front (drop (length front) (x ∷ xs)) in
    elim (cases_Bool (is_prefix x)) [
      | inl passes ↦ subst P (sym (prefix_bytes-cons x xs passes)) (splits-cons_prefix x xs _ _ passes (splits-rest xs))
      | inr fails ↦ subst P (sym (prefix_bytes-none x xs fails)) (splits-cons_other x xs fails)
    ]
