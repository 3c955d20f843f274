-- The order of byte strings: each two are in order, it goes on over a third, and more bytes behind or in front keep it.
use Rattle.std.proofs.Common.{◌≡◌, ℕ, ◌+◌, ◌<◌, ◌≤◌, ◌⊎◌, Bool, true, false, ◌&&◌, ◌||◌, nat_eq, nat_lt, List, [], ◌∷◌, ◌++◌, length, drop, get_or, refl, ap, sym, ◌∙◌, arith, inl, inr}
use Rattle.std.proofs.lemmas.Bool.{and_from, and_parts, cases_lt, cases_order, eq-eqb, eqb-true, le-ltb, lt-ltb, ltb-true, ne_eqb, or_cases, or_left, or_right}
use Rattle.std.proofs.lemmas.List.{drop_all, drop_more, length-append}
use Rattle.asm_text.specs.LeastSpelling.{is_bytewise_least, is_not_behind}

-- a less byte, or the same one and the rest in order
less_head : (x y : ℕ) (a b : List ℕ) → x < y → is_bytewise_least (x ∷ a) (y ∷ b) ≡ true
less_head x y a b less = or_left (nat_lt x y) (nat_eq x y && is_bytewise_least a b) (lt-ltb x y less)

same_head : (x y : ℕ) (a b : List ℕ) → x ≡ y → is_bytewise_least a b ≡ true → is_bytewise_least (x ∷ a) (y ∷ b) ≡ true
same_head x y a b same rest =
    or_right (nat_lt x y) (nat_eq x y && is_bytewise_least a b) (and_from (nat_eq x y) (is_bytewise_least a b) (eq-eqb x y same) rest)

head_cases : (x y : ℕ) (a b : List ℕ) → is_bytewise_least (x ∷ a) (y ∷ b) ≡ true → (x < y) ⊎ ((x ≡ y) × (is_bytewise_least a b ≡ true))
head_cases x y a b h = elim (or_cases (nat_lt x y) (nat_eq x y && is_bytewise_least a b) h) [
  | inl less ↦ inl (ltb-true x y less)
  | inr rest ↦
      let parts : (nat_eq x y ≡ true) × (is_bytewise_least a b ≡ true) = and_parts (nat_eq x y) (is_bytewise_least a b) rest in
      inr (eqb-true x y parts.0, parts.1)
]

bytewise_same : (a : List ℕ) → is_bytewise_least a a ≡ true
bytewise_same [] = refl
bytewise_same (x ∷ a) = same_head x x a a refl (bytewise_same a)

bytewise_through : (a b c : List ℕ) → is_bytewise_least a b ≡ true → is_bytewise_least b c ≡ true → is_bytewise_least a c ≡ true
bytewise_through [] b c h g = refl
bytewise_through (x ∷ a) [] c h g = absurd (cc)
bytewise_through (x ∷ a) (y ∷ b) [] h g = absurd (cc)
bytewise_through (x ∷ a) (y ∷ b) (z ∷ c) h g = elim (head_cases x y a b h) [
  | inl less ↦ elim (head_cases y z b c g) [
    | inl more ↦ less_head x z a c (omega arith)
    | inr both ↦ less_head x z a c (omega arith)
  ]
  | inr both ↦ elim (head_cases y z b c g) [
    | inl more ↦ less_head x z a c (omega arith)
    | inr more ↦ same_head x z a c (both.0 ∙ more.0) (bytewise_through a b c both.1 more.1)
  ]
]

bytewise_either : (a b : List ℕ) → (is_bytewise_least a b ≡ true) ⊎ (is_bytewise_least b a ≡ true)
bytewise_either [] b = inl refl
bytewise_either (x ∷ a) [] = inr refl
bytewise_either (x ∷ a) (y ∷ b) = elim (cases_order x y) [
  | inl same ↦ elim (bytewise_either a b) [
    | inl rest ↦ inl (same_head x y a b same rest)
    | inr rest ↦ inr (same_head y x b a (sym same) rest)
  ]
  | inr differ ↦ elim differ [
    | inl less ↦ inl (less_head x y a b less)
    | inr more ↦ inr (less_head y x b a more)
  ]
]

pub shorter : (a b : List ℕ) → length a < length b → is_not_behind a b ≡ true
shorter a b less = or_left (nat_lt (length a) (length b)) (nat_eq (length a) (length b) && is_bytewise_least a b) (lt-ltb (length a) (length b) less)

as_long : (a b : List ℕ) → length a ≡ length b → is_bytewise_least a b ≡ true → is_not_behind a b ≡ true
as_long a b same least =
    or_right (nat_lt (length a) (length b)) (nat_eq (length a) (length b) && is_bytewise_least a b)
    (and_from (nat_eq (length a) (length b)) (is_bytewise_least a b) (eq-eqb (length a) (length b) same) least)

order_cases : (a b : List ℕ) → is_not_behind a b ≡ true → (length a < length b) ⊎ ((length a ≡ length b) × (is_bytewise_least a b ≡ true))
order_cases a b h = elim (or_cases (nat_lt (length a) (length b)) (nat_eq (length a) (length b) && is_bytewise_least a b) h) [
  | inl less ↦ inl (ltb-true (length a) (length b) less)
  | inr rest ↦
      let parts : (nat_eq (length a) (length b) ≡ true) × (is_bytewise_least a b ≡ true) = and_parts (nat_eq (length a) (length b)) (is_bytewise_least a b) rest in
      inr (eqb-true (length a) (length b) parts.0, parts.1)
]

pub order_same : (a : List ℕ) → is_not_behind a a ≡ true
order_same a = as_long a a refl (bytewise_same a)

-- what isn't behind isn't longer
pub order_length : (a b : List ℕ) → is_not_behind a b ≡ true → length a ≤ length b
order_length a b h = elim (order_cases a b h) [
  | inl less ↦ omega arith
  | inr both ↦ omega arith
]

pub order_through : (a b c : List ℕ) → is_not_behind a b ≡ true → is_not_behind b c ≡ true → is_not_behind a c ≡ true
order_through a b c h g = elim (order_cases a b h) [
  | inl less ↦ shorter a c (omega (arith, order_length b c g))
  | inr both ↦ elim (order_cases b c g) [
    | inl less ↦ shorter a c (omega arith)
    | inr more ↦ as_long a c (both.0 ∙ more.0) (bytewise_through a b c both.1 more.1)
  ]
]

pub order_either : (a b : List ℕ) → (is_not_behind a b ≡ true) ⊎ (is_not_behind b a ≡ true)
order_either a b = elim (cases_order (length a) (length b)) [
  | inl same ↦ elim (bytewise_either a b) [
    | inl least ↦ inl (as_long a b same least)
    | inr least ↦ inr (as_long b a (sym same) least)
  ]
  | inr differ ↦ elim differ [
    | inl less ↦ inl (shorter a b less)
    | inr more ↦ inr (shorter b a more)
  ]
]

bytewise_only : (a b : List ℕ) → is_bytewise_least a b ≡ true → is_bytewise_least b a ≡ true → a ≡ b
bytewise_only [] [] h g = refl
bytewise_only [] (y ∷ b) h g = absurd (cc)
bytewise_only (x ∷ a) [] h g = absurd (cc)
bytewise_only (x ∷ a) (y ∷ b) h g = elim (head_cases x y a b h) [
  | inl less ↦ elim (head_cases y x b a g) [
    | inl more ↦ absurd (omega arith)
    | inr both ↦ absurd (omega arith)
  ]
  | inr both ↦ elim (head_cases y x b a g) [
    | inl more ↦ absurd (omega arith)
    | inr more ↦ ap (λ z. z ∷ a) both.0 ∙ ap (λ c. y ∷ c) (bytewise_only a b both.1 more.1)
  ]
]

-- none of two is behind the other: they are one
pub order_only : (a b : List ℕ) → is_not_behind a b ≡ true → is_not_behind b a ≡ true → a ≡ b
order_only a b h g = elim (order_cases a b h) [
  | inl less ↦ absurd (omega (arith, order_length b a g))
  | inr both ↦ elim (order_cases b a g) [
    | inl less ↦ absurd (omega arith)
    | inr more ↦ bytewise_only a b both.1 more.1
  ]
]

bytewise_append : (a b c : List ℕ) → length a ≡ length b → is_bytewise_least a b ≡ true → is_bytewise_least (a ++ c) (b ++ c) ≡ true
bytewise_append [] [] c same h = bytewise_same c
bytewise_append [] (y ∷ b) c same h = absurd (omega arith)
bytewise_append (x ∷ a) [] c same h = absurd (omega arith)
bytewise_append (x ∷ a) (y ∷ b) c same h = elim (head_cases x y a b h) [
  | inl less ↦ less_head x y (a ++ c) (b ++ c) less
  | inr both ↦ same_head x y (a ++ c) (b ++ c) both.0 (bytewise_append a b c (omega arith) both.1)
]

-- the same bytes behind both
pub order_append : (a b c : List ℕ) → is_not_behind a b ≡ true → is_not_behind (a ++ c) (b ++ c) ≡ true
order_append a b c h = elim (order_cases a b h) [
  | inl less ↦ shorter (a ++ c) (b ++ c) (omega (arith, length-append a c, length-append b c))
  | inr both ↦ as_long (a ++ c) (b ++ c) (omega (arith, length-append a c, length-append b c)) (bytewise_append a b c both.0 both.1)
]

-- a byte more in front of the second, the same byte in front of both, and a less one in front of the first
pub order_longer : (a b : List ℕ) (y : ℕ) → is_not_behind a b ≡ true → is_not_behind a (y ∷ b) ≡ true
order_longer a b y h = shorter a (y ∷ b) (omega (arith, order_length a b h))

pub order_cons : (x : ℕ) (a b : List ℕ) → is_not_behind a b ≡ true → is_not_behind (x ∷ a) (x ∷ b) ≡ true
order_cons x a b h = elim (order_cases a b h) [
  | inl less ↦ shorter (x ∷ a) (x ∷ b) (omega arith)
  | inr both ↦ as_long (x ∷ a) (x ∷ b) (omega arith) (same_head x x a b refl both.1)
]

pub order_less : (x y : ℕ) (a b : List ℕ) → length a ≤ length b → x < y → is_not_behind (x ∷ a) (y ∷ b) ≡ true
order_less x y a b fits less = elim (cases_lt (length a) (length b)) [
  | inl shorter' ↦ shorter (x ∷ a) (y ∷ b) (omega arith)
  | inr same ↦ as_long (x ∷ a) (y ∷ b) (omega arith) (less_head x y a b less)
]

-- one byte on, in both
opened : (a b : List ℕ) (i : ℕ) → i < length a → i < length b → is_bytewise_least (drop i a) (drop i b)
    ≡ (nat_lt (get_or a i 0) (get_or b i 0) || (nat_eq (get_or a i 0) (get_or b i 0) && is_bytewise_least (drop (i + 1) a) (drop (i + 1) b)))
opened a b i in_a in_b =
    ap (λ t. is_bytewise_least t (drop i b)) (drop_more a i 0 in_a)
    ∙ ap (is_bytewise_least (get_or a i 0 ∷ drop (i + 1) a)) (drop_more b i 0 in_b)

or_false : (b : Bool) → (b || false) ≡ b
or_false true = refl
or_false false = refl

pub ends_first : (a b : List ℕ) (i : ℕ) → i < length a → length b ≤ i → is_bytewise_least (drop i a) (drop i b) ≡ false
ends_first a b i in_a past =
    ap (λ t. is_bytewise_least t (drop i b)) (drop_more a i 0 in_a)
    ∙ ap (is_bytewise_least (get_or a i 0 ∷ drop (i + 1) a)) (drop_all i b past)

pub differs : (a b : List ℕ) (i : ℕ) → i < length a → i < length b → (get_or a i 0 ≡ get_or b i 0 → ⊥) → is_bytewise_least (drop i a) (drop i b) ≡ nat_lt (get_or a i 0) (get_or b i 0)
differs a b i in_a in_b differ =
    let x : ℕ = get_or a i 0 in
    let y : ℕ = get_or b i 0 in
    opened a b i in_a in_b
    ∙ (ap (λ t. nat_lt x y || (t && is_bytewise_least (drop (i + 1) a) (drop (i + 1) b))) (ne_eqb x y differ) ∙ or_false (nat_lt x y))

pub goes_on : (a b : List ℕ) (i : ℕ) → i < length a → i < length b → get_or a i 0 ≡ get_or b i 0 → is_bytewise_least (drop i a) (drop i b) ≡ is_bytewise_least (drop (i + 1) a) (drop (i + 1) b)
goes_on a b i in_a in_b same =
    let x : ℕ = get_or a i 0 in
    let y : ℕ = get_or b i 0 in
    let rest : Bool = is_bytewise_least (drop (i + 1) a) (drop (i + 1) b) in
    opened a b i in_a in_b
    ∙ (ap (λ t. t || (nat_eq x y && rest)) (le-ltb x y (omega arith)) ∙ ap (λ t. t && rest) (eq-eqb x y same))

pub all_of : (a b : List ℕ) (i : ℕ) → length a ≤ i → is_bytewise_least (drop i a) b ≡ true
all_of a b i past = ap (λ t. is_bytewise_least t b) (drop_all i a past)
