-- Which bytes of an access tell that each of them has a canonical address.
use Rattle.std.proofs.Common.{◌≡◌, ℕ, zero, suc, ◌+◌, ◌-◌, ◌%◌, ◌^◌, ◌<◌, ◌≤◌, ◌⊎◌, Bool, true, false, arith, refl, sym, ap, subst, ◌∙◌, inl, inr}
use Rattle.std.specs.List.{list_all, range_with_len}
use Rattle.std.proofs.lemmas.Bool.{and_from, and_parts, cases_eq, false_from_ne_true, false≢true}
use Rattle.std.proofs.lemmas.Bool.Decides.{nat_tests}
use Rattle.nk_bits.specs.Paging.{is_canonical}
use Rattle.nk_bits.specs.Accesses.{crosses, has_canonical_bytes, address_of}
use borrow.Author.Tests.{ltb-false}

-- a test of each number from a on
list_all-each : (p : ℕ → Bool) (a n : ℕ) → ((k : ℕ) → a ≤ k → k < a + n → p k ≡ true) → list_all p (range_with_len a n) ≡ true
list_all-each p a zero each = refl
list_all-each p a (suc n) each =
    and_from (p a) (list_all p (range_with_len (a + 1) n)) (each a (omega arith) (omega arith))
    (list_all-each p (a + 1) n (λ k from below. each k (omega arith) (omega arith)))

-- and what it says of one of them
list_all-at : (p : ℕ → Bool) (a n k : ℕ) → a ≤ k → k < a + n → list_all p (range_with_len a n) ≡ true → p k ≡ true
list_all-at p a zero k from below all = absurd (omega (arith, from, below))
list_all-at p a (suc n) k from below all =
    let both = and_parts (p a) (list_all p (range_with_len (a + 1) n)) all in
    elim (cases_eq a k) [
      | inl here ↦ subst (λ x. p x ≡ true) here both.0
      | inr apart ↦ list_all-at p (a + 1) n k (omega (arith, from, apart)) (omega (arith, below)) both.1
    ]

-- canonical addresses are those of the lower and of the upper half
halves_of : (va : ℕ) → is_canonical va ≡ true → (va < 2 ^ 47) ⊎ (2 ^ 64 - 2 ^ 47 ≤ va)
halves_of va is = grind (arith, nat_tests)

in_halves : (va : ℕ) → va < 2 ^ 64 → (va < 2 ^ 47) ⊎ (2 ^ 64 - 2 ^ 47 ≤ va) → is_canonical va ≡ true
in_halves va fits half = grind (arith, nat_tests)

-- those between two canonical ones less than 256 apart are canonical
between : (va last k : ℕ) → va < 2 ^ 64 → k ≤ last → last < 256 → is_canonical va ≡ true → is_canonical (address_of va last) ≡ true → is_canonical (address_of va k) ≡ true
between va last k fits before few first end =
    let a : (va < 2 ^ 47) ⊎ (2 ^ 64 - 2 ^ 47 ≤ va) = halves_of va first in
    let b : (address_of va last < 2 ^ 47) ⊎ (2 ^ 64 - 2 ^ 47 ≤ address_of va last) = halves_of (address_of va last) end in
    in_halves (address_of va k) (omega arith) (elim a [ inl low ↦ inl (omega arith) | inr high ↦ grind arith ])

module _ (va width : ℕ) where
  abbrev at : ℕ → Bool
  at k = is_canonical (address_of va k)

  module _ (fits : va < 2 ^ 64) (some : 0 < width) where
    pub first_not : is_canonical va ≡ false → has_canonical_bytes va width ≡ false
    unfolding has_canonical_bytes
    first_not off =
        let start : va ≡ address_of va 0 = omega (arith, fits) in
        false_from_ne_true _ (λ all. false≢true (sym off ∙ ap is_canonical start ∙ list_all-at at 0 width 0 (omega arith) (omega (arith, some)) all))

    -- the last byte tells where the first is canonical
    pub last_tells : (last : ℕ) → width < 256 → last ≡ address_of va (width - 1) → is_canonical va ≡ true → is_canonical last ≡ has_canonical_bytes va width
    unfolding has_canonical_bytes
    last_tells last few is first = go (is_canonical last) refl
      where
        go : (end : Bool) → is_canonical last ≡ end → end ≡ list_all at (range_with_len 0 width)
        go true on =
            sym (list_all-each at 0 width
            (λ k from below. between va (width - 1) k fits (omega (arith, some, below)) (omega (arith, some, few)) first (sym (ap is_canonical is) ∙ on)))
        go false off =
            sym (false_from_ne_true _ (λ all. false≢true (sym off ∙ ap is_canonical is ∙ list_all-at at 0 width (width - 1) (omega arith) (omega (arith, some)) all)))

    -- on one page the first byte tells
    pub first_tells : crosses va width ≡ false → is_canonical va ≡ has_canonical_bytes va width
    unfolding has_canonical_bytes crosses
    first_tells one = go (is_canonical va) refl
      where
        go : (first : Bool) → is_canonical va ≡ first → first ≡ list_all at (range_with_len 0 width)
        go true on =
            let within : va % 4096 + width ≤ 4096 = ltb-false 4096 (va % 4096 + width) one in
            sym (list_all-each at 0 width
            (λ k from below.
            in_halves (address_of va k) (omega arith)
            (elim (halves_of va on) [ inl low ↦ inl (omega (arith, within, below)) | inr high ↦ inr (omega (arith, within, below, fits)) ])))
        go false off = sym (first_not off)
