-- Which addresses of an access are canonical.
use Rattle.std.proofs.Common.{◌≡◌, ℕ, zero, suc, ◌+◌, ◌-◌, ◌*◌, ◌/◌, ◌%◌, ◌^◌, ◌<◌, ◌≤◌, Bool, true, All, arith, subst}
use Rattle.nk_bits.specs.Paging.{is_canonical}
use Rattle.nk_bits.specs.Accesses.{crosses, next_page, has_canonical_bytes, address_of}
use Rattle.std.specs.List.{range_with_len}
use Rattle.std.proofs.lemmas.List.Elements.{All-head, All-tail}
use Rattle.std.proofs.lemmas.List.Sums.{AllPass-from_list_all}
use borrow.Author.Tests.{ltb-true}

-- a test of each number from a on, at one of them
all_at : (p : ℕ → Bool) (a n k : ℕ) → All (λ x. p x ≡ true) (range_with_len a n) → k < n → p (a + k) ≡ true
all_at p a zero k all h = absurd (omega (arith, h))
all_at p a (suc n) zero all h =
    let place : a ≡ a + 0 = omega arith in
    subst (λ x. p x ≡ true) place (All-head (λ x. p x ≡ true) a (range_with_len (a + 1) n) all)
all_at p a (suc n) (suc k) all h =
    let place : a + 1 + k ≡ a + suc k = omega arith in
    subst (λ x. p x ≡ true) place (all_at p (a + 1) n k (All-tail (λ x. p x ≡ true) a (range_with_len (a + 1) n) all) (omega (arith, h)))

-- where each byte's address is canonical, so is that of byte k
pub canonical_at : (va width k : ℕ) → has_canonical_bytes va width ≡ true → k < width → is_canonical (address_of va k) ≡ true
unfolding has_canonical_bytes
canonical_at va width k all h =
    let place : 0 + k ≡ k = omega arith in
    subst (λ x. is_canonical (address_of va x) ≡ true) place
    (all_at (λ x. is_canonical (address_of va x)) 0 width k (AllPass-from_list_all (λ x. is_canonical (address_of va x)) (range_with_len 0 width) all) h)

pub canonical_first : (va width : ℕ) → va < 2 ^ 64 → 1 ≤ width → has_canonical_bytes va width ≡ true → is_canonical va ≡ true
canonical_first va width fits some all =
    let place : address_of va 0 ≡ va = omega (arith, fits) in
    subst (λ x. is_canonical x ≡ true) place (canonical_at va width 0 all (omega (arith, some)))

-- and so is that of the first byte on the second page
pub canonical_next : (va width : ℕ) → has_canonical_bytes va width ≡ true → crosses va width ≡ true → is_canonical (next_page va) ≡ true
unfolding crosses next_page
canonical_next va width all two =
    let over : 4096 < va % 4096 + width = ltb-true 4096 (va % 4096 + width) two in
    let place : va + (4096 - va % 4096) ≡ (va / 4096 + 1) * 4096 = omega arith in
    subst (λ x. is_canonical (x % 2 ^ 64) ≡ true) place (canonical_at va width (4096 - va % 4096) all (omega (arith, over)))
