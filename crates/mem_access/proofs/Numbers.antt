-- Numbers by their bytes: one byte more, two parts, and stores one by one.
use Rattle.std.proofs.Common.{◌≡◌, ℕ, zero, suc, ◌+◌, ◌-◌, ◌*◌, ◌/◌, ◌%◌, ◌^◌, ◌<◌, ◌≤◌, List, [], ◌∷◌, ◌++◌, set, arith, refl, sym, ap, ◌∙◌}
use Rattle.std.proofs.Math.Nat.{pow-suc, one-le-pow, pow-le-pow_right, mul-le-mul_left}
use Rattle.std.proofs.Math.Arith.{mod-mul}
use Rattle.std.proofs.lemmas.List.{append-nil}
use Rattle.std.proofs.lemmas.Nat.{pow-add}
use Rattle.nk_bits.specs.declared.leaf.Target.{Target}
use Rattle.phys_mem.specs.Memory.{byte_at, number_at, stores, stored}
use Rattle.nk_bits.specs.Accesses.{first_part}
use Rattle.page_walk.specs.MemoryAccess.{value_at, stores_at}

-- a number of one byte more
pub number_first : (m : List ℕ) (n k p q : ℕ) → n ≡ suc k → q ≡ p + 1 → number_at m n p ≡ byte_at m p + 256 * number_at m k q
unfolding number_at
number_first m n k p q e f = ap (λ x. number_at m x p) e ∙ ap (λ x. byte_at m p + 256 * number_at m k x) (sym f)

pub number_none : (m : List ℕ) (n p : ℕ) → n ≡ 0 → number_at m n p ≡ 0
unfolding number_at
number_none m n p e = ap (λ x. number_at m x p) e

pub number_of_one : (m : List ℕ) (n p : ℕ) → n ≡ 1 → number_at m n p ≡ byte_at m p
number_of_one m n p e =
    let none : number_at m 0 (p + 1) ≡ 0 = number_none m 0 (p + 1) refl in omega (arith, number_first m n 0 p (p + 1) e refl, none)

-- a byte below a number of k bytes, in a number of n
pub digits_bound : (n k b v : ℕ) → n ≡ suc k → b < 256 → v < 256 ^ k → b + 256 * v < 256 ^ n
digits_bound n k b v e byte rest = let power : 256 ^ n ≡ 256 ^ k * 256 = ap (λ x. 256 ^ x) e ∙ pow-suc 256 k in omega (arith, byte, rest, power)

-- a number of at most eight bytes fits 64 bits
pub eight_bytes : (n v : ℕ) → n ≤ 8 → v < 256 ^ n → v < 2 ^ 64
eight_bytes n v few bound = let most : 256 ^ n ≤ 256 ^ 8 = pow-le-pow_right (omega arith) few in omega (arith, bound, most)

-- eight bits a byte
pub bits_of_bytes : (k : ℕ) → 2 ^ (8 * k) ≡ 256 ^ k
bits_of_bytes zero = refl
bits_of_bytes (suc k) =
    let more : 8 * suc k ≡ 8 * k + 8 = omega arith in
    ap (λ x. 2 ^ x) more ∙ pow-add 2 (8 * k) 8 ∙ ap (λ x. x * 256) (bits_of_bytes k) ∙ sym (pow-suc 256 k)

-- two parts, of k and of n bytes, fit where both are at most eight bytes
pub parts_fit : (low k high n : ℕ) → k + n ≤ 8 → low < 256 ^ k → high < 256 ^ n → low + 256 ^ k * high < 2 ^ 64
parts_fit low k high n few below above =
    let power : 256 ^ k * (high + 1) ≤ 256 ^ k * 256 ^ n = mul-le-mul_left (256 ^ k) (omega (arith, above)) in
    let whole : 256 ^ (k + n) ≡ 256 ^ k * 256 ^ n = pow-add 256 k n in
    let most : 256 ^ (k + n) ≤ 256 ^ 8 = pow-le-pow_right (omega arith) few in
    let split : 256 ^ k * (high + 1) ≡ 256 ^ k * high + 256 ^ k = omega arith in
    omega (arith, power, whole, most, split, below)

pub parts_bound : (low k high n : ℕ) → low < 256 ^ k → high < 256 ^ n → low + 256 ^ k * high < 256 ^ (k + n)
parts_bound low k high n below above =
    let power : 256 ^ k * (high + 1) ≤ 256 ^ k * 256 ^ n = mul-le-mul_left (256 ^ k) (omega (arith, above)) in
    let whole : 256 ^ (k + n) ≡ 256 ^ k * 256 ^ n = pow-add 256 k n in
    let split : 256 ^ k * (high + 1) ≡ 256 ^ k * high + 256 ^ k = omega arith in
    omega (arith, power, whole, split, below)

pub shifted : (low k high n : ℕ) → k + n ≤ 8 → low < 256 ^ k → high < 256 ^ n → low + high * 2 ^ (8 * k) % 2 ^ 64 ≡ low + 256 ^ k * high
shifted low k high n few below above =
    let fits : low + 256 ^ k * high < 2 ^ 64 = parts_fit low k high n few below above in
    let same : high * 2 ^ (8 * k) ≡ 256 ^ k * high = ap (λ x. high * x) (bits_of_bytes k) ∙ omega arith in
    omega (arith, fits, same)

-- the first of the stores of a number is made
pub store_first : (m l : List ℕ) (n k p q v w u : ℕ) → n ≡ suc k → q ≡ p + 1 → w ≡ v % 256 → u ≡ v / 256 → l ≡ stored m (stores 1 p w) → stored l (stores k q u) ≡ stored m (stores n p v)
unfolding stores stored
store_first m l n k p q v w u e f byte rest same =
    let cut : w % 256 ≡ v % 256 = omega (arith, byte) in
    ap (λ x. stored x (stores k q u)) (same ∙ ap (λ x. set m p x) cut)
    ∙ ap (λ (x : ℕ × ℕ). stored (set m p (v % 256)) (stores k x.0 x.1)) (λ j. (f j, rest j))
    ∙ sym (ap (λ x. stored m (stores x p v)) e)

pub store_none : (m : List ℕ) (n p v : ℕ) → n ≡ 0 → stored m (stores n p v) ≡ m
unfolding stores stored
store_none m n p v e = ap (λ x. stored m (stores x p v)) e

pub store_start : (m : List ℕ) (n k p q v : ℕ) → n ≡ k → p ≡ q → stored m (stores n p v) ≡ stored m (stores k q v)
store_start m n k p q v e f = ap (λ (x : ℕ × ℕ). stored m (stores x.0 x.1 v)) (λ j. (e j, f j))

-- the stores of a number are those of its low bytes
stores_low : (n p v : ℕ) → stores n p (v % 256 ^ n) ≡ stores n p v
unfolding stores
stores_low zero p v = refl
stores_low (suc n) p v =
    let split : v % 256 ^ suc n ≡ (v / 256 % 256 ^ n) * 256 + v % 256 = ap (λ x. v % x) (pow-suc 256 n) ∙ mod-mul v (one-le-pow n 256 (omega arith)) (omega arith) in
    let byte : v % 256 ^ suc n % 256 ≡ v % 256 = omega (arith, split) in
    let rest : v % 256 ^ suc n / 256 ≡ v / 256 % 256 ^ n = omega (arith, split) in
    ap (λ (x : ℕ × ℕ). (p, x.0) ∷ stores n (p + 1) x.1) (λ j. (byte j, rest j)) ∙ ap (λ ws. (p, v % 256) ∷ ws) (stores_low n (p + 1) (v / 256))

pub low_stored : (m l : List ℕ) (n k p v : ℕ) → n ≡ k → l ≡ stored m (stores k p (v % 256 ^ k)) → l ≡ stored m (stores n p v)
low_stored m l n k p v is same = same ∙ ap (stored m) (stores_low k p v ∙ ap (λ x. stores x p v) (sym is))

stores_none : (n p v : ℕ) → n ≡ 0 → stores n p v ≡ []
unfolding stores
stores_none n p v e = ap (λ x. stores x p v) e

-- where all bytes lie on the first page, the stores of an access are those of one number
pub whole_stores : (va width value : ℕ) (target : Target) → first_part va width ≡ width → stores_at va width target value ≡ stores width target.first value
whole_stores va width value target whole =
    let none : stores (width - first_part va width) target.second (value / 256 ^ first_part va width) ≡ [] =
    stores_none (width - first_part va width) target.second (value / 256 ^ first_part va width) (omega (arith, whole)) in
    ap (λ ws. stores (first_part va width) target.first value ++ ws) none
    ∙ append-nil (stores (first_part va width) target.first value) ∙ ap (λ n. stores n target.first value) whole

-- a byte more below a number, in a count from the top down
pub next_bound : (count offset b v : ℕ) → 0 < offset → offset ≤ count → b < 256 → v < 256 ^ (count - offset) → 256 * v + b < 256 ^ (count - (offset - 1))
next_bound count offset b v some within byte rest =
    omega (arith, digits_bound (count - (offset - 1)) (count - offset) b v (omega (arith, some, within)) byte rest)

pub next_value : (m : List ℕ) (at count offset b v : ℕ) → 0 < offset → offset ≤ count → b ≡ byte_at m (at + (offset - 1)) → v ≡ number_at m (count - offset) (at + offset) →
    256 * v + b ≡ number_at m (count - (offset - 1)) (at + (offset - 1))
next_value m at count offset b v some within byte rest =
    let first = number_first m (count - (offset - 1)) (count - offset) (at + (offset - 1)) (at + offset) (omega (arith, some, within)) (omega (arith, some)) in
    omega (arith, first, byte, rest)

-- an access on one page, and on two: the number that is read, and the stores that are made
module _ (m : List ℕ) (va width part : ℕ) (target : Target) (is : part ≡ first_part va width) where
  pub whole_value : (low : ℕ) → part ≡ width → low ≡ number_at m part target.first → low ≡ value_at m va width target
  whole_value low all read =
      let none : number_at m (width - first_part va width) target.second ≡ 0 = number_none m (width - first_part va width) target.second (omega (arith, all, is)) in
      let nothing : 256 ^ first_part va width * number_at m (width - first_part va width) target.second ≡ 0 = ap (λ x. 256 ^ first_part va width * x) none ∙ omega arith in
      let first : low ≡ number_at m (first_part va width) target.first = read ∙ ap (λ x. number_at m x target.first) is in
      omega (arith, first, nothing)

  -- stores in two parts are those of the one and then of the other
  module _ (stored-append : (m : List ℕ) (ws more : List (ℕ × ℕ)) → stored m (ws ++ more) ≡ stored (stored m ws) more) where
    pub one_part : (l : List ℕ) (value : ℕ) → part ≡ width → l ≡ stored m (stores part target.first value) → l ≡ stored m (stores_at va width target value)
    one_part l value all put =
        put ∙ ap (λ x. stored m (stores x target.first value)) is
        ∙ sym (stored-append m (stores (first_part va width) target.first value) (stores (width - first_part va width) target.second (value / 256 ^ first_part va width))
        ∙ store_none (stored m (stores (first_part va width) target.first value)) (width - first_part va width) target.second (value / 256 ^ first_part va width) (omega (arith, all, is)))

    pub two_parts : (l n : List ℕ) (value rest : ℕ) → rest ≡ value / 256 ^ part → l ≡ stored m (stores part target.first value) → n ≡ stored l (stores (width - part) target.second rest) →
        n ≡ stored m (stores_at va width target value)
    two_parts l n value rest left put then_put =
        then_put
        ∙ ap (λ (x : List ℕ × ℕ). stored x.0 (stores (width - part) target.second x.1)) (λ j. (put j, left j))
        ∙ ap (λ x. stored (stored m (stores x target.first value)) (stores (width - x) target.second (value / 256 ^ x))) is
        ∙ sym (stored-append m (stores (first_part va width) target.first value) (stores (width - first_part va width) target.second (value / 256 ^ first_part va width)))
