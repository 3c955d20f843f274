-- The bytes of the bits in memory: how many there are, each of them, one that is stored, and what leaves them.
use Rattle.std.proofs.Common.{◌≡◌, ◌%◌, ℕ, ◌+◌, ◌<◌, ◌≤◌, List, length, take, drop, set, arith, ap, sym, ◌∙◌, inl, inr, subst, slice_index}
use Rattle.std.proofs.lemmas.Grind.{same_number_lists}
use Rattle.std.proofs.lemmas.List.{drop-set-add, get_or-drop, get_or-set_other, get_or-take, length-drop, length-set, length-take}
use Rattle.std.proofs.Math.Seq.{take-set-lt}
use Rattle.phys_mem.specs.Memory.{byte_at, stored, stores}
use Rattle.region_book.specs.BitChanges.{DiffersInBits}
use Rattle.region_book.specs.RegionBytes.{DiffersInRegions, bits_in}

pub bits_length : (m : List ℕ) → 0x3C000 ≤ length m → length (bits_in m) ≡ 73728
unfolding bits_in
bits_length m room = simp (length-take, length-drop) (omega arith)

pub bits_byte : (m : List ℕ) (i : ℕ) → i < 73728 → slice_index (bits_in m) i ≡ byte_at m (0x2A000 + i)
unfolding bits_in
bits_byte m i inside = get_or-take 73728 (drop 0x2A000 m) i 0 inside ∙ get_or-drop 0x2A000 m i 0

bits_set : (m : List ℕ) (i v : ℕ) → i < 73728 → bits_in (set m (0x2A000 + i) v) ≡ set (bits_in m) i v
unfolding bits_in
bits_set m i v inside = ap (take 73728) (drop-set-add 0x2A000 m i v) ∙ take-set-lt 73728 (drop 0x2A000 m) i v inside

-- memories of one size that agree there
pub bits_same : (m n : List ℕ) → 0x3C000 ≤ length m → length n ≡ length m
    → ((p : ℕ) → 0x2A000 ≤ p → p < 0x3C000 → byte_at n p ≡ byte_at m p) → bits_in n ≡ bits_in m
bits_same m n room size same =
    let count : length (bits_in n) ≡ 73728 = bits_length n (omega (arith, room, size)) in
    same_number_lists (bits_in n) (bits_in m) (count ∙ sym (bits_length m room))
    (λ i below.
    let inside : i < 73728 = omega (arith, below, count) in
    bits_byte n i inside ∙ same (0x2A000 + i) (omega arith) (omega (arith, inside)) ∙ sym (bits_byte m i inside))

-- a byte of the bits is stored, at a place that is given by another word
module _ (m : List ℕ) (at i v : ℕ) (is : at ≡ i) (inside : i < 73728) (small : v < 256) where
  stored_is : stored m (stores 1 (0x2A000 + at) v) ≡ set m (0x2A000 + i) v
  unfolding stored stores
  stored_is =
      let cut : v % 256 ≡ v = omega arith in
      ap (set m (0x2A000 + at)) cut ∙ ap (λ a. set m (0x2A000 + a) v) is

  pub bits_stored : bits_in (stored m (stores 1 (0x2A000 + at) v)) ≡ set (bits_in m) i v
  bits_stored = ap bits_in stored_is ∙ bits_set m i v inside

  differs_set : DiffersInBits m (set m (0x2A000 + i) v)
  differs_set = record {
    size = length-set m (0x2A000 + i) v;
    elsewhere = λ p apart. get_or-set_other m (0x2A000 + i) p v 0 (λ same. elim apart [
      | inl low ↦ omega (arith, low, same)
      | inr high ↦ omega (arith, high, same, inside)
    ]);
  }

  pub differs_stored : DiffersInBits m (stored m (stores 1 (0x2A000 + at) v))
  differs_stored = subst (DiffersInBits m) (sym stored_is) differs_set

pub differs_twice : (m n o : List ℕ) → DiffersInBits m n → DiffersInBits n o → DiffersInBits m o
differs_twice m n o first second = record {
  size = second.size ∙ first.size;
  elsewhere = λ p apart. second.elsewhere p apart ∙ first.elsewhere p apart;
}

pub differs_in_regions : (m n : List ℕ) → DiffersInBits m n → DiffersInRegions m n
differs_in_regions m n differs = record {
  size = differs.size;
  elsewhere = λ p apart.
      differs.elsewhere p (elim apart [ inl low ↦ inl low | inr high ↦ inr (omega (arith, high)) ]);
}
