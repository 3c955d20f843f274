-- Where every byte of the slots and the bits is 0, memory holds no region.
use Rattle.std.proofs.Common.{◌≡◌, ℕ, ◌+◌, ◌*◌, ◌/◌, ◌%◌, ◌^◌, ◌<◌, ◌≤◌, false, ◌==◌, List, [], length, arith, ap, sym, ◌∙◌, subst, inl, inr, slice_index}
use Rattle.std.proofs.lemmas.Bool.{cases_lt, false≢true}
use Rattle.std.proofs.lemmas.List.{get_or_past}
use Rattle.std.proofs.Math.Nat.{zero-div}
use Rattle.phys_mem.specs.Memory.{byte_at}
use Rattle.region_book.specs.RegionBytes.{HoldsRegions, RegionIndex, bits_in}
use Rattle.region_book.specs.RegionRows.{AreNumbered, bit_in, bit_of}
use Rattle.region_book.proofs.BitBytes.{bits_byte, bits_length}
use Rattle.region_book.proofs.NumberedRows.{none_numbered}

no_bit : (i : ℕ) → bit_of 0 i ≡ false
no_bit i = ap (λ n. n % 2 == 1) (zero-div (2 ^ i))

module _ (m : List ℕ) (size : 0x40000 ≤ length m)
    (zero : (p : ℕ) → 0x2A000 ≤ p → p < 0x40000 → byte_at m p ≡ 0) where
  bytes_are_none : (i : ℕ) → slice_index (bits_in m) i ≡ 0
  bytes_are_none i = elim (cases_lt i 73728) [
    | inl inside ↦ bits_byte m i inside ∙ zero (0x2A000 + i) (omega arith) (omega (arith, inside))
    | inr past ↦ get_or_past (bits_in m) i 0 (omega (arith, past, bits_length m (omega (arith, size))))
  ]

  no_bit_in : (k : ℕ) → bit_in (bits_in m) k ≡ false
  unfolding bit_in
  no_bit_in k = ap (λ n. bit_of n (k % 8)) (bytes_are_none (k / 8)) ∙ no_bit (k % 8)

  pub none_held : (index : RegionIndex) → index.slots ≡ [] → index.declared ≡ 0 → HoldsRegions index m
  none_held index none no_page =
      subst (λ slots. HoldsRegions (record { slots = slots; next = index.next; declared = index.declared }) m) (sym none)
      (record {
        size = size;
        slots = λ k d below. absurd (omega (arith, below));
        once = λ i j d low below. absurd (omega (arith, below));
        kept = record {
          count = omega arith;
          room = bits_length m (omega (arith, size));
          most = omega (arith, no_page);
          numbers = subst (AreNumbered []) (sym no_page) none_numbered;
          held = λ k d below. absurd (omega (arith, below));
          apart = λ i j d low below. absurd (omega (arith, below));
        };
        rows = λ k d below. absurd (omega (arith, below));
        free = λ s p inside other below. zero (0x3C000 + 64 * s + p) (omega arith) (omega (arith, inside, below));
        bits = λ k set. absurd (false≢true (sym (no_bit_in k) ∙ set));
      })
