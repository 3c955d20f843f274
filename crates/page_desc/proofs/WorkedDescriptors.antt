-- Descriptors at worked values: sixteen bytes as the words of descriptors read them, and the number of each kind.
use Rattle.std.proofs.Common.{◌≡◌, ℕ, ◌+◌, ◌*◌, ◌<◌, List, [], ◌∷◌, get_or, arith, ap, lit<, refl, ◌∙◌}
use Rattle.phys_mem.specs.Memory.{byte_at, number_at}
use Rattle.nk_bits.specs.declared.kind.Kind.TheVariants.{Data, Code, Table, Fixed, Trap, Guarded, Hidden}
use Rattle.page_desc.specs.DescriptorBytes.{field_in, kind_by, word_of}

-- a table of level 4, with 3 loose leaves and 258 links
abbrev root : List ℕ
root = 2 ∷ 4 ∷ 0 ∷ 0 ∷ 3 ∷ 0 ∷ 0 ∷ 0 ∷ 2 ∷ 1 ∷ 0 ∷ 0 ∷ 0 ∷ 0 ∷ 0 ∷ 0 ∷ []

module _ (m : List ℕ) (f : ℕ) (stands : (k : ℕ) → k < 16 → byte_at m (0x40000 + 16 * f + k) ≡ get_or root k 0) where
  byte_is : (k p : ℕ) → k < 16 → p ≡ 0x40000 + 16 * f + k → byte_at m p ≡ get_or root k 0
  byte_is k p small is = ap (byte_at m) is ∙ stands k small

  kind_is : kind_by (field_in m 0 f) ≡ Table 4
  unfolding field_in number_at kind_by
  kind_is =
      let word : field_in m 0 f ≡ 1026 = omega (
        arith,
        byte_is 0 (0x40000 + 16 * f + 0) (lit< tt) refl,
        byte_is 1 (0x40000 + 16 * f + 0 + 1) (lit< tt) (omega arith),
        byte_is 2 (0x40000 + 16 * f + 0 + 1 + 1) (lit< tt) (omega arith),
        byte_is 3 (0x40000 + 16 * f + 0 + 1 + 1 + 1) (lit< tt) (omega arith),
      ) in
      ap kind_by word

  loose_is : field_in m 4 f ≡ 3
  unfolding field_in number_at
  loose_is = omega (
    arith,
    byte_is 4 (0x40000 + 16 * f + 4) (lit< tt) refl,
    byte_is 5 (0x40000 + 16 * f + 4 + 1) (lit< tt) (omega arith),
    byte_is 6 (0x40000 + 16 * f + 4 + 1 + 1) (lit< tt) (omega arith),
    byte_is 7 (0x40000 + 16 * f + 4 + 1 + 1 + 1) (lit< tt) (omega arith),
  )

  links_is : field_in m 8 f ≡ 258
  unfolding field_in number_at
  links_is = omega (
    arith,
    byte_is 8 (0x40000 + 16 * f + 8) (lit< tt) refl,
    byte_is 9 (0x40000 + 16 * f + 8 + 1) (lit< tt) (omega arith),
    byte_is 10 (0x40000 + 16 * f + 8 + 1 + 1) (lit< tt) (omega arith),
    byte_is 11 (0x40000 + 16 * f + 8 + 1 + 1 + 1) (lit< tt) (omega arith),
  )

  unused_is : field_in m 12 f ≡ 0
  unfolding field_in number_at
  unused_is = omega (
    arith,
    byte_is 12 (0x40000 + 16 * f + 12) (lit< tt) refl,
    byte_is 13 (0x40000 + 16 * f + 12 + 1) (lit< tt) (omega arith),
    byte_is 14 (0x40000 + 16 * f + 12 + 1 + 1) (lit< tt) (omega arith),
    byte_is 15 (0x40000 + 16 * f + 12 + 1 + 1 + 1) (lit< tt) (omega arith),
  )

-- the number of each kind, and the kind of each number
words :
    (word_of Data ≡ 0) × (word_of Code ≡ 1) × (word_of (Table 1) ≡ 258) × (word_of (Table 4) ≡ 1026) × (word_of Fixed ≡ 3) ×
    (word_of Trap ≡ 4) × (word_of Guarded ≡ 5) × (word_of Hidden ≡ 6)
words = (refl, refl, refl, refl, refl, refl, refl, refl)

kinds :
    (kind_by 0 ≡ Data) × (kind_by 1 ≡ Code) × (kind_by 258 ≡ Table 1) × (kind_by 1026 ≡ Table 4) × (kind_by 3 ≡ Fixed) ×
    (kind_by 4 ≡ Trap) × (kind_by 5 ≡ Guarded) × (kind_by 6 ≡ Hidden)
unfolding kind_by
kinds = (refl, refl, refl, refl, refl, refl, refl, refl)
