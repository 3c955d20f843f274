-- Walks over sound tables, and the changes over which they stay sound.
use Rattle.std.specs.Prelude.{◌≡◌, ◌≢◌, ℕ, ◌+◌, ◌<◌, ◌≤◌, true, false, List, slice_set, Ok, Some}
use Rattle.nk_bits.specs.declared.kind.Kind.{Kind}
use Rattle.nk_bits.specs.declared.kind.Kind.TheVariants.{Data, Guarded, Table}
use Rattle.nk_bits.specs.declared.leaf.Leaf.{Leaf}
use Rattle.nk_bits.specs.declared.leaf.Upper.{Upper}
use Rattle.nk_bits.specs.EntryForms.{has_form, has_leaf_form, has_table_form}
use Rattle.nk_bits.specs.Kinds.{allows, kind_of, level_of}
use Rattle.nk_bits.specs.Paging.{emptied, frame_of, has_all, is_canonical_page, is_present, is_slot_entry, is_slot_page, replaced, rights_of, slot_value, upper_walk, walk, walk_below, zeroed}
use Rattle.page_desc.specs.FrameCounts.{links_in, loose_in}
use Rattle.page_desc.specs.SoundTables.{AreTables, grants_all, is_lawful}

pub record SoundLaws : Type 0 where
  pub walk : (kinds : List Kind) (t : ℕ → ℕ → ℕ) (frames root page : ℕ) (leaf : Leaf) → AreTables kinds t
      → level_of (kind_of kinds root) ≡ 4 → is_canonical_page page ≡ true → is_slot_page page ≡ false
      → walk t frames root page ≡ Ok leaf → allows (kind_of kinds leaf.frame) leaf.rights ≡ true
  pub below : (kinds : List Kind) (t : ℕ → ℕ → ℕ) (frames page level : ℕ) (it : Upper) (leaf : Leaf)
      → AreTables kinds t → 2 ≤ level → level ≤ 4 → level_of (kind_of kinds it.frame) + 1 ≡ level
      → has_all it.rights ≡ true
      → walk_below t frames page level it ≡ Ok leaf → allows (kind_of kinds leaf.frame) leaf.rights ≡ true
  pub upper : (kinds : List Kind) (t : ℕ → ℕ → ℕ) (frames root page level : ℕ) (it : Upper) → AreTables kinds t
      → level_of (kind_of kinds root) ≡ 4 → 2 ≤ level → level ≤ 4 → is_slot_page page ≡ false
      → is_canonical_page page ≡ true → upper_walk t frames root page level ≡ Some it
      → (level_of (kind_of kinds it.frame) + 1 ≡ level) × (has_all it.rights ≡ true)
  pub replaced : (kinds : List Kind) (t : ℕ → ℕ → ℕ) (a b c : ℕ) → AreTables kinds t
      → is_lawful kinds (level_of (kind_of kinds a)) b c ≡ true → AreTables kinds (replaced t a b c)
  pub elsewhere : (kinds : List Kind) (t u : ℕ → ℕ → ℕ) → AreTables kinds t
      → ((f i : ℕ) → i < 512 → 1 ≤ level_of (kind_of kinds f) → u f i ≡ t f i) → AreTables kinds u
  pub new_table : (kinds : List Kind) (t : ℕ → ℕ → ℕ) (a level : ℕ) → AreTables kinds t
      → kind_of kinds a ≡ Data → loose_in kinds t a ≡ 0
      → AreTables (slice_set kinds a (Table level)) (emptied t a level)
  pub old_table : (kinds : List Kind) (t : ℕ → ℕ → ℕ) (a : ℕ) → AreTables kinds t
      → 1 ≤ level_of (kind_of kinds a) → links_in kinds t a ≡ 0
      → AreTables (slice_set kinds a Data) (zeroed t a)
  pub guarded : (kinds : List Kind) (t : ℕ → ℕ → ℕ) (a : ℕ) → AreTables kinds t
      → kind_of kinds a ≡ Data → loose_in kinds t a ≡ 0 → AreTables (slice_set kinds a Guarded) t
  pub unguarded : (kinds : List Kind) (t : ℕ → ℕ → ℕ) (a : ℕ) → AreTables kinds t
      → kind_of kinds a ≡ Guarded → AreTables (slice_set kinds a Data) t
  pub leaf : (kinds : List Kind) (t : ℕ → ℕ → ℕ) (f i : ℕ) → AreTables kinds t → i < 512
      → level_of (kind_of kinds f) ≡ 1 → is_present (t f i) ≡ true
      → allows (kind_of kinds (frame_of (t f i))) (rights_of (t f i)) ≡ true
  pub link : (kinds : List Kind) (t : ℕ → ℕ → ℕ) (f i : ℕ) → AreTables kinds t → i < 512
      → 2 ≤ level_of (kind_of kinds f) → level_of (kind_of kinds f) ≤ 4
      → is_slot_entry (level_of (kind_of kinds f)) i ≡ false → is_present (t f i) ≡ true
      → (level_of (kind_of kinds (frame_of (t f i))) + 1 ≡ level_of (kind_of kinds f)) × (grants_all (t f i) ≡ true)
  pub slot : (kinds : List Kind) (t : ℕ → ℕ → ℕ) (f : ℕ) → AreTables kinds t
      → level_of (kind_of kinds f) ≡ 4 → t f 511 ≡ slot_value
  pub lawful_leaf : (kinds : List Kind) (i e : ℕ)
      → (is_present e ≡ true → (has_leaf_form e ≡ true) × (allows (kind_of kinds (frame_of e)) (rights_of e) ≡ true))
      → is_lawful kinds 1 i e ≡ true
  pub lawful_link : (kinds : List Kind) (level i e : ℕ) → level ≢ 1 → is_slot_entry level i ≡ false
      → (is_present e ≡ true → (has_table_form e ≡ true) × (level_of (kind_of kinds (frame_of e)) + 1 ≡ level))
      → is_lawful kinds level i e ≡ true
  pub form : (kinds : List Kind) (t : ℕ → ℕ → ℕ) (f i : ℕ) → AreTables kinds t → i < 512
      → 1 ≤ level_of (kind_of kinds f) → level_of (kind_of kinds f) ≤ 4 → is_present (t f i) ≡ true
      → has_form (level_of (kind_of kinds f)) (t f i) ≡ true
  pub slot_form : has_table_form slot_value ≡ true
