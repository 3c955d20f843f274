-- A frame of data with no loose leaf becomes guarded: tables stay sound and described, and memory stands for the same.
use Rattle.std.proofs.Common.{◌≡◌, ◌≢◌, ℕ, ◌+◌, ◌*◌, ◌<◌, Bool, false, not, ◌&&◌, ◌==◌, List, length, set, arith, refl, sym, ap, ◌∙◌, inl, inr}
use Rattle.std.specs.Prelude.{if◌then◌else◌, nat_lt}
use Rattle.std.proofs.lemmas.Bool.{cases_eq}
use Rattle.std.proofs.lemmas.List.{length-set}
use Rattle.phys_mem.specs.Memory.{byte_at, entry_in}
use Rattle.nk_bits.specs.declared.kind.Kind.{Kind}
use Rattle.nk_bits.specs.declared.kind.Kind.TheVariants.{Data, Fixed, Guarded}
use Rattle.nk_bits.specs.Kinds.{kind_of, level_of}
use Rattle.page_desc.specs.FrameCounts.{is_link_level, is_link_to, is_loose_leaf, links_in, loose_in, count_if}
use Rattle.page_desc.specs.FrameDescriptors.{Descriptors}
use Rattle.page_desc.specs.PageTables.{AreDescribed, HoldsSoundTables, is_handler_byte, is_unchanging, is_table, unchanging_bytes, table_entries, tables_in}
use Rattle.page_desc.proofs.KindChanges.{fixed_kinds, kind_elsewhere, kind_here, links_moved, loose_moved}
use Rattle.page_desc.proofs.KindsKept.{TablesInMemory, tables_guarded}

module _ (kinds : List Kind) (a : ℕ) (inside : a < length kinds) (free : kind_of kinds a ≡ Data) where
  abbrev after : List Kind
  after = set kinds a Guarded

  not_fixed : kind_of kinds a ≢ Fixed
  not_fixed = λ is. cc

  stays : (f : ℕ) → kind_of kinds f ≡ Fixed → kind_of after f ≡ Fixed
  stays f is = kind_elsewhere kinds a f Guarded (λ e. not_fixed (ap (kind_of kinds) (sym e) ∙ is)) ∙ is

  -- a test that tells data and guarded frames nothing
  same_test : (test : Kind → Bool) → test Guarded ≡ test Data → (f : ℕ) → test (kind_of after f) ≡ test (kind_of kinds f)
  same_test test same f = elim (cases_eq f a) [
    | inl is ↦ ap (λ g. test (kind_of after g)) is ∙ ap test (kind_here kinds a Guarded inside) ∙ same
        ∙ sym (ap (λ g. test (kind_of kinds g)) is ∙ ap test free)
    | inr apart ↦ ap test (kind_elsewhere kinds a f Guarded apart)
  ]

  same_level : (f : ℕ) → level_of (kind_of after f) ≡ level_of (kind_of kinds f)
  same_level f = elim (cases_eq f a) [
    | inl is ↦ ap (λ g. level_of (kind_of after g)) is ∙ ap level_of (kind_here kinds a Guarded inside)
        ∙ sym (ap (λ g. level_of (kind_of kinds g)) is ∙ ap level_of free)
    | inr apart ↦ ap level_of (kind_elsewhere kinds a f Guarded apart)
  ]

  entries_stay : (m : List ℕ) (f i : ℕ) → table_entries after m f i ≡ table_entries kinds m f i
  unfolding table_entries
  entries_stay m f i = ap (λ b. if b && nat_lt i 512 then entry_in m f i else 0) (same_test is_table refl f)

  bytes_stay : (m : List ℕ) (f o : ℕ) → unchanging_bytes after m f o ≡ unchanging_bytes kinds m f o
  unfolding unchanging_bytes
  bytes_stay m f o =
      ap (λ b. if b && nat_lt o 4096 && not (is_handler_byte f o) then byte_at m (4096 * f + o) else 0)
      (same_test is_unchanging refl f)

  pub guarded_tables : (root : ℕ) (m : List ℕ) → tables_in after root m ≡ record (tables_in kinds root m) { kinds = after }
  guarded_tables root m =
      λ j. record { kinds = after; entries = λ f i. entries_stay m f i j; fixed = λ f o. bytes_stay m f o j; root = root }

  module _ (root : ℕ) (m : List ℕ) (sound : HoldsSoundTables kinds root m) where
    pub guarded_loose : (frame : ℕ) → loose_in after (entry_in m) frame ≡ loose_in kinds (entry_in m) frame
    guarded_loose frame =
        loose_moved kinds (entry_in m) (entry_in m) a Guarded sound.slot inside not_fixed
        (λ is. cc) (λ f i apart. refl) frame
        (λ i small. ap (λ k. level_of k == 1 && is_loose_leaf frame (entry_in m a i)) free)
        (λ i small. refl)

    guarded_links : (frame : ℕ) → links_in after (entry_in m) frame ≡ links_in kinds (entry_in m) frame
    guarded_links frame =
        let none : (e : ℕ) → (is_link_level (level_of (kind_of kinds a)) && is_link_to frame e) ≡ false =
        λ e. ap (λ k. is_link_level (level_of k) && is_link_to frame e) free in
        let last = ap count_if (none (entry_in m a 511)) in
        let moved =
        links_moved kinds (entry_in m) (entry_in m) a Guarded sound.slot inside not_fixed (λ is. cc) (λ f i apart. refl)
        frame (λ i small. none (entry_in m a i)) (λ i small. refl) in
        omega (arith, moved, last)

    pub guarded_sound : TablesInMemory kinds → loose_in kinds (entry_in m) a ≡ 0 → HoldsSoundTables after root m
    guarded_sound within none = record {
      size = sound.size ∙ ap (λ n. 4096 * n) (sym (length-set kinds a Guarded));
      levels = λ f. omega (arith, same_level f, sound.levels f);
      tables = tables_guarded kinds (entry_in m) a sound.tables inside within free none;
      root_level = same_level root ∙ sound.root_level;
      slot = fixed_kinds kinds (entry_in m) a Guarded sound.slot not_fixed;
      handler = stays 2 sound.handler;
      apart = sound.apart;
      slot_root = stays 6 sound.slot_root;
      area_root = stays 7 sound.area_root;
      slot_names = sound.slot_names;
      area_names = sound.area_names;
    }

pub guarded_described : (d : Descriptors) (root a : ℕ) (m : List ℕ) → a < length d.kinds → TablesInMemory d.kinds
    → AreDescribed d root m → kind_of d.kinds a ≡ Data → loose_in d.kinds (entry_in m) a ≡ 0
    → AreDescribed (record d { kinds = set d.kinds a Guarded }) root m
guarded_described d root a m inside within are free none = record {
  sound = guarded_sound d.kinds a inside free root m are.sound within none;
  counted = record {
    loose = λ frame small. are.counted.loose frame (omega (arith, small, length-set d.kinds a Guarded))
        ∙ sym (guarded_loose d.kinds a inside free root m are.sound frame);
    links = λ frame small. are.counted.links frame (omega (arith, small, length-set d.kinds a Guarded))
        ∙ sym (guarded_links d.kinds a inside free root m are.sound frame);
  };
}
