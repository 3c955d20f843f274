-- Page tables in memory, and what they stand for.
use Rattle.std.specs.Prelude.{◌≡◌, ◌≢◌, All, ℕ, ◌+◌, ◌*◌, ◌^◌, ◌<◌, ◌≤◌, true, List, length, slice_set}
use Rattle.phys_mem.specs.Memory.{entry_in, frame_zeroed, stored, stores}
use Rattle.nk_bits.specs.declared.kind.Kind.{Kind}
use Rattle.nk_bits.specs.declared.kind.Kind.TheVariants.{Data, Fixed, Guarded}
use Rattle.nk_bits.specs.Kinds.{kind_of}
use Rattle.nk_bits.specs.Paging.{emptied, replaced, walk, zeroed}
use Rattle.page_desc.specs.FrameCounts.{links_in, loose_in}
use Rattle.page_desc.specs.FrameDescriptors.{Descriptors, last_value}
use Rattle.page_desc.specs.PageTables.{AreDescribed, HoldsSoundTables, is_table, is_unguarded, links_of, loose_of, tables_in, value_in}

-- the tables of a memory that is changed
pub record MemoryTablesLaws : Type 0 where
  pub replaced : (m : List ℕ) (a b v f i : ℕ) → 4096 * a + 4096 ≤ length m → b < 512 → v < 2 ^ 64 → i < 512
      → entry_in (stored m (stores 8 (4096 * a + 8 * b) v)) f i ≡ replaced (entry_in m) a b v f i
  pub zeroed : (m : List ℕ) (a f i : ℕ) → 4096 * a + 4096 ≤ length m → i < 512
      → entry_in (frame_zeroed m a) f i ≡ zeroed (entry_in m) a f i
  pub emptied : (m : List ℕ) (a level f i : ℕ) → 4096 * a + 4096 ≤ length m → i < 512
      → entry_in (stored (frame_zeroed m a) (stores 8 (4096 * a + 8 * 511) (last_value level))) f i
      ≡ emptied (entry_in m) a level f i

-- what sound tables stand for, and stores elsewhere
pub record PageTablesLaws : Type 0 where
  pub loose : (kinds : List Kind) (root : ℕ) (m : List ℕ) (frame : ℕ) → HoldsSoundTables kinds root m
      → loose_of (tables_in kinds root m) frame ≡ loose_in kinds (entry_in m) frame
  pub links : (kinds : List Kind) (root : ℕ) (m : List ℕ) (frame : ℕ) → HoldsSoundTables kinds root m
      → links_of (tables_in kinds root m) frame ≡ links_in kinds (entry_in m) frame
  pub of_table : (kinds : List Kind) (root : ℕ) (m : List ℕ) (f i : ℕ) → i < 512
      → is_table (kind_of kinds f) ≡ true → value_in (tables_in kinds root m) f i ≡ entry_in m f i
  pub of_fixed : (kinds : List Kind) (root : ℕ) (m : List ℕ) (f i : ℕ) → i < 512
      → kind_of kinds f ≡ Fixed → f ≢ 2 → value_in (tables_in kinds root m) f i ≡ entry_in m f i
  pub stays : (kinds : List Kind) (root : ℕ) (m : List ℕ) (ws : List (ℕ × ℕ))
      → All (λ w. is_unguarded kinds w.0 ≡ true) ws → tables_in kinds root (stored m ws) ≡ tables_in kinds root m
  pub sound : (kinds : List Kind) (root : ℕ) (m : List ℕ) (ws : List (ℕ × ℕ)) → HoldsSoundTables kinds root m
      → All (λ w. is_unguarded kinds w.0 ≡ true) ws → HoldsSoundTables kinds root (stored m ws)
  pub described : (d : Descriptors) (root : ℕ) (m : List ℕ) (ws : List (ℕ × ℕ)) → AreDescribed d root m
      → All (λ w. is_unguarded d.kinds w.0 ≡ true) ws → AreDescribed d root (stored m ws)

-- the walk over what sound tables stand for
pub record RecordWalkLaws : Type 0 where
  pub same : (kinds : List Kind) (root page : ℕ) (m : List ℕ) → HoldsSoundTables kinds root m
      → walk (value_in (tables_in kinds root m)) (length kinds) root page ≡ walk (entry_in m) (length kinds) root page

-- a frame of data without a loose leaf becomes guarded
pub record GuardedLaws : Type 0 where
  pub sound : (kinds : List Kind) (root f : ℕ) (m : List ℕ) → HoldsSoundTables kinds root m
      → kind_of kinds f ≡ Data → loose_in kinds (entry_in m) f ≡ 0 → HoldsSoundTables (slice_set kinds f Guarded) root m
  pub tables : (kinds : List Kind) (root f : ℕ) (m : List ℕ) → HoldsSoundTables kinds root m → kind_of kinds f ≡ Data
      → tables_in (slice_set kinds f Guarded) root m
      ≡ record (tables_in kinds root m) { kinds = slice_set kinds f Guarded }
  pub loose : (kinds : List Kind) (root f frame : ℕ) (m : List ℕ) → HoldsSoundTables kinds root m
      → kind_of kinds f ≡ Data
      → loose_in (slice_set kinds f Guarded) (entry_in m) frame ≡ loose_in kinds (entry_in m) frame
  pub described : (d : Descriptors) (root f : ℕ) (m : List ℕ) → AreDescribed d root m → kind_of d.kinds f ≡ Data
      → loose_in d.kinds (entry_in m) f ≡ 0 → AreDescribed (record d { kinds = slice_set d.kinds f Guarded }) root m
