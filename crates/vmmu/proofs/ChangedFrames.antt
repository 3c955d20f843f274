-- One frame changes, its kind, its bytes, or both: what memory then stands for, and when its tables stay sound.
use Rattle.std.proofs.Common.{◌≡◌, ◌≢◌, ◌⊎◌, ℕ, ◌+◌, ◌*◌, ◌/◌, ◌<◌, ◌≤◌, true, false, not, ◌&&◌, List, length, arith, sym, ap, subst, ◌∙◌, inl, inr}
use Rattle.std.specs.Prelude.{if◌then◌else◌, nat_lt}
use Rattle.std.proofs.lemmas.Bool.{and_left, and_right, cases_eq, cases_lt, cond-false, false≢true, le-ltb, lt-ltb}
use Rattle.nk_bits.specs.declared.kind.Kind.{Kind}
use Rattle.nk_bits.specs.declared.kind.Kind.TheVariants.{Fixed}
use Rattle.nk_bits.specs.Kinds.{kind_of, level_of}
use Rattle.nk_bits.specs.Paging.{frame_of, is_present}
use Rattle.phys_mem.specs.Memory.{byte_at, entry_in}
use Rattle.page_desc.specs.FrameCounts.{IsSlotFixed}
use Rattle.page_desc.specs.PageTables.{HoldsSoundTables, is_handler_byte, is_unchanging, is_table, unchanging_bytes, table_entries, tables_in}
use Rattle.page_desc.specs.SoundTables.{AreTables}

-- the entries of a frame that is no table, of one that is, and past a table's last entry
pub entries_none : (kinds : List Kind) (m : List ℕ) (f i : ℕ) → is_table (kind_of kinds f) ≡ false
    → table_entries kinds m f i ≡ 0
unfolding table_entries
entries_none kinds m f i is = cond-false _ (entry_in m f i) 0 (and_left _ (nat_lt i 512) is)

pub entries_past : (kinds : List Kind) (m : List ℕ) (f i : ℕ) → nat_lt i 512 ≡ false → table_entries kinds m f i ≡ 0
unfolding table_entries
entries_past kinds m f i past = cond-false _ (entry_in m f i) 0 (and_right (is_table (kind_of kinds f)) _ past)

pub entries_at : (kinds : List Kind) (m : List ℕ) (f i : ℕ) → is_table (kind_of kinds f) ≡ true → i < 512
    → table_entries kinds m f i ≡ entry_in m f i
unfolding table_entries
entries_at kinds m f i is small = (λ j. if is j && lt-ltb i 512 small j then entry_in m f i else 0)

-- a frame of the same kind and entries
pub entries_same : (kinds after : List Kind) (m n : List ℕ) (f i : ℕ) → kind_of after f ≡ kind_of kinds f
    → (i < 512 → entry_in n f i ≡ entry_in m f i) → table_entries after n f i ≡ table_entries kinds m f i
unfolding table_entries
entries_same kinds after m n f i kind same =
    elim (cases_lt i 512) [
      | inl small ↦ (λ j. if is_table (kind j) && nat_lt i 512 then same small j else 0)
      | inr past ↦
          cond-false _ (entry_in n f i) 0 (and_right (is_table (kind_of after f)) _ (le-ltb i 512 past))
          ∙ sym (cond-false _ (entry_in m f i) 0 (and_right (is_table (kind_of kinds f)) _ (le-ltb i 512 past)))
    ]

-- the bytes of a frame that may change, and of a frame of the same kind and bytes
pub bytes_none : (kinds : List Kind) (m : List ℕ) (f o : ℕ) → is_unchanging (kind_of kinds f) ≡ false
    → unchanging_bytes kinds m f o ≡ 0
unfolding unchanging_bytes
bytes_none kinds m f o is =
    cond-false _ (byte_at m (4096 * f + o)) 0 (and_left _ (not (is_handler_byte f o)) (and_left _ (nat_lt o 4096) is))

pub bytes_same : (kinds after : List Kind) (m n : List ℕ) (f o : ℕ) → kind_of after f ≡ kind_of kinds f
    → (o < 4096 → byte_at n (4096 * f + o) ≡ byte_at m (4096 * f + o))
    → unchanging_bytes after n f o ≡ unchanging_bytes kinds m f o
unfolding unchanging_bytes
bytes_same kinds after m n f o kind same =
    elim (cases_lt o 4096) [
      | inl small ↦ (λ j. if is_unchanging (kind j) && nat_lt o 4096 && not (is_handler_byte f o) then same small j else 0)
      | inr past ↦
          cond-false _ (byte_at n (4096 * f + o)) 0 (and_left _ (not (is_handler_byte f o)) (and_right (is_unchanging (kind_of after f)) _ (le-ltb o 4096 past)))
          ∙ sym (cond-false _ (byte_at m (4096 * f + o)) 0 (and_left _ (not (is_handler_byte f o)) (and_right (is_unchanging (kind_of kinds f)) _ (le-ltb o 4096 past))))
    ]

-- in frame a alone kinds and bytes may differ, and it isn't one of those that never change
pub record IsChange (kinds after : List Kind) (m n : List ℕ) (a : ℕ) : Type 0 where
  pub kinds_length : length after ≡ length kinds
  pub length : length n ≡ length m
  pub kind : (f : ℕ) → f ≢ a → kind_of after f ≡ kind_of kinds f
  pub entry : (f i : ℕ) → f ≢ a → i < 512 → entry_in n f i ≡ entry_in m f i
  pub byte : (p : ℕ) → p / 4096 ≢ a → byte_at n p ≡ byte_at m p
  pub was : is_unchanging (kind_of kinds a) ≡ false
  pub becomes : is_unchanging (kind_of after a) ≡ false

place_in : (f o : ℕ) → o < 4096 → (4096 * f + o) / 4096 ≡ f
place_in f o small = omega (arith, small)

-- what memory stands for then
pub tables_changed : (kinds after : List Kind) (root : ℕ) (m n : List ℕ) (a : ℕ) (u : ℕ → ℕ → ℕ)
    → IsChange kinds after m n a → ((i : ℕ) → table_entries after n a i ≡ u a i)
    → ((f i : ℕ) → f ≢ a → table_entries kinds m f i ≡ u f i)
    → tables_in after root n ≡ record { kinds = after; entries = u; fixed = unchanging_bytes kinds m; root = root }
tables_changed kinds after root m n a u change here apart =
    λ j. record { kinds = after; entries = λ f i. entry f i j; fixed = λ f o. kept f o j; root = root }
  where
    entry : (f i : ℕ) → table_entries after n f i ≡ u f i
    entry f i =
        elim (cases_eq f a) [
          | inl is ↦ ap (λ g. table_entries after n g i) is ∙ here i ∙ sym (ap (λ g. u g i) is)
          | inr other ↦ entries_same kinds after m n f i (change.kind f other) (change.entry f i other) ∙ apart f i other
        ]

    kept : (f o : ℕ) → unchanging_bytes after n f o ≡ unchanging_bytes kinds m f o
    kept f o =
        elim (cases_eq f a) [
          | inl is ↦
              ap (λ g. unchanging_bytes after n g o) is ∙ bytes_none after n a o change.becomes
              ∙ sym (ap (λ g. unchanging_bytes kinds m g o) is ∙ bytes_none kinds m a o change.was)
          | inr other ↦ bytes_same kinds after m n f o (change.kind f other)
              (λ small. change.byte (4096 * f + o) (λ e. other (sym (place_in f o small) ∙ e)))
        ]

-- and its tables stay sound where the frame's are
module _ (kinds after : List Kind) (root : ℕ) (m n : List ℕ) (a : ℕ) (change : IsChange kinds after m n a)
    (holds : HoldsSoundTables kinds root m) where
  not_fixed : (f : ℕ) → kind_of kinds f ≡ Fixed → f ≢ a
  not_fixed f fixed is =
      false≢true (sym change.was ∙ ap (λ g. is_unchanging (kind_of kinds g)) (sym is) ∙ ap is_unchanging fixed)

  stays_fixed : (f : ℕ) → kind_of kinds f ≡ Fixed → kind_of after f ≡ Fixed
  stays_fixed f fixed = change.kind f (not_fixed f fixed) ∙ fixed

  directory_same : (i : ℕ) → i < 512 → entry_in n 9 i ≡ entry_in m 9 i
  directory_same i small = change.entry 9 i (not_fixed 9 holds.slot.directory) small

  slot_same : (i : ℕ) → i < 512 → entry_in n 6 i ≡ entry_in m 6 i
  slot_same i small = change.entry 6 i (not_fixed 6 holds.slot_root) small

  area_same : (i : ℕ) → i < 512 → entry_in n 7 i ≡ entry_in m 7 i
  area_same i small = change.entry 7 i (not_fixed 7 holds.area_root) small

  pub slot_changed : IsSlotFixed after (entry_in n)
  slot_changed = record {
    table = stays_fixed 8 holds.slot.table;
    directory = stays_fixed 9 holds.slot.directory;
    named = λ i small present. ap (λ e. kind_of after (frame_of e)) (directory_same i small)
        ∙ stays_fixed (frame_of (entry_in m 9 i)) (holds.slot.named i small (ap is_present (sym (directory_same i small)) ∙ present));
  }

  pub holds_changed : level_of (kind_of after a) ≤ 4 → level_of (kind_of after root) ≡ 4
      → AreTables after (entry_in n) → HoldsSoundTables after root n
  holds_changed level root_level tables = record {
    size = change.length ∙ holds.size ∙ ap (λ k. 4096 * k) (sym change.kinds_length);
    levels = λ f. elim (cases_eq f a) [
      | inl is ↦ subst (λ g. level_of (kind_of after g) ≤ 4) (sym is) level
      | inr other ↦ subst (λ k. level_of k ≤ 4) (sym (change.kind f other)) (holds.levels f)
    ];
    tables = tables;
    root_level = root_level;
    slot = slot_changed;
    handler = stays_fixed 2 holds.handler;
    apart = λ i small present names. holds.apart i small (ap is_present (sym (directory_same i small)) ∙ present)
        (ap frame_of (sym (directory_same i small)) ∙ names);
    slot_root = stays_fixed 6 holds.slot_root;
    area_root = stays_fixed 7 holds.area_root;
    slot_names = λ i small present. subst (λ e. (frame_of e ≡ 7) ⊎ (frame_of e ≡ 9)) (sym (slot_same i small))
        (holds.slot_names i small (ap is_present (sym (slot_same i small)) ∙ present));
    area_names = λ i small present. ap frame_of (area_same i small)
        ∙ holds.area_names i small (ap is_present (sym (area_same i small)) ∙ present);
  }
