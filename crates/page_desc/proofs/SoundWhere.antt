-- Sound tables in another memory of that size, which has the same entries in page tables and in the fixed frames but 2.
use Rattle.std.proofs.Common.{◌≡◌, ◌≢◌, ◌⊎◌, ℕ, ◌<◌, true, List, length, arith, sym, ap, subst, ◌∙◌}
use Rattle.phys_mem.specs.Memory.{entry_in}
use Rattle.nk_bits.specs.declared.kind.Kind.{Kind}
use Rattle.nk_bits.specs.declared.kind.Kind.TheVariants.{Fixed}
use Rattle.nk_bits.specs.Kinds.{kind_of}
use Rattle.nk_bits.specs.Paging.{frame_of, is_present}
use Rattle.page_desc.specs.PageTables.{HoldsSoundTables, is_table}
use Rattle.page_desc.proofs.KindChanges.{fixed_tables}
use Rattle.page_desc.proofs.PageTableValues.{table_at}
use Rattle.page_desc.proofs.TablesKept.{tables_elsewhere}

module _ (kinds : List Kind) (root : ℕ) (m n : List ℕ) (size : length n ≡ length m)
    (table : (f i : ℕ) → i < 512 → is_table (kind_of kinds f) ≡ true → entry_in n f i ≡ entry_in m f i)
    (fixed : (f i : ℕ) → i < 512 → kind_of kinds f ≡ Fixed → f ≢ 2 → entry_in n f i ≡ entry_in m f i)
    (sound : HoldsSoundTables kinds root m) where
  directory_stays : (i : ℕ) → i < 512 → entry_in n 9 i ≡ entry_in m 9 i
  directory_stays i small = fixed 9 i small sound.slot.directory (λ two. absurd (omega (arith, two)))

  slot_stays : (i : ℕ) → i < 512 → entry_in n 6 i ≡ entry_in m 6 i
  slot_stays i small = fixed 6 i small sound.slot_root (λ two. absurd (omega (arith, two)))

  area_stays : (i : ℕ) → i < 512 → entry_in n 7 i ≡ entry_in m 7 i
  area_stays i small = fixed 7 i small sound.area_root (λ two. absurd (omega (arith, two)))

  pub sound_where : HoldsSoundTables kinds root n
  sound_where = record {
    size = size ∙ sound.size;
    levels = sound.levels;
    tables =
        tables_elsewhere kinds (entry_in m) (entry_in n) sound.tables
        (λ f i small level. table f i small (table_at kinds f level));
    root_level = sound.root_level;
    slot = fixed_tables kinds (entry_in m) (entry_in n) sound.slot directory_stays;
    handler = sound.handler;
    apart = λ i small present two.
        sound.apart i small (sym (ap is_present (directory_stays i small)) ∙ present)
        (sym (ap frame_of (directory_stays i small)) ∙ two);
    slot_root = sound.slot_root;
    area_root = sound.area_root;
    slot_names = λ i small present.
        subst (λ e. (frame_of e ≡ 7) ⊎ (frame_of e ≡ 9)) (sym (slot_stays i small))
        (sound.slot_names i small (sym (ap is_present (slot_stays i small)) ∙ present));
    area_names = λ i small present.
        ap frame_of (area_stays i small)
        ∙ sound.area_names i small (sym (ap is_present (area_stays i small)) ∙ present);
  }
