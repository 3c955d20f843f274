-- What a call on page tables is that breaks no rule.
use Rattle.std.specs.Prelude.{◌≡◌, ◌≢◌, ◌<◌, ◌≤◌, ℕ, false, length, None}
use Rattle.nk_bits.specs.declared.kind.Kind.TheVariants.{Data}
use Rattle.nk_bits.specs.Kinds.{kind_of}
use Rattle.nk_bits.specs.Paging.{is_present, is_slot_entry}
use Rattle.page_desc.specs.PageTables.{Tables, links_of, loose_of}
use Rattle.table_rules.specs.ValueRules.{value_rule}
use Rattle.vmmu.specs.TableCalls.{level_at}

pub record IsDeclarable (t : Tables) (level frame : ℕ) : Type 0 where
  pub inside : frame < length t.kinds
  pub least : 1 ≤ level
  pub most : level ≤ 4
  pub free : kind_of t.kinds frame ≡ Data
  pub none : loose_of t frame ≡ 0

pub record IsWritable (t : Tables) (frame index value : ℕ) : Type 0 where
  pub inside : frame < length t.kinds
  pub table : 1 ≤ level_at t frame
  pub small : index < 512
  pub other : is_slot_entry (level_at t frame) index ≡ false
  pub admitted : value_rule t.kinds (level_at t frame) value ≡ None

pub record IsRemovable (t : Tables) (frame : ℕ) : Type 0 where
  pub inside : frame < length t.kinds
  pub table : 1 ≤ level_at t frame
  pub unlinked : links_of t frame ≡ 0
  pub apart : frame ≢ t.root
  pub empty : (i : ℕ) → i < 512 → is_slot_entry (level_at t frame) i ≡ false → is_present (t.entries frame i) ≡ false

pub record IsRoot (t : Tables) (frame : ℕ) : Type 0 where
  pub inside : frame < length t.kinds
  pub level : level_at t frame ≡ 4
