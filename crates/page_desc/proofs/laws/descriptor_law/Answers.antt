use Rattle.std.proofs.Common.{◌≡◌, ℕ, ◌<◌, ◌≤◌, List, length, ap}
use Rattle.nk_bits.specs.declared.kind.Kind.{Kind}
use Rattle.nk_bits.specs.declared.kind.Kind.TheVariants.{Data}
use Rattle.nk_bits.specs.Kinds.{is_data, kind_of, level_of}
use Rattle.page_desc.proofs.DescriptorLaws.{absent_replaceable, counted_any_kind, counted_elsewhere, counted_replaced, counted_same, table_replaceable}
use Rattle.page_desc.proofs.TableDescriptors.{counted_new_table, counted_old_table}
use Rattle.page_desc.proofs.laws.descriptor_law.Goals as goal

pub returns : goal.returns
returns c =
    let table : (kinds : List Kind) (f : ℕ) → 1 ≤ level_of (kind_of kinds f) → f < length kinds =
    c.kind_law.ensures.table_in_memory in
    let free : (kinds : List Kind) (f : ℕ) → kind_of kinds f ≡ Data → f < length kinds =
    λ kinds f is. c.kind_law.ensures.data_in_memory kinds f (ap is_data is) in
    record {
      replaceable = λ d t a b v counted fixed most low small. table_replaceable d t a b v counted fixed most (table d.kinds a low) low small;
      absent_replaceable = absent_replaceable;
      replaced = λ before after t a b v counted fixed low small change. counted_replaced before after t a b v counted fixed (table before.kinds a low) low small change;
      same = counted_same;
      elsewhere = counted_elsewhere;
      any_kind = counted_any_kind;
      new_table = λ before after t a level counted fixed is most change. counted_new_table before after t a level counted fixed (free before.kinds a is) is most change;
      old_table = λ before after t a counted fixed low most empty slot change. counted_old_table before after t a counted fixed (table before.kinds a low) low most empty slot change;
    }
