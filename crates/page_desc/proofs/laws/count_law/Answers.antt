use Rattle.std.proofs.Common.{◌≡◌, ℕ, ◌<◌, ◌≤◌, List, length, ap}
use Rattle.nk_bits.specs.declared.kind.Kind.{Kind}
use Rattle.nk_bits.specs.declared.kind.Kind.TheVariants.{Data}
use Rattle.nk_bits.specs.Kinds.{is_data, kind_of, level_of}
use Rattle.page_desc.proofs.CountBounds.{links_most, links_none, loose_most, loose_none}
use Rattle.page_desc.proofs.CountLaws.{links_elsewhere, links_replaced, loose_elsewhere, loose_replaced}
use Rattle.page_desc.proofs.KindChanges.{fixed_kinds, fixed_tables, links_any_kind, loose_any_kind}
use Rattle.page_desc.proofs.NewTables.{links_emptied, links_zeroed, loose_emptied, loose_zeroed}
use Rattle.page_desc.proofs.laws.count_law.Goals as goal

pub returns : goal.returns
returns c =
    let table : (kinds : List Kind) (f : ℕ) → 1 ≤ level_of (kind_of kinds f) → f < length kinds =
    c.kind_law.ensures.table_in_memory in
    let free : (kinds : List Kind) (f : ℕ) → kind_of kinds f ≡ Data → f < length kinds =
    λ kinds f is. c.kind_law.ensures.data_in_memory kinds f (ap is_data is) in
    record {
      loose_replaced = λ kinds t a b v frame fixed low small. loose_replaced kinds t a b v fixed low (table kinds a low) small frame;
      links_replaced = λ kinds t a b v frame fixed low small. links_replaced kinds t a b v fixed low (table kinds a low) small frame;
      elsewhere = λ kinds t u frame fixed agree. (loose_elsewhere kinds t u fixed agree frame, links_elsewhere kinds t u fixed agree frame);
      any_kind = λ kinds t a frame kind empty. (loose_any_kind kinds t a kind empty frame, links_any_kind kinds t a kind empty frame);
      new_table = λ kinds t a level frame fixed is most. (loose_emptied kinds t a level fixed (free kinds a is) is most frame, links_emptied kinds t a level fixed (free kinds a is) is most frame);
      old_table = λ kinds t a frame fixed low most empty slot. (loose_zeroed kinds t a fixed (table kinds a low) low most empty slot frame, links_zeroed kinds t a fixed (table kinds a low) low most empty slot frame);
      no_loose_leaf = loose_none;
      no_link = links_none;
      most = λ kinds t frame. (loose_most kinds t frame, links_most kinds t frame);
      fixed_tables = fixed_tables;
      fixed_kinds = fixed_kinds;
    }
