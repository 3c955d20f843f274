-- Calls on page tables that are not admitted. Each lemma is named by what it refuses.
use Rattle.std.proofs.Common.{◌≡◌, ◌≢◌, ◌<◌, ◌≤◌, ℕ, true, false, length, None, sym, ◌∙◌, ap, arith}
use Rattle.std.proofs.lemmas.Bool.{false≢true}
use Rattle.nk_bits.specs.declared.kind.Kind.TheVariants.{Code, Data, Guarded, Table}
use Rattle.nk_bits.specs.Kinds.{is_data, kind_of, level_of}
use Rattle.nk_bits.specs.Paging.{is_present, is_slot_entry}
use Rattle.page_desc.specs.PageTables.{Tables, links_of, loose_of}
use Rattle.table_rules.specs.ValueRules.{value_rule}
use Rattle.vmmu.specs.AcceptedCalls.{IsDeclarable, IsRemovable, IsRoot, IsWritable}
use Rattle.vmmu.specs.TableCalls.{level_at}

module _ (t : Tables) (level frame : ℕ) (is : IsDeclarable t level frame) where
  a_frame_outside_memory_is_not_declared : length t.kinds ≤ frame → ⊥
  a_frame_outside_memory_is_not_declared outside = let inside = is.inside in omega (arith, outside, inside)

  level_0_is_not_declared : level ≡ 0 → ⊥
  level_0_is_not_declared zero = let least = is.least in omega (arith, zero, least)

  level_5_is_not_declared : level ≡ 5 → ⊥
  level_5_is_not_declared five = let most = is.most in omega (arith, five, most)

  a_table_is_not_declared_anew : (old : ℕ) → kind_of t.kinds frame ≡ Table old → ⊥
  a_table_is_not_declared_anew old table = false≢true (ap is_data (sym table ∙ is.free))

  code_is_not_declared : kind_of t.kinds frame ≡ Code → ⊥
  code_is_not_declared code = false≢true (ap is_data (sym code ∙ is.free))

  protected_memory_is_not_declared : kind_of t.kinds frame ≡ Guarded → ⊥
  protected_memory_is_not_declared guarded = false≢true (ap is_data (sym guarded ∙ is.free))

  a_frame_with_a_loose_leaf_is_not_declared : 0 < loose_of t frame → ⊥
  a_frame_with_a_loose_leaf_is_not_declared some = let none = is.none in omega (arith, some, none)

module _ (t : Tables) (frame index value : ℕ) (is : IsWritable t frame index value) where
  an_entry_outside_memory_is_not_written : length t.kinds ≤ frame → ⊥
  an_entry_outside_memory_is_not_written outside = let inside = is.inside in omega (arith, outside, inside)

  an_entry_of_data_is_not_written : kind_of t.kinds frame ≡ Data → ⊥
  an_entry_of_data_is_not_written of_data =
      let none : level_at t frame ≡ 0 = ap level_of of_data in let table = is.table in omega (arith, none, table)

  entry_512_is_not_written : index ≡ 512 → ⊥
  entry_512_is_not_written past = let small = is.small in omega (arith, past, small)

  the_kernel_slot's_entry_is_not_written : is_slot_entry (level_at t frame) index ≡ true → ⊥
  the_kernel_slot's_entry_is_not_written slot = false≢true (sym is.other ∙ slot)

  a_value_that_breaks_a_rule_is_not_written : value_rule t.kinds (level_at t frame) value ≢ None → ⊥
  a_value_that_breaks_a_rule_is_not_written broken = broken is.admitted

module _ (t : Tables) (frame : ℕ) (is : IsRemovable t frame) where
  a_frame_outside_memory_is_not_removed : length t.kinds ≤ frame → ⊥
  a_frame_outside_memory_is_not_removed outside = let inside = is.inside in omega (arith, outside, inside)

  data_is_not_removed : kind_of t.kinds frame ≡ Data → ⊥
  data_is_not_removed of_data =
      let none : level_at t frame ≡ 0 = ap level_of of_data in let table = is.table in omega (arith, none, table)

  a_table_that_a_link_names_is_not_removed : 0 < links_of t frame → ⊥
  a_table_that_a_link_names_is_not_removed some = let none = is.unlinked in omega (arith, some, none)

  the_root_is_not_removed : frame ≡ t.root → ⊥
  the_root_is_not_removed root = is.apart root

  a_table_with_an_entry_is_not_removed : (i : ℕ) → i < 512 → is_slot_entry (level_at t frame) i ≡ false →
      is_present (t.entries frame i) ≡ true → ⊥
  a_table_with_an_entry_is_not_removed i small other present = false≢true (sym (is.empty i small other) ∙ present)

module _ (t : Tables) (frame : ℕ) (is : IsRoot t frame) where
  a_frame_outside_memory_is_no_root : length t.kinds ≤ frame → ⊥
  a_frame_outside_memory_is_no_root outside = let inside = is.inside in omega (arith, outside, inside)

  a_table_of_level_3_is_no_root : kind_of t.kinds frame ≡ Table 3 → ⊥
  a_table_of_level_3_is_no_root three =
      let here : level_at t frame ≡ 3 = ap level_of three in let level = is.level in omega (arith, here, level)

  data_is_no_root : kind_of t.kinds frame ≡ Data → ⊥
  data_is_no_root of_data = let none : level_at t frame ≡ 0 = ap level_of of_data in let level = is.level in omega (arith, none, level)
