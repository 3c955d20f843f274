-- Calls on page tables that break no rule.
use Rattle.std.specs.Prelude.{◌≡◌, ◌<◌, ◌^◌, ℕ, List, None}
use Rattle.nk_bits.specs.declared.kind.Kind.{Kind}
use Rattle.page_desc.specs.PageTables.{HoldsSoundTables, Tables, tables_in}
use Rattle.vmmu.specs.AcceptedCalls.{IsDeclarable, IsRemovable, IsRoot, IsWritable}
use Rattle.vmmu.specs.TableCalls.{declare_rule, declared, entry_rule, entry_written, memory_declared, memory_removed, memory_written, remove_rule, removed, root_loaded, root_rule}

-- what the call leaves of memory and tables
pub record TableCallsLaws : Type 0 where
  pub declared : (kinds : List Kind) (root level frame : ℕ) (m : List ℕ) → HoldsSoundTables kinds root m
      → declare_rule (tables_in kinds root m) level frame ≡ None
      → let after : Tables = declared (tables_in kinds root m) level frame in
      (tables_in after.kinds after.root (memory_declared m level frame) ≡ after)
      × HoldsSoundTables after.kinds after.root (memory_declared m level frame)
  pub written : (kinds : List Kind) (root frame index value : ℕ) (m : List ℕ) → HoldsSoundTables kinds root m
      → value < 2 ^ 64 → entry_rule (tables_in kinds root m) frame index value ≡ None
      → let after : Tables = entry_written (tables_in kinds root m) frame index value in
      (tables_in after.kinds after.root (memory_written m frame index value) ≡ after)
      × HoldsSoundTables after.kinds after.root (memory_written m frame index value)
  pub removed : (kinds : List Kind) (root frame : ℕ) (m : List ℕ) → HoldsSoundTables kinds root m
      → remove_rule (tables_in kinds root m) frame ≡ None
      → let after : Tables = removed (tables_in kinds root m) frame in
      (tables_in after.kinds after.root (memory_removed m frame) ≡ after)
      × HoldsSoundTables after.kinds after.root (memory_removed m frame)
  pub loaded : (kinds : List Kind) (root frame : ℕ) (m : List ℕ) → HoldsSoundTables kinds root m
      → root_rule (tables_in kinds root m) frame ≡ None
      → let after : Tables = root_loaded (tables_in kinds root m) frame in
      (tables_in after.kinds after.root m ≡ after) × HoldsSoundTables after.kinds after.root m

-- what the call is
pub record AcceptedLaws : Type 0 where
  pub declared : (t : Tables) (level frame : ℕ) → declare_rule t level frame ≡ None → IsDeclarable t level frame
  pub written : (t : Tables) (frame index value : ℕ) → entry_rule t frame index value ≡ None
      → IsWritable t frame index value
  pub removed : (t : Tables) (frame : ℕ) → remove_rule t frame ≡ None → IsRemovable t frame
  pub loaded : (t : Tables) (frame : ℕ) → root_rule t frame ≡ None → IsRoot t frame
