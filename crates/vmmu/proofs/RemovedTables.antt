-- A table is removed: what memory stands for then, and that its tables stay sound.
use Rattle.std.proofs.Common.{◌≡◌, ◌≢◌, ℕ, ◌+◌, ◌*◌, ◌≤◌, ◌==◌, List, length, set, arith, refl, sym, ap, ◌∙◌, get_or-set_same, get_or-set_other, length-set}
use Rattle.std.proofs.lemmas.Bool.{cond-false, cond-true, eq-eqb, ne_eqb}
use Rattle.nk_bits.specs.declared.kind.Kind.{Kind}
use Rattle.nk_bits.specs.declared.kind.Kind.TheVariants.{Data, Hidden}
use Rattle.nk_bits.specs.Kinds.{kind_of, level_of}
use Rattle.nk_bits.specs.Paging.{zeroed}
use Rattle.phys_mem.specs.Memory.{entry_in}
use Rattle.page_desc.specs.PageTables.{HoldsSoundTables, is_unchanging, is_table, table_entries, tables_in}
use Rattle.page_desc.specs.SoundTables.{AreTables}
use Rattle.vmmu.specs.TableCalls.{memory_removed, removed}
use Rattle.vmmu.specs.AcceptedCalls.{IsRemovable}
use Rattle.vmmu.proofs.ChangedFrames.{IsChange, entries_none, holds_changed, tables_changed}
use Rattle.vmmu.proofs.LowerLaws.{LowerLaws}
use Rattle.vmmu.proofs.WrittenEntries.{table_changes}

-- the entries of the frame that held the table, and of every other
zeroed_here : (t : ℕ → ℕ → ℕ) (a i : ℕ) → zeroed t a a i ≡ 0
unfolding zeroed
zeroed_here t a i = cond-true (a == a) 0 (t a i) (eq-eqb a a refl)

zeroed_elsewhere : (t : ℕ → ℕ → ℕ) (a f i : ℕ) → f ≢ a → zeroed t a f i ≡ t f i
unfolding zeroed
zeroed_elsewhere t a f i apart = cond-false (f == a) 0 (t f i) (ne_eqb f a apart)

module _ (laws : LowerLaws) (kinds : List Kind) (root frame : ℕ) (m : List ℕ) (holds : HoldsSoundTables kinds root m)
    (call : IsRemovable (tables_in kinds root m) frame) where
  inside : 4096 * frame + 4096 ≤ length m
  inside = omega (arith, call.inside, holds.size)

  is_data : kind_of (set kinds frame Data) frame ≡ Data
  is_data = get_or-set_same kinds frame Data Hidden call.inside

  pub removed_change : IsChange kinds (set kinds frame Data) m (memory_removed m frame) frame
  removed_change = record {
    kinds_length = length-set kinds frame Data;
    length = laws.frame.length_zeroed m frame inside;
    kind = λ f apart. get_or-set_other kinds frame f Data Hidden apart;
    entry = λ f i apart small. laws.entries.zeroed m frame f i inside small ∙ zeroed_elsewhere (entry_in m) frame f i apart;
    byte = λ p apart. laws.frame.byte_zeroed_elsewhere m frame p inside apart;
    was = table_changes (kind_of kinds frame) call.table;
    becomes = ap is_unchanging is_data;
  }

  removed_tables : AreTables (set kinds frame Data) (entry_in (memory_removed m frame))
  removed_tables =
      laws.sound.elsewhere (set kinds frame Data) (zeroed (entry_in m) frame) (entry_in (memory_removed m frame))
      (laws.sound.old_table kinds (entry_in m) frame holds.tables call.table (sym (laws.counts.links kinds root m frame holds) ∙ call.unlinked))
      (λ f i small table. laws.entries.zeroed m frame f i inside small)

  pub removed_stands : tables_in (set kinds frame Data) root (memory_removed m frame)
      ≡ removed (tables_in kinds root m) frame
  removed_stands =
      tables_changed kinds (set kinds frame Data) root m (memory_removed m frame) frame (zeroed (table_entries kinds m) frame) removed_change
      (λ i. entries_none (set kinds frame Data) (memory_removed m frame) frame i (ap is_table is_data) ∙ sym (zeroed_here (table_entries kinds m) frame i))
      (λ f i apart. sym (zeroed_elsewhere (table_entries kinds m) frame f i apart))

  pub removed_holds : HoldsSoundTables (set kinds frame Data) root (memory_removed m frame)
  removed_holds =
      holds_changed kinds (set kinds frame Data) root m (memory_removed m frame) frame removed_change holds
      (omega (arith, ap level_of is_data)) (ap level_of (removed_change.kind root (λ is. call.apart (sym is))) ∙ holds.root_level) removed_tables
