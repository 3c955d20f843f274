-- A table is declared: what memory stands for then, that its tables stay sound, and that its counts are the carried ones.
use Rattle.std.proofs.Common.{◌≡◌, ◌≢◌, ℕ, ◌+◌, ◌*◌, ◌/◌, ◌≤◌, ◌==◌, List, length, set, arith, refl, sym, ap, ◌∙◌, inl, inr, get_or-set_same, get_or-set_other, length-set}
use Rattle.std.specs.Prelude.{if◌then◌else◌}
use Rattle.std.proofs.lemmas.Bool.{and_right, cases_lt, cond-false, cond-true, eq-eqb, lt-ltb, le-ltb, ne_eqb}
use Rattle.std.proofs.lemmas.List.Elements.{All-weaker}
use Rattle.nk_bits.specs.declared.kind.Kind.{Kind}
use Rattle.nk_bits.specs.declared.kind.Kind.TheVariants.{Hidden, Table}
use Rattle.nk_bits.specs.Kinds.{kind_of, level_of}
use Rattle.nk_bits.specs.Paging.{emptied, is_slot_entry, slot_value}
use Rattle.phys_mem.specs.Memory.{byte_at, entry_in, frame_zeroed, stores}
use Rattle.page_desc.specs.FrameDescriptors.{last_value}
use Rattle.page_desc.specs.PageTables.{HoldsSoundTables, is_unchanging, is_table, table_entries, tables_in}
use Rattle.page_desc.specs.SoundTables.{AreTables}
use Rattle.vmmu.specs.TableCalls.{declared, memory_declared}
use Rattle.vmmu.specs.AcceptedCalls.{IsDeclarable}
use Rattle.vmmu.proofs.ChangedFrames.{IsChange, entries_at, entries_past, holds_changed, tables_changed}
use Rattle.vmmu.proofs.LowerLaws.{LowerLaws}

-- the entries of a new table
emptied_here : (t : ℕ → ℕ → ℕ) (a level i : ℕ) → emptied t a level a i ≡ (if is_slot_entry level i then slot_value else 0)
unfolding emptied
emptied_here t a level i = cond-true (a == a) _ (t a i) (eq-eqb a a refl)

emptied_elsewhere : (t : ℕ → ℕ → ℕ) (a level f i : ℕ) → f ≢ a → emptied t a level f i ≡ t f i
unfolding emptied
emptied_elsewhere t a level f i apart = cond-false (f == a) _ (t f i) (ne_eqb f a apart)

emptied_past : (t : ℕ → ℕ → ℕ) (a level i : ℕ) → 512 ≤ i → emptied t a level a i ≡ 0
emptied_past t a level i past =
    emptied_here t a level i
    ∙ cond-false (is_slot_entry level i) slot_value 0 (and_right (level == 4) (i == 511) (ne_eqb i 511 (λ is. absurd (omega (arith, past, is)))))

module _ (laws : LowerLaws) (kinds : List Kind) (root level frame : ℕ) (m : List ℕ) (holds : HoldsSoundTables kinds root m)
    (call : IsDeclarable (tables_in kinds root m) level frame) where
  inside : 4096 * frame + 4096 ≤ length m
  inside = omega (arith, call.inside, holds.size)

  byte_apart : (p : ℕ) → p / 4096 ≢ frame → byte_at (memory_declared m level frame) p ≡ byte_at m p
  byte_apart p apart =
      laws.memory.byte_elsewhere (frame_zeroed m frame) (stores 8 (4096 * frame + 8 * 511) (last_value level)) p
      (All-weaker (λ (w : ℕ × ℕ). w.0 / 4096 ≡ frame) (λ (w : ℕ × ℕ). w.0 ≢ p) (λ w here same. apart (ap (λ q. q / 4096) (sym same) ∙ here))
      (stores 8 (4096 * frame + 8 * 511) (last_value level))
      (laws.frame.within_frame 8 (4096 * frame + 8 * 511) (last_value level) frame (omega arith) (omega arith)))
      ∙ laws.frame.byte_zeroed_elsewhere m frame p inside apart

  is_new : kind_of (set kinds frame (Table level)) frame ≡ Table level
  is_new = get_or-set_same kinds frame (Table level) Hidden call.inside

  pub declared_change : IsChange kinds (set kinds frame (Table level)) m (memory_declared m level frame) frame
  declared_change = record {
    kinds_length = length-set kinds frame (Table level);
    length = laws.memory.length (frame_zeroed m frame) (stores 8 (4096 * frame + 8 * 511) (last_value level))
        ∙ laws.frame.length_zeroed m frame inside;
    kind = λ f apart. get_or-set_other kinds frame f (Table level) Hidden apart;
    entry = λ f i apart small. laws.entries.emptied m frame level f i inside small
        ∙ emptied_elsewhere (entry_in m) frame level f i apart;
    byte = byte_apart;
    was = ap is_unchanging call.free;
    becomes = ap is_unchanging is_new;
  }

  new_entry : (i : ℕ) → table_entries (set kinds frame (Table level)) (memory_declared m level frame) frame i
      ≡ emptied (table_entries kinds m) frame level frame i
  new_entry i =
      elim (cases_lt i 512) [
        | inl small ↦
            entries_at (set kinds frame (Table level)) (memory_declared m level frame) frame i (ap is_table is_new ∙ lt-ltb 0 level call.least) small
            ∙ laws.entries.emptied m frame level frame i inside small
            ∙ emptied_here (entry_in m) frame level i ∙ sym (emptied_here (table_entries kinds m) frame level i)
        | inr past ↦
            entries_past (set kinds frame (Table level)) (memory_declared m level frame) frame i (le-ltb i 512 past)
            ∙ sym (emptied_past (table_entries kinds m) frame level i past)
      ]

  declared_tables : AreTables (set kinds frame (Table level)) (entry_in (memory_declared m level frame))
  declared_tables =
      laws.sound.elsewhere (set kinds frame (Table level)) (emptied (entry_in m) frame level) (entry_in (memory_declared m level frame))
      (laws.sound.new_table kinds (entry_in m) frame level holds.tables call.free (sym (laws.counts.loose kinds root m frame holds) ∙ call.none))
      (λ f i small table. laws.entries.emptied m frame level f i inside small)

  root_apart : root ≢ frame
  root_apart is = absurd (omega (arith, holds.root_level, ap (λ f. level_of (kind_of kinds f)) is, ap level_of call.free))

  pub declared_stands : tables_in (set kinds frame (Table level)) root (memory_declared m level frame)
      ≡ declared (tables_in kinds root m) level frame
  declared_stands =
      tables_changed kinds (set kinds frame (Table level)) root m (memory_declared m level frame) frame (emptied (table_entries kinds m) frame level) declared_change new_entry
      (λ f i apart. sym (emptied_elsewhere (table_entries kinds m) frame level f i apart))

  pub declared_holds : HoldsSoundTables (set kinds frame (Table level)) root (memory_declared m level frame)
  declared_holds =
      holds_changed kinds (set kinds frame (Table level)) root m (memory_declared m level frame) frame declared_change holds
      (omega (arith, ap level_of is_new, call.most)) (ap level_of (declared_change.kind root root_apart) ∙ holds.root_level) declared_tables
