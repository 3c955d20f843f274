-- An entry is written: what memory stands for then, and that its tables stay sound.
use Rattle.std.proofs.Common.{◌≡◌, ◌≢◌, ℕ, ◌+◌, ◌*◌, ◌/◌, ◌^◌, ◌<◌, ◌≤◌, true, false, ◌&&◌, ◌==◌, List, length, arith, refl, sym, ap, ◌∙◌, inl, inr}
use Rattle.std.proofs.lemmas.Bool.{and_from, and_left, and_right, cases_eq, cases_lt, cond-false, cond-true, eq-eqb, le-ltb, lt-ltb, ne_eqb}
use Rattle.std.proofs.lemmas.List.Elements.{All-weaker}
use Rattle.nk_bits.specs.declared.kind.Kind.{Kind}
use Rattle.nk_bits.specs.declared.kind.Kind.TheVariants.{Data, Code, Table, Fixed, Trap, Guarded, Hidden}
use Rattle.nk_bits.specs.Kinds.{kind_of, level_of}
use Rattle.nk_bits.specs.Paging.{replaced}
use Rattle.phys_mem.specs.Memory.{byte_at, entry_in, stores}
use Rattle.page_desc.specs.PageTables.{HoldsSoundTables, is_unchanging, is_table, table_entries, tables_in}
use Rattle.page_desc.specs.SoundTables.{AreTables}
use Rattle.vmmu.specs.TableCalls.{entry_written, memory_written}
use Rattle.vmmu.specs.AcceptedCalls.{IsWritable}
use Rattle.vmmu.proofs.ChangedFrames.{IsChange, entries_at, entries_past, holds_changed, tables_changed}
use Rattle.vmmu.proofs.LowerLaws.{LowerLaws}

-- the entries of the table that is written, and of every other
replaced_here : (t : ℕ → ℕ → ℕ) (a b c : ℕ) → replaced t a b c a b ≡ c
unfolding replaced
replaced_here t a b c = cond-true (a == a && b == b) c _ (and_from _ _ (eq-eqb a a refl) (eq-eqb b b refl))

replaced_row : (t : ℕ → ℕ → ℕ) (a b c i : ℕ) → i ≢ b → replaced t a b c a i ≡ t a i
unfolding replaced
replaced_row t a b c i apart = cond-false (a == a && i == b) c (t a i) (and_right (a == a) _ (ne_eqb i b apart))

replaced_elsewhere : (t : ℕ → ℕ → ℕ) (a b c f i : ℕ) → f ≢ a → replaced t a b c f i ≡ t f i
unfolding replaced
replaced_elsewhere t a b c f i apart = cond-false (f == a && i == b) c (t f i) (and_left _ (i == b) (ne_eqb f a apart))

-- a table is none of the frames that never change
pub table_changes : (kind : Kind) → 1 ≤ level_of kind → is_unchanging kind ≡ false
table_changes Data low = refl
table_changes Code low = absurd (omega arith)
table_changes (Table level) low = refl
table_changes Fixed low = absurd (omega arith)
table_changes Trap low = refl
table_changes Guarded low = refl
table_changes Hidden low = refl

module _ (laws : LowerLaws) (kinds : List Kind) (root frame index value : ℕ) (m : List ℕ) (holds : HoldsSoundTables kinds root m)
    (call : IsWritable (tables_in kinds root m) frame index value) (fits : value < 2 ^ 64) where
  inside : 4096 * frame + 4096 ≤ length m
  inside = omega (arith, call.inside, holds.size)

  byte_apart : (p : ℕ) → p / 4096 ≢ frame → byte_at (memory_written m frame index value) p ≡ byte_at m p
  byte_apart p apart =
      laws.memory.byte_elsewhere m (stores 8 (4096 * frame + 8 * index) value) p
      (All-weaker (λ (w : ℕ × ℕ). w.0 / 4096 ≡ frame) (λ (w : ℕ × ℕ). w.0 ≢ p) (λ w here same. apart (ap (λ q. q / 4096) (sym same) ∙ here))
      (stores 8 (4096 * frame + 8 * index) value)
      (laws.frame.within_frame 8 (4096 * frame + 8 * index) value frame (omega arith) (omega (arith, call.small))))

  stored_entry : (f i : ℕ) → i < 512
      → entry_in (memory_written m frame index value) f i ≡ replaced (entry_in m) frame index value f i
  stored_entry f i small = laws.entries.replaced m frame index value f i inside call.small fits small

  pub written_change : IsChange kinds kinds m (memory_written m frame index value) frame
  written_change = record {
    kinds_length = refl;
    length = laws.memory.length m (stores 8 (4096 * frame + 8 * index) value);
    kind = λ f apart. refl;
    entry = λ f i apart small. stored_entry f i small ∙ replaced_elsewhere (entry_in m) frame index value f i apart;
    byte = byte_apart;
    was = table_changes (kind_of kinds frame) call.table;
    becomes = table_changes (kind_of kinds frame) call.table;
  }

  its_table : is_table (kind_of kinds frame) ≡ true
  its_table = lt-ltb 0 (level_of (kind_of kinds frame)) call.table

  new_entry : (i : ℕ) → table_entries kinds (memory_written m frame index value) frame i
      ≡ replaced (table_entries kinds m) frame index value frame i
  new_entry i =
      elim (cases_eq i index) [
        | inl is ↦
            ap (table_entries kinds (memory_written m frame index value) frame) is
            ∙ entries_at kinds (memory_written m frame index value) frame index its_table call.small
            ∙ stored_entry frame index call.small ∙ replaced_here (entry_in m) frame index value
            ∙ sym (ap (replaced (table_entries kinds m) frame index value frame) is ∙ replaced_here (table_entries kinds m) frame index value)
        | inr apart ↦ elim (cases_lt i 512) [
          | inl small ↦
              entries_at kinds (memory_written m frame index value) frame i its_table small
              ∙ stored_entry frame i small ∙ replaced_row (entry_in m) frame index value i apart
              ∙ sym (replaced_row (table_entries kinds m) frame index value i apart ∙ entries_at kinds m frame i its_table small)
          | inr past ↦
              entries_past kinds (memory_written m frame index value) frame i (le-ltb i 512 past)
              ∙ sym (replaced_row (table_entries kinds m) frame index value i apart ∙ entries_past kinds m frame i (le-ltb i 512 past))
        ]
      ]

  written_tables : AreTables kinds (entry_in (memory_written m frame index value))
  written_tables =
      laws.sound.elsewhere kinds (replaced (entry_in m) frame index value) (entry_in (memory_written m frame index value))
      (laws.sound.replaced kinds (entry_in m) frame index value holds.tables
      (laws.value.lawful kinds (level_of (kind_of kinds frame)) index value call.table (holds.levels frame) call.other call.admitted))
      (λ f i small table. stored_entry f i small)

  pub written_stands : tables_in kinds root (memory_written m frame index value)
      ≡ entry_written (tables_in kinds root m) frame index value
  written_stands =
      tables_changed kinds kinds root m (memory_written m frame index value) frame (replaced (table_entries kinds m) frame index value) written_change new_entry
      (λ f i apart. sym (replaced_elsewhere (table_entries kinds m) frame index value f i apart))

  pub written_holds : HoldsSoundTables kinds root (memory_written m frame index value)
  written_holds =
      holds_changed kinds kinds root m (memory_written m frame index value) frame written_change holds (holds.levels frame) holds.root_level written_tables
