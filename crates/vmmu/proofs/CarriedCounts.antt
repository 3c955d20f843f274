-- After each call the descriptors are those of memory's tables, whose counts were carried on.
use Rattle.std.proofs.Common.{◌≡◌, ℕ, ◌+◌, ◌*◌, ◌^◌, ◌<◌, ◌≤◌, false, List, length, set, arith, refl, sym, ap, subst, ◌∙◌}
use Rattle.std.proofs.lemmas.Bool.{lt-ltb}
use Rattle.nk_bits.specs.declared.kind.Kind.TheVariants.{Data, Table}
use Rattle.nk_bits.specs.Kinds.{kind_of, level_of}
use Rattle.nk_bits.specs.Paging.{emptied, is_present, is_slot_entry, replaced, slot_value, zeroed}
use Rattle.phys_mem.specs.Memory.{entry_in}
use Rattle.page_desc.specs.CountLaws.{DescriptorLaws}
use Rattle.page_desc.specs.FrameDescriptors.{Descriptors, IsReplaced, last_value}
use Rattle.page_desc.specs.PageTableLaws.{MemoryTablesLaws}
use Rattle.page_desc.specs.PageTables.{AreDescribed, HoldsSoundTables, tables_in}
use Rattle.vmmu.specs.TableCalls.{memory_declared, memory_removed, memory_written}
use Rattle.vmmu.specs.AcceptedCalls.{IsDeclarable, IsRemovable, IsWritable}
use Rattle.vmmu.proofs.ChangedFrames.{entries_at}

-- an entry that is 0 isn't present
pub absent_zero : is_present 0 ≡ false
unfolding is_present
absent_zero = refl

module _ (laws : DescriptorLaws) (entries : MemoryTablesLaws) (before : Descriptors) (root : ℕ) (m : List ℕ)
    (books : AreDescribed before root m) where
  frame_inside : (frame : ℕ) → frame < length before.kinds → 4096 * frame + 4096 ≤ length m
  frame_inside frame small = omega (arith, books.sound.size, small)

  pub declared_described : (after : Descriptors) (level frame : ℕ) → IsDeclarable (tables_in before.kinds root m) level frame
      → IsReplaced level 0 (last_value level) (record before { kinds = set before.kinds frame (Table level) }) after
      → HoldsSoundTables (set before.kinds frame (Table level)) root (memory_declared m level frame)
      → AreDescribed after root (memory_declared m level frame)
  declared_described after level frame call change holds = record {
    sound = subst (λ kinds. HoldsSoundTables kinds root (memory_declared m level frame)) (sym change.kinds) holds;
    counted = laws.same after (emptied (entry_in m) frame level) (entry_in (memory_declared m level frame))
        (laws.new_table before after (entry_in m) frame level books.counted books.sound.slot call.free call.most change)
        (λ f i small. entries.emptied m frame level f i (frame_inside frame call.inside) small);
  }

  pub written_described : (after : Descriptors) (frame index value : ℕ)
      → IsWritable (tables_in before.kinds root m) frame index value → value < 2 ^ 64
      → IsReplaced (level_of (kind_of before.kinds frame)) (entry_in m frame index) value before after
      → HoldsSoundTables before.kinds root (memory_written m frame index value)
      → AreDescribed after root (memory_written m frame index value)
  written_described after frame index value call fits change holds = record {
    sound = subst (λ kinds. HoldsSoundTables kinds root (memory_written m frame index value)) (sym change.kinds) holds;
    counted = laws.same after (replaced (entry_in m) frame index value) (entry_in (memory_written m frame index value))
        (laws.replaced before after (entry_in m) frame index value books.counted books.sound.slot call.table call.small change)
        (λ f i small. entries.replaced m frame index value f i (frame_inside frame call.inside) call.small fits small);
  }

  pub removed_described : (after : Descriptors) (frame : ℕ) → IsRemovable (tables_in before.kinds root m) frame
      → (level_of (kind_of before.kinds frame) ≡ 4 → entry_in m frame 511 ≡ slot_value)
      → IsReplaced (level_of (kind_of before.kinds frame)) (entry_in m frame 511) 0 before after
      → HoldsSoundTables (set before.kinds frame Data) root (memory_removed m frame)
      → AreDescribed (record after { kinds = set after.kinds frame Data }) root (memory_removed m frame)
  removed_described after frame call slot change holds = record {
    sound = subst (λ kinds. HoldsSoundTables (set kinds frame Data) root (memory_removed m frame)) (sym change.kinds) holds;
    counted = laws.same (record after { kinds = set after.kinds frame Data }) (zeroed (entry_in m) frame) (entry_in (memory_removed m frame))
        (laws.old_table before after (entry_in m) frame books.counted books.sound.slot call.table (books.sound.levels frame) empty slot change)
        (λ f i small. entries.zeroed m frame f i (frame_inside frame call.inside) small);
  }
    where
      empty : (i : ℕ) → i < 512 → is_slot_entry (level_of (kind_of before.kinds frame)) i ≡ false → is_present (entry_in m frame i) ≡ false
      empty i small other =
          ap is_present (sym (entries_at before.kinds m frame i (lt-ltb 0 _ call.table) small)) ∙ call.empty i small other
