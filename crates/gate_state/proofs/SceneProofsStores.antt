-- Stores in frames that may be stored to leave what is guarded.
use Rattle.std.proofs.Common.{◌≡◌, ◌≢◌, ℕ, ◌/◌, ◌<◌, true, List, All, refl, sym, ap, ◌∙◌}
use Rattle.std.proofs.lemmas.Bool.{false≢true}
use Rattle.std.proofs.lemmas.List.Elements.{All-weaker}
use Rattle.nk_bits.specs.declared.kind.Kind.{Kind}
use Rattle.nk_bits.specs.declared.kind.Kind.TheVariants.{Data, Code, Table, Fixed, Trap, Guarded, Hidden}
use Rattle.nk_bits.specs.Kinds.{is_storable, kind_of}
use Rattle.phys_mem.specs.Memory.{stored}
use Rattle.boot_map.specs.declared.part.Part.{Part}
use Rattle.boot_map.specs.declared.part.Part.TheVariants.{SlotTable, AreaDirectory, AreaTable, ImageDirectory, RangeTable}
use Rattle.boot_map.specs.Division.{division_of}
use Rattle.boot_map.specs.KernelSlot.{is_slot_table}
use Rattle.boot_map.specs.OpeningKinds.{kind_at, kind_of_part}
use Rattle.boot_map.specs.Parts.{part_at}
use Rattle.page_desc.specs.PageTables.{is_unchanging}
use Rattle.gate_state.specs.GuardedStates.{AreKinds, IsAdmitted, KeepsOpeningBytes}
use Rattle.gate_state.specs.MachineStates.{Opening}
use Rattle.gate_state.proofs.LowerLaws.{LowerLaws}
use Rattle.gate_state.proofs.Scene.{AreStores}
use Rattle.gate_state.proofs.SceneProofsWalks.{kind_is}

-- what is kept may not be stored to
kept_apart : (kind : Kind) → is_unchanging kind ≡ true → is_storable kind ≡ true → ⊥
kept_apart Data kept storable = false≢true kept
kept_apart Code kept storable = false≢true storable
kept_apart (Table level) kept storable = false≢true kept
kept_apart Fixed kept storable = false≢true storable
kept_apart Trap kept storable = false≢true kept
kept_apart Guarded kept storable = false≢true kept
kept_apart Hidden kept storable = false≢true kept

-- stores stand elsewhere than a place whose frame may not be stored to
module _ (ks : List Kind) (ws : List (ℕ × ℕ)) (storable : All (λ w. is_storable (kind_of ks (w.0 / 4096)) ≡ true) ws)
  where
    frame_apart : (frame : ℕ) → (is_storable (kind_of ks frame) ≡ true → ⊥) → All (λ w. w.0 / 4096 ≢ frame) ws
    frame_apart frame never =
        All-weaker (λ w. is_storable (kind_of ks (w.0 / 4096)) ≡ true) (λ w. w.0 / 4096 ≢ frame)
        (λ w is same. never (sym (ap (λ f. is_storable (kind_of ks f)) same) ∙ is)) ws storable

    pub place_apart : (place : ℕ) → (is_storable (kind_of ks (place / 4096)) ≡ true → ⊥) → All (λ w. w.0 ≢ place) ws
    place_apart place never =
        All-weaker (λ w. w.0 / 4096 ≢ place / 4096) (λ w. w.0 ≢ place) (λ w apart same. apart (ap (λ p. p / 4096) same))
        ws (frame_apart (place / 4096) never)

-- a frame that holds one of the kernel slot's own tables is fixed
part_fixed : (b : List ℕ) (part : Part) → is_slot_table part ≡ true → kind_of_part b part ≡ Fixed
part_fixed b SlotTable is = refl
part_fixed b AreaDirectory is = refl
part_fixed b AreaTable is = refl
part_fixed b ImageDirectory is = refl
part_fixed b (RangeTable k) is = refl
part_fixed b part is = absurd (false≢true is)

opened_fixed : (b : List ℕ) (frames frame : ℕ) → is_slot_table (part_at (division_of b frames) frame) ≡ true
    → kind_at b frames frame ≡ Fixed
unfolding kind_at
opened_fixed b frames frame is = part_fixed b (part_at (division_of b frames) frame) is

pub slot_fixed : (laws : LowerLaws) (o : Opening) (ks : List Kind) → IsAdmitted o → AreKinds o ks → (frame : ℕ)
    → frame < o.frames → is_slot_table (part_at (division_of o.image o.frames) frame) ≡ true → kind_of ks frame ≡ Fixed
slot_fixed laws o ks admitted kinds_are frame inside table =
    kind_is laws o ks admitted kinds_are frame Fixed inside (opened_fixed o.image o.frames frame table) refl

pub stores_hold : LowerLaws → (o : Opening) (ks : List Kind) (m : List ℕ) (ws : List (ℕ × ℕ)) → IsAdmitted o
    → AreKinds o ks → KeepsOpeningBytes o ks m → AreStores ks ws → KeepsOpeningBytes o ks (stored m ws)
stores_hold laws o ks m ws admitted kinds_are held are = record {
  size = laws.memory.length m ws ∙ held.size;
  are_bytes = laws.memory.bytes m ws are.bytes held.are_bytes;
  bytes = λ place kept apart.
      laws.memory.byte_elsewhere m ws place (place_apart ks ws are.places place
      (kept_apart (kind_of ks (place / 4096)) kept)) ∙ held.bytes place kept apart;
  slot = record {
    entries = λ f i within small table.
        laws.frame.entry_elsewhere m ws f i small
        (frame_apart ks ws are.places f (λ storable.
        false≢true (sym (ap is_storable (slot_fixed laws o ks admitted kinds_are f within table)) ∙ storable)))
        ∙ held.slot.entries f i within small table;
  };
}
