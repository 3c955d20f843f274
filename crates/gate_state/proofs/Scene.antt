-- Memory and control registers of a guarded state, as accesses see them: which translations there can be, and that the
-- pages of the kernel slot are served. `SceneProofs` has the proof.
use Rattle.std.proofs.Common.{◌≡◌, ℕ, ◌+◌, ◌*◌, ◌%◌, ◌/◌, ◌^◌, ◌<◌, ◌≤◌, true, List, length, All}
use Rattle.std.specs.Prelude.{Some, Ok}
use Rattle.nk_bits.specs.declared.access.Access.{Access}
use Rattle.nk_bits.specs.declared.control.Control.{Control}
use Rattle.nk_bits.specs.declared.kind.Kind.{Kind}
use Rattle.nk_bits.specs.declared.leaf.Leaf.{Leaf}
use Rattle.nk_bits.specs.declared.leaf.Upper.{Upper}
use Rattle.nk_bits.specs.AccessRights.{may}
use Rattle.nk_bits.specs.Accesses.{IsWalked, accessed, place_in, reached, smep_of, wp_of}
use Rattle.nk_bits.specs.Claims.{AllPass}
use Rattle.nk_bits.specs.Kinds.{is_storable, kind_of}
use Rattle.nk_bits.specs.Paging.{is_canonical, page_of, upper_walk}
use Rattle.nk_bits.specs.Translations.{NamesFramesIn, Translations}
use Rattle.nk_bits.specs.UpperEntries.{span_of}
use Rattle.phys_mem.specs.Memory.{entry_in, stored}
use Rattle.boot_map.specs.KernelSlot.{slot_leaf, slot_start}
use Rattle.page_desc.specs.PageTables.{HoldsSoundTables}
use Rattle.page_walk.specs.MemoryAccess.{view_of}
use Rattle.gate_state.specs.GuardedStates.{AreKinds, IsAdmitted, KeepsOpeningBytes}
use Rattle.gate_state.specs.MachineStates.{Opening}
use Rattle.gate_state.specs.RespectedKinds.{leads, respecting, respects}

-- memory holds what is guarded, of an opening that was admitted, and sound tables under the root, with SMEP set
pub record IsScene (o : Opening) (ks : List Kind) (m : List ℕ) (control : Control) : Type 0 where
  pub admitted : IsAdmitted o
  pub kinds_are : AreKinds o ks
  pub memory : KeepsOpeningBytes o ks m
  pub tables : HoldsSoundTables ks control.root m
  pub smep : smep_of control.cr4 ≡ true

-- stores of bytes in frames that may be stored to
pub record AreStores (ks : List Kind) (ws : List (ℕ × ℕ)) : Type 0 where
  pub places : All (λ w. is_storable (kind_of ks (w.0 / 4096)) ≡ true) ws
  pub bytes : All (λ w. w.1 < 256) ws

pub record SceneLaws (o : Opening) (ks : List Kind) : Type 0 where
  -- what a walk of a canonical page finds respects the kinds
  pub walked : (m : List ℕ) (control : Control) (cpl : ℕ) → IsScene o ks m control
      → IsWalked (view_of m control cpl) (respecting o ks)
  -- the frames of translations that respect the kinds lie in memory
  pub named : (m : List ℕ) (control : Control) (tlb : Translations) → IsScene o ks m control → AllPass (respecting o ks) tlb
      → NamesFramesIn (length m) tlb
  -- an upper entry to which the walk of a canonical page comes leads where it may
  pub upper_leads : (m : List ℕ) (control : Control) (level va : ℕ) (it : Upper) → IsScene o ks m control → 2 ≤ level
      → level ≤ 4 → is_canonical va ≡ true
      → upper_walk (entry_in m) (length m / 4096) control.root (page_of va) level ≡ Some it
      → leads o ks (level, span_of level (page_of va), it) ≡ true
  -- a translation of a page of the slot that respects the kinds is the layout's leaf
  pub slot_is : (page : ℕ) (leaf : Leaf) → slot_start ≤ page → page < 2 ^ 52 → respects o ks (page, leaf) ≡ true
      → slot_leaf o.image o.frames page ≡ Some leaf
  -- an access on a page of the slot that the layout's leaf serves finds its place there
  pub slot_reached : (m : List ℕ) (control : Control) (cpl : ℕ) (access : Access) (tlb : Translations) (va : ℕ) (laid : Leaf)
      → IsScene o ks m control → AllPass (respecting o ks) tlb → va < 2 ^ 64 → 4096 * slot_start ≤ va
      → slot_leaf o.image o.frames (page_of va) ≡ Some laid
      → may access laid.rights cpl (wp_of control.cr0) (smep_of control.cr4) ≡ true
      → (reached (view_of m control cpl) access tlb va).answer ≡ Ok (place_in laid va)
  -- and so does one of several bytes on that page
  pub slot_accessed : (m : List ℕ) (control : Control) (cpl : ℕ) (access : Access) (tlb : Translations) (va width : ℕ) (laid : Leaf)
      → IsScene o ks m control → AllPass (respecting o ks) tlb → va < 2 ^ 64 → 4096 * slot_start ≤ va → 1 ≤ width
      → va % 4096 + width ≤ 4096 → slot_leaf o.image o.frames (page_of va) ≡ Some laid
      → may access laid.rights cpl (wp_of control.cr0) (smep_of control.cr4) ≡ true
      → (accessed (view_of m control cpl) access tlb va width).answer ≡ Ok (record { first = place_in laid va; second = 0 })
  -- translations go on respecting the kinds over an access
  pub accessed_pass : (m : List ℕ) (control : Control) (cpl : ℕ) (access : Access) (tlb : Translations) (va width : ℕ)
      → IsScene o ks m control → AllPass (respecting o ks) tlb → va < 2 ^ 64 → 1 ≤ width
      → AllPass (respecting o ks) (accessed (view_of m control cpl) access tlb va width).tlb
  -- stores in frames that may be stored to leave what is guarded, and sound tables
  pub held_stored : (m : List ℕ) (ws : List (ℕ × ℕ)) → IsAdmitted o → AreKinds o ks → KeepsOpeningBytes o ks m
      → AreStores ks ws → KeepsOpeningBytes o ks (stored m ws)
  pub tables_stored : (root : ℕ) (m : List ℕ) (ws : List (ℕ × ℕ)) → HoldsSoundTables ks root m
      → AreStores ks ws → HoldsSoundTables ks root (stored m ws)

-- the same of a scene
pub scene_stored : (o : Opening) (ks : List Kind) → SceneLaws o ks → (m : List ℕ) (control : Control) (ws : List (ℕ × ℕ))
    → IsScene o ks m control → AreStores ks ws → IsScene o ks (stored m ws) control
scene_stored o ks laws m control ws scene storable = record {
  admitted = scene.admitted;
  kinds_are = scene.kinds_are;
  memory = laws.held_stored m ws scene.admitted scene.kinds_are scene.memory storable;
  tables = laws.tables_stored control.root m ws scene.tables storable;
  smep = scene.smep;
}
