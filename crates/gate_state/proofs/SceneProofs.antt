-- The laws of a scene, from the laws of the crates below.
use Rattle.std.proofs.Common.{◌≡◌, ℕ, ◌*◌, ◌/◌, ◌^◌, ◌<◌, ◌≤◌, true, List, length, refl, ◌∙◌, arith}
use Rattle.std.specs.Prelude.{IfSome, Option, Some, None, Result, Ok, Err}
use Rattle.std.specs.Result.{result_ok}
use Rattle.nk_bits.specs.declared.access.Access.{Access}
use Rattle.nk_bits.specs.declared.control.Control.{Control}
use Rattle.nk_bits.specs.declared.kind.Kind.{Kind}
use Rattle.nk_bits.specs.declared.leaf.Leaf.{Leaf}
use Rattle.nk_bits.specs.declared.leaf.Upper.{Upper}
use Rattle.nk_bits.specs.AccessRights.{may}
use Rattle.nk_bits.specs.Accesses.{place_in, reached, smep_of, wp_of}
use Rattle.nk_bits.specs.Claims.{AllPass}
use Rattle.nk_bits.specs.Paging.{page_of, walk, walk_below}
use Rattle.nk_bits.specs.Translations.{Translations, look, translation}
use Rattle.nk_bits.specs.UpperEntries.{kept_for, span_of, walk_by}
use Rattle.phys_mem.specs.Memory.{entry_in}
use Rattle.boot_map.specs.KernelSlot.{slot_leaf, slot_start}
use Rattle.page_walk.specs.MemoryAccess.{view_of}
use Rattle.gate_state.specs.GuardedStates.{AreKinds, IsAdmitted}
use Rattle.gate_state.specs.MachineStates.{Opening}
use Rattle.gate_state.specs.RespectedKinds.{leads, respecting, respects}
use Rattle.gate_state.proofs.LowerLaws.{LowerLaws}
use Rattle.gate_state.proofs.Scene.{IsScene, SceneLaws}
use Rattle.gate_state.proofs.SceneProofsAccesses.{accessed_there, begun_is, on_one_page, reached_there, slot_canonical_bytes, translation_is}
use Rattle.gate_state.proofs.SceneProofsRespects.{leaf_within, look_passes, slot_page}
use Rattle.gate_state.proofs.SceneProofsStores.{stores_hold}
use Rattle.gate_state.proofs.SceneProofsUppers.{laid_below, walk_leads}
use Rattle.gate_state.proofs.SceneProofsWalks.{frames_within, laid_by_walk, walk_respects}

-- what a result holds, where it holds something
ok_from : (r : Result Leaf ℕ) (leaf : Leaf) → result_ok r ≡ Some leaf → r ≡ Ok leaf
ok_from (Ok found) leaf is = cc
ok_from (Err level) leaf is = cc

one_leaf : (found : Option Leaf) (leaf laid : Leaf) → found ≡ Some leaf → found ≡ Some laid → leaf ≡ laid
one_leaf found leaf laid is same = cc

pub slot_is : (o : Opening) (ks : List Kind) (page : ℕ) (leaf : Leaf) → slot_start ≤ page → page < 2 ^ 52
    → respects o ks (page, leaf) ≡ true
    → slot_leaf o.image o.frames page ≡ Some leaf
slot_is o ks page leaf low high = leaf_within o ks page leaf (slot_page page low high)

module _ (laws : LowerLaws) (o : Opening) (ks : List Kind) (m : List ℕ) (control : Control)
    (scene : IsScene o ks m control) where
  -- what is kept for a page of the slot is the layout's leaf
  kept_is : (tlb : Translations) (page : ℕ) (laid : Leaf) → AllPass (respecting o ks) tlb → slot_start ≤ page
      → page < 2 ^ 52
      → slot_leaf o.image o.frames page ≡ Some laid → IfSome (look tlb.pairs page) (λ leaf. leaf ≡ laid)
  kept_is tlb page laid pass low high is = go (look tlb.pairs page) (look_passes (respecting o ks) tlb page pass)
    where
      go : (found : Option Leaf) → IfSome found (λ leaf. respects o ks (page, leaf) ≡ true)
          → IfSome found (λ leaf. leaf ≡ laid)
      go (Some leaf) passes = one_leaf (slot_leaf o.image o.frames page) leaf laid
          (slot_is o ks page leaf low high passes) is
      go None passes = tt

  -- what is found below what is kept for it at a level is that leaf, and so is what its walk finds
  module _ (tlb : Translations) (page : ℕ) (laid : Leaf) (pass : AllPass (respecting o ks) tlb) (low : slot_start ≤ page)
      (high : page < 2 ^ 52) (is : slot_leaf o.image o.frames page ≡ Some laid) where
    kept_below : (level : ℕ) → IfSome (kept_for tlb.upper level page)
        (λ it. walk_below (entry_in m) (length m / 4096) page level it ≡ Ok laid)
    kept_below level = go (kept_for tlb.upper level page) (laws.kept.kept_passes (respecting o ks) tlb level page pass)
      where
        go : (found : Option Upper) → IfSome found (λ it. leads o ks (level, span_of level page, it) ≡ true)
            → IfSome found (λ it. walk_below (entry_in m) (length m / 4096) page level it ≡ Ok laid)
        go (Some it) leading =
            ok_from (walk_below (entry_in m) (length m / 4096) page level it) laid
            (laid_below laws o ks scene.admitted scene.kinds_are m scene.memory level (span_of level page) page it leading
            refl (slot_page page low high) ∙ is)
        go None leading = tt

    walked_is : walk_by (entry_in m) (length m / 4096) control.root tlb.upper page ≡ Ok laid
    unfolding walk_by
    walked_is =
        let from_root : walk (entry_in m) (length m / 4096) control.root page ≡ Ok laid =
        ok_from (walk (entry_in m) (length m / 4096) control.root page) laid
        (laid_by_walk laws o ks scene.admitted scene.kinds_are m scene.memory control.root scene.tables page low high ∙ is) in
        begun_is (entry_in m) (length m / 4096) page 2 (kept_for tlb.upper 2 page) _ laid (kept_below 2)
        (begun_is (entry_in m) (length m / 4096) page 3 (kept_for tlb.upper 3 page) _ laid (kept_below 3)
        (begun_is (entry_in m) (length m / 4096) page 4 (kept_for tlb.upper 4 page) _ laid (kept_below 4) from_root))

  slot_translation : (tlb : Translations) (page : ℕ) (laid : Leaf) → AllPass (respecting o ks) tlb → slot_start ≤ page
      → page < 2 ^ 52
      → slot_leaf o.image o.frames page ≡ Some laid
      → translation (entry_in m) (length m / 4096) control.root tlb page ≡ Some laid
  slot_translation tlb page laid pass low high is =
      translation_is (entry_in m) (length m / 4096) control.root tlb page laid (kept_is tlb page laid pass low high is)
      (walked_is tlb page laid pass low high is)

  pub reached_in_slot : (cpl : ℕ) (access : Access) (tlb : Translations) (va : ℕ) (laid : Leaf)
      → AllPass (respecting o ks) tlb → va < 2 ^ 64
      → 4096 * slot_start ≤ va → slot_leaf o.image o.frames (page_of va) ≡ Some laid
      → may access laid.rights cpl (wp_of control.cr0) (smep_of control.cr4) ≡ true
      → (reached (view_of m control cpl) access tlb va).answer ≡ Ok (place_in laid va)
  reached_in_slot cpl access tlb va laid pass fits low is serves =
      reached_there (view_of m control cpl) access tlb va laid
      (slot_translation tlb (page_of va) laid pass (omega arith) (omega arith) is) serves

pub scene_laws : LowerLaws → (o : Opening) (ks : List Kind) → IsAdmitted o → AreKinds o ks → SceneLaws o ks
scene_laws laws o ks admitted kinds_are = record {
  walked = λ m control cpl scene. walk_respects laws o ks scene.admitted scene.kinds_are m scene.memory control cpl
      scene.tables;
  named = λ m control tlb scene pass. frames_within laws o ks scene.admitted scene.kinds_are m scene.memory tlb pass;
  upper_leads = λ m control level va it scene.
      walk_leads laws o ks scene.admitted scene.kinds_are m scene.memory control.root scene.tables level va it;
  slot_is = slot_is o ks;
  slot_reached = λ m control cpl access tlb va laid scene pass fits low is serves.
      reached_in_slot laws o ks m control scene cpl access tlb va laid pass fits low is serves;
  slot_accessed = λ m control cpl access tlb va width laid scene pass fits low some within is serves.
      accessed_there (view_of m control cpl) access tlb va width (place_in laid va)
      (slot_canonical_bytes va width fits low within) (on_one_page va width within)
      (reached_in_slot laws o ks m control scene cpl access tlb va laid pass fits low is serves);
  accessed_pass = λ m control cpl access tlb va width scene pass fits some.
      laws.access.kept (view_of m control cpl) access (respecting o ks) tlb va width
      (walk_respects laws o ks scene.admitted scene.kinds_are m scene.memory control cpl scene.tables) fits some pass;
  held_stored = λ m ws admitted kinds_are held are. stores_hold laws o ks m ws admitted kinds_are held are;
  tables_stored = λ root m ws tables are. laws.stores.sound ks root m ws tables are.places;
}
