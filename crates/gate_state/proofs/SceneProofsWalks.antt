-- What the walk of a canonical page finds in a scene respects the kinds, and that names frames in memory.
use Rattle.std.proofs.Common.{◌≡◌, ◌⊎◌, ℕ, ◌+◌, ◌*◌, ◌/◌, ◌^◌, ◌<◌, ◌≤◌, true, List, length, refl, sym, ap, subst, ◌∙◌, arith, inl, inr}
use Rattle.std.specs.Prelude.{IfSome, Option, Some, Result, Ok}
use Rattle.std.specs.Result.{result_ok}
use Rattle.std.proofs.lemmas.Bool.{cases_Bool}
use Rattle.std.proofs.lemmas.List.Elements.{All-weaker}
use Rattle.nk_bits.specs.declared.control.Control.{Control}
use Rattle.nk_bits.specs.declared.kind.Kind.{Kind}
use Rattle.nk_bits.specs.declared.kind.Kind.TheVariants.{Code}
use Rattle.nk_bits.specs.declared.leaf.Leaf.{Leaf}
use Rattle.nk_bits.specs.Accesses.{IsWalked}
use Rattle.nk_bits.specs.Claims.{AllPass}
use Rattle.nk_bits.specs.Kinds.{is_storable, kind_of}
use Rattle.nk_bits.specs.Paging.{is_canonical, is_slot_page, page_of, walk, walk_below}
use Rattle.nk_bits.specs.Translations.{NamesFramesIn, Translations}
use Rattle.nk_bits.specs.UpperEntries.{KeptEntry, serves_page, span_of}
use Rattle.phys_mem.specs.Memory.{entry_in}
use Rattle.nk_bits.specs.KernelLayout.{gate_text}
use Rattle.boot_map.specs.KernelSlot.{IsCodePage, slot_leaf, slot_start}
use Rattle.boot_map.specs.OpeningKinds.{kind_at, kinds}
use Rattle.page_desc.specs.PageTables.{HoldsSoundTables}
use Rattle.page_walk.specs.MemoryAccess.{view_of}
use Rattle.nk_body.specs.KindsKept.{is_settled}
use Rattle.gate_state.specs.GuardedStates.{AreKinds, IsAdmitted, KeepsOpeningBytes}
use Rattle.gate_state.specs.MachineStates.{Opening}
use Rattle.gate_state.specs.RespectedKinds.{fits_kind, is_code, leads, respecting, respects}
use Rattle.gate_state.proofs.LowerLaws.{LowerLaws}
use Rattle.gate_state.proofs.SceneProofsRespects.{canonical_page_of, fits_from, leaf_within, respects_outside, respects_within, slot_bounds}
use Rattle.gate_state.proofs.SceneProofsUppers.{allowed_below, frames_are, laid_below, upper_within}

-- a choice between the two sides of a gate's code and the image's
gate_or_code : (ks : List Kind) (frame : ℕ) {A : Type 0} (C : Type 0) → (A × (frame ≡ 1)) ⊎ C
    → (C → is_code (kind_of ks frame) ≡ true)
    → (frame ≡ 1) ⊎ (is_code (kind_of ks frame) ≡ true)
gate_or_code ks frame C (inl gate) code = inl gate.1
gate_or_code ks frame C (inr image) code = inr (code image)

same_leaf : (r : Result Leaf ℕ) (found : Option Leaf) (leaf : Leaf) → result_ok r ≡ found → r ≡ Ok leaf
    → found ≡ Some leaf
same_leaf r found leaf is ok = sym is ∙ ap result_ok ok

some_at : (P : Leaf → Type 0) (found : Option Leaf) (leaf : Leaf) → found ≡ Some leaf → IfSome found P → P leaf
some_at P found leaf is all = subst (λ x. IfSome x P) is all

module _ (laws : LowerLaws) (o : Opening) (ks : List Kind) (admitted : IsAdmitted o) (kinds_are : AreKinds o ks) where
  -- a frame in memory of a kind that no call changes has it still
  pub kind_is : (frame : ℕ) (kind : Kind) → frame < o.frames → kind_at o.image o.frames frame ≡ kind → is_settled kind ≡ true
      → kind_of ks frame ≡ kind
  kind_is frame kind inside is settled =
      let opened : kind_of (kinds o.image o.frames) frame ≡ kind = laws.opening_kinds.each o.image o.frames frame inside ∙ is in
      kinds_are.settled frame (ap is_settled opened ∙ settled) ∙ opened

  -- a leaf of the layout names a frame in memory, whose kind its rights fit
  pub laid_in_memory : (page : ℕ) (leaf : Leaf) → slot_leaf o.image o.frames page ≡ Some leaf → leaf.frame < o.frames
  laid_in_memory page leaf laid =
      some_at (λ leaf. leaf.frame < o.frames) (slot_leaf o.image o.frames page) leaf laid
      (laws.slot_leaf.in_memory o.image o.frames page admitted.layout)

  laid_fits : (page : ℕ) (leaf : Leaf) → slot_start ≤ page → page < 2 ^ 52 → slot_leaf o.image o.frames page ≡ Some leaf
      → fits_kind ks leaf ≡ true
  laid_fits page leaf low high laid =
      fits_from ks leaf
      (λ write. some_at (λ leaf. leaf.rights.can_write ≡ true → is_storable (kind_of ks leaf.frame) ≡ true)
      (slot_leaf o.image o.frames page) leaf laid (kinds_are.writable page low high) write)
      (λ exec. gate_or_code ks leaf.frame (IsCodePage o.image o.frames page leaf.frame)
      (some_at (λ leaf. leaf.rights.exec ≡ true
      → ((page ≡ slot_start + 1) × (leaf.frame ≡ gate_text)) ⊎ IsCodePage o.image o.frames page leaf.frame)
      (slot_leaf o.image o.frames page) leaf laid (laws.slot_leaf.executable o.image o.frames page) exec)
      (λ code. ap is_code (kind_is leaf.frame Code (laid_in_memory page leaf laid)
      (laws.slot_leaf.code o.image o.frames page leaf.frame code) refl)))

  module _ (m : List ℕ) (held : KeepsOpeningBytes o ks m) where
    -- the walk over memory, in the slot and outside it
    module _ (root : ℕ) (tables : HoldsSoundTables ks root m) where
      pub laid_by_walk : (page : ℕ) → slot_start ≤ page → page < 2 ^ 52
          → result_ok (walk (entry_in m) (length m / 4096) root page) ≡ slot_leaf o.image o.frames page
      laid_by_walk page low high =
          ap (λ (frames : ℕ). result_ok (walk (entry_in m) frames root page)) (frames_are laws o ks admitted kinds_are m held)
          ∙ laws.slot.any o.image o.frames root page (entry_in m) admitted.layout admitted.pages held.slot
          (laws.sound.slot ks (entry_in m) root tables.tables tables.root_level) low high

      found_respects : (va : ℕ) (leaf : Leaf) → is_canonical va ≡ true
          → walk (entry_in m) (length m / 4096) root (page_of va) ≡ Ok leaf → respects o ks (page_of va, leaf) ≡ true
      found_respects va leaf canonical found = elim (cases_Bool (is_slot_page (page_of va))) [
        | inl within ↦
            let bounds = slot_bounds (page_of va) within in
            let laid : slot_leaf o.image o.frames (page_of va) ≡ Some leaf =
            same_leaf (walk (entry_in m) (length m / 4096) root (page_of va)) _ leaf
            (laid_by_walk (page_of va) bounds.0 bounds.1) found in
            respects_within o ks (page_of va) leaf within laid (laid_fits (page_of va) leaf bounds.0 bounds.1 laid)
        | inr outside ↦
            respects_outside o ks (page_of va) leaf outside
            ∙ laws.sound.walk ks (entry_in m) (length m / 4096) root (page_of va) leaf tables.tables tables.root_level
            (canonical_page_of va canonical) outside found
      ]

      -- and the rest of it below an entry that leads
      below_respects : (entry : KeptEntry) (va : ℕ) (leaf : Leaf) → leads o ks entry ≡ true
          → serves_page (page_of va) entry ≡ true
          → walk_below (entry_in m) (length m / 4096) (page_of va) entry.0 entry.2 ≡ Ok leaf
          → respects o ks (page_of va, leaf) ≡ true
      below_respects entry va leaf is covered found =
          let under : entry.1 ≡ span_of entry.0 (page_of va) = (laws.upper.covers (page_of va) entry covered).2 in
          elim (cases_Bool (is_slot_page (page_of va))) [
            | inl within ↦
                let bounds = slot_bounds (page_of va) within in
                let laid : slot_leaf o.image o.frames (page_of va) ≡ Some leaf =
                same_leaf (walk_below (entry_in m) (length m / 4096) (page_of va) entry.0 entry.2) _ leaf
                (laid_below laws o ks admitted kinds_are m held entry.0 entry.1 (page_of va) entry.2 is under within) found in
                respects_within o ks (page_of va) leaf within laid (laid_fits (page_of va) leaf bounds.0 bounds.1 laid)
            | inr outside ↦
                respects_outside o ks (page_of va) leaf outside
                ∙ allowed_below laws o ks admitted kinds_are m held root tables entry.0 entry.1 (page_of va) entry.2 leaf is
                under outside found
          ]

    pub walk_respects : (control : Control) (cpl : ℕ) → HoldsSoundTables ks control.root m
        → IsWalked (view_of m control cpl) (respecting o ks)
    walk_respects control cpl tables = record {
      root = found_respects control.root tables;
      below = λ entry va leaf is canonical covered found. below_respects control.root tables entry va leaf is covered found;
    }

    -- what respects the kinds names a frame in memory
    frame_within : (pair : ℕ × Leaf) → respects o ks pair ≡ true → 4096 * pair.1.frame < length m
    frame_within pair is = elim (cases_Bool (is_slot_page pair.0)) [
      | inl within ↦
          let inside : pair.1.frame < o.frames = laid_in_memory pair.0 pair.1
          (leaf_within o ks pair.0 pair.1 within is) in
          omega (arith, held.size, inside)
      | inr outside ↦
          let inside : pair.1.frame < length ks = laws.kind.allowed_in_memory ks pair.1.frame pair.1.rights
          (sym (respects_outside o ks pair.0 pair.1 outside) ∙ is) in
          omega (arith, held.size, inside, kinds_are.count)
    ]

    pub frames_within : (tlb : Translations) → AllPass (respecting o ks) tlb → NamesFramesIn (length m) tlb
    frames_within tlb all = record {
      pairs = All-weaker (λ (pair : ℕ × Leaf). respects o ks pair ≡ true) (λ (pair : ℕ × Leaf). 4096 * pair.1.frame < length m)
          frame_within tlb.pairs all.pairs;
      upper = All-weaker (λ (entry : KeptEntry). leads o ks entry ≡ true)
          (λ (entry : KeptEntry). 4096 * entry.2.frame < length m)
          (upper_within laws o ks admitted kinds_are m held) tlb.upper all.upper;
    }
