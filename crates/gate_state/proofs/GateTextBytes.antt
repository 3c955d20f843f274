-- The gates' text and the image's code stand in memory as the opening put them there.
use Rattle.std.proofs.Common.{◌≡◌, ◌⊎◌, ℕ, ◌+◌, ◌*◌, ◌/◌, ◌<◌, ◌≤◌, true, List, sym, ap, refl, ◌∙◌, arith, inl, inr}
use Rattle.std.proofs.lemmas.List.FromFn.{get_or-map-range_with_len, length-map-range_with_len}
use Rattle.nk_bits.specs.declared.control.Control.{Control}
use Rattle.nk_bits.specs.declared.kind.Kind.{Kind}
use Rattle.nk_bits.specs.declared.kind.Kind.TheVariants.{Code, Fixed}
use Rattle.nk_bits.specs.Kinds.{kind_of}
use Rattle.phys_mem.specs.Memory.{byte_at}
use Rattle.elf_image.specs.Pages.{byte_of}
use Rattle.gate_text.specs.Listing.{gate_byte}
use Rattle.boot_map.specs.Division.{division_of, free_start, pages_start}
use Rattle.boot_map.specs.KernelSlot.{IsCodePage}
use Rattle.boot_map.specs.Opening.{IsOpening, division_byte}
use Rattle.boot_map.specs.OpeningKinds.{kind_at}
use Rattle.page_desc.specs.PageTables.{is_unchanging}
use Rattle.nk_body.specs.KindsKept.{is_settled}
use Rattle.gate_state.specs.GuardedStates.{IsAdmitted}
use Rattle.gate_state.specs.MachineOpening.{opening_memory}
use Rattle.gate_state.specs.MachineStates.{Opening}
use Rattle.gate_state.proofs.LowerLaws.{LowerLaws}
use Rattle.gate_state.proofs.Scene.{IsScene}
use Rattle.gate_state.proofs.SceneProofsWalks.{kind_is}

-- the list of the opening's bytes is an opening
pub opening_is : (o : Opening) → IsOpening o.image o.frames (opening_memory o)
unfolding opening_memory
opening_is o = record {
  length = length-map-range_with_len (division_byte o.image o.frames) 0 (4096 * o.frames);
  bytes = λ p below. get_or-map-range_with_len (division_byte o.image o.frames) 0 (4096 * o.frames) p p 0 below (omega arith);
}

module _ (laws : LowerLaws) (o : Opening) (ks : List Kind) where
  opening_gates : (p : ℕ) → IsAdmitted o → p < 4096 → division_byte o.image o.frames (4096 + p) ≡ gate_byte p
  opening_gates p admitted below =
      let least : 512 ≤ o.frames = admitted.layout.least in
      let opening : IsOpening o.image o.frames (opening_memory o) = opening_is o in
      sym (opening.bytes (4096 + p) (omega (arith, least, below)))
      ∙ laws.opening_bytes.gates o.image (opening_memory o) o.frames p opening admitted.layout below

  opening_code : (page frame p : ℕ) → IsAdmitted o → IsCodePage o.image o.frames page frame → p < 4096
      → division_byte o.image o.frames (4096 * frame + p) ≡ byte_of o.image (4096 * page + p)
  opening_code page frame p admitted code below =
      let room : free_start (division_of o.image o.frames) ≤ o.frames = admitted.layout.room in
      let inside : 4096 * (pages_start (division_of o.image o.frames) + code.place) + p < 4096 * o.frames =
      omega (arith, room, code.within, below) in
      let opening : IsOpening o.image o.frames (opening_memory o) = opening_is o in
      ap (λ (f : ℕ). division_byte o.image o.frames (4096 * f + p)) code.frame_is
      ∙ (sym (opening.bytes (4096 * (pages_start (division_of o.image o.frames) + code.place) + p) inside)
      ∙ (laws.opening_bytes.image o.image (opening_memory o) o.frames code.place p opening admitted.layout code.within below
      ∙ ap (λ (n : ℕ). byte_of o.image (4096 * n + p)) code.page_is))

  module _ (m : List ℕ) (control : Control) (scene : IsScene o ks m control) where
    -- a byte of a frame of a kind whose bytes no call changes, but for the handler slot's
    byte_there : (frame p : ℕ) (kind : Kind) → frame < o.frames → kind_at o.image o.frames frame ≡ kind
        → is_settled kind ≡ true → is_unchanging kind ≡ true
        → p < 4096 → (4096 * frame + p < 0x2000) ⊎ (0x2008 ≤ 4096 * frame + p)
        → byte_at m (4096 * frame + p) ≡ division_byte o.image o.frames (4096 * frame + p)
    byte_there frame p kind inside is settled kept below apart =
        let same : (4096 * frame + p) / 4096 ≡ frame = omega (arith, below) in
        scene.memory.bytes (4096 * frame + p)
        (ap (λ (f : ℕ). is_unchanging (kind_of ks f)) same
        ∙ (ap is_unchanging (kind_is laws o ks scene.admitted scene.kinds_are frame kind inside is settled) ∙ kept)) apart

    -- the gates' text stands in frame 1
    pub gate_there : (p : ℕ) → p < 4096 → byte_at m (4096 * 1 + p) ≡ gate_byte p
    gate_there p below =
        let least : 512 ≤ o.frames = scene.admitted.layout.least in
        byte_there 1 p Fixed (omega (arith, least)) (laws.opening_kinds.fixed o.image o.frames).1 refl refl below
        (inl (omega (arith, below)))
        ∙ opening_gates p scene.admitted below

    -- a page of code stands in its frame
    pub code_there : (page frame p : ℕ) → IsCodePage o.image o.frames page frame → p < 4096
        → byte_at m (4096 * frame + p) ≡ byte_of o.image (4096 * page + p)
    code_there page frame p code below =
        let room : free_start (division_of o.image o.frames) ≤ o.frames = scene.admitted.layout.room in
        let inside : frame < o.frames = omega (arith, room, code.within, code.frame_is) in
        byte_there frame p Code inside (laws.slot_leaf.code o.image o.frames page frame code) refl refl below
        (inr (omega (arith, code.frame_is)))
        ∙ opening_code page frame p scene.admitted code below
