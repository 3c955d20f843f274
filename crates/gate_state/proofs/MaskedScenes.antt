-- A memory that is a scene's but for the books' frames: to the processor the two are alike, and they stay so over
-- stores.
use Rattle.std.proofs.Common.{◌≡◌, ℕ, ◌+◌, ◌-◌, ◌*◌, ◌/◌, ◌<◌, false, true, List, length, All, sym, ap, ◌∙◌, arith}
use Rattle.std.proofs.lemmas.List.Elements.{All-weaker}
use Rattle.nk_bits.specs.declared.control.Control.{Control}
use Rattle.nk_bits.specs.declared.kind.Kind.{Kind}
use Rattle.nk_bits.specs.Kinds.{is_storable, kind_of}
use Rattle.nk_bits.specs.Paging.{all_rights, walk, walk_below}
use Rattle.nk_bits.specs.UpperEntries.{KeptEntry, serves_page}
use Rattle.phys_mem.specs.MaskedMemory.{is_book_frame, masked}
use Rattle.phys_mem.specs.Memory.{byte_at, entry_in, stored}
use Rattle.x86_regs.specs.AlikeMemories.{AreAlike}
use Rattle.gate_state.specs.MachineStates.{Opening}
use Rattle.gate_state.specs.RespectedKinds.{leads, respecting}
use Rattle.gate_state.proofs.BookFrames.{respected_apart, storable_apart}
use Rattle.gate_state.proofs.LowerLaws.{LowerLaws}
use Rattle.gate_state.proofs.MaskedTables.{from_same, led_table, root_table}
use Rattle.gate_state.proofs.Scene.{AreStores, IsScene, SceneLaws, scene_stored}

-- n is the scene's memory, and what is seen of m
pub record IsSeen (o : Opening) (ks : List Kind) (m n : List ℕ) (control : Control) : Type 0 where
  pub scene : IsScene o ks n control
  pub masks : masked (is_book_frame o.frames) m ≡ n

module _ (laws : LowerLaws) (o : Opening) (ks : List Kind) (m n : List ℕ) (control : Control)
    (seen : IsSeen o ks m n control) where
  pub size_same : length n ≡ length m
  size_same = sym (ap length seen.masks) ∙ laws.mask.length (is_book_frame o.frames) m

  pub frames_same : length n / 4096 ≡ length m / 4096
  frames_same = ap (λ size. size / 4096) size_same

  pub entry_same : (f i : ℕ) → i < 512 → is_book_frame o.frames f ≡ false → entry_in n f i ≡ entry_in m f i
  entry_same f i small apart =
      ap (λ x. entry_in x f i) (sym seen.masks) ∙ laws.mask.entry_seen (is_book_frame o.frames) m f i small apart

  pub byte_same : (frame offset : ℕ) → offset < 4096 → is_book_frame o.frames frame ≡ false
      → byte_at n (4096 * frame + offset) ≡ byte_at m (4096 * frame + offset)
  byte_same frame offset within apart =
      let place : ℕ = 4096 * frame + offset in
      let at : place / 4096 ≡ frame = omega (arith, within) in
      ap (λ x. byte_at x place) (sym seen.masks)
      ∙ laws.mask.byte_seen (is_book_frame o.frames) m place (ap (is_book_frame o.frames) at ∙ apart)

  pub walk_same : (page : ℕ) → walk (entry_in n) (length n / 4096) control.root page
      ≡ walk (entry_in m) (length n / 4096) control.root page
  walk_same page =
      let frames : ℕ = length n / 4096 in
      laws.walk.by_level (entry_in n) frames control.root page
      ∙ from_same laws o ks seen.scene.admitted seen.scene.kinds_are n control.root seen.scene.tables (entry_in m)
      entry_same frames page 4 control.root all_rights
      (root_table laws o ks seen.scene.admitted seen.scene.kinds_are n control.root seen.scene.tables)
      ∙ sym (laws.walk.by_level (entry_in m) frames control.root page)

  pub below_same : (entry : KeptEntry) (page : ℕ) → leads o ks entry ≡ true → serves_page page entry ≡ true
      → walk_below (entry_in n) (length n / 4096) page entry.0 entry.2
      ≡ walk_below (entry_in m) (length n / 4096) page entry.0 entry.2
  below_same entry page is covered =
      from_same laws o ks seen.scene.admitted seen.scene.kinds_are n control.root seen.scene.tables (entry_in m)
      entry_same (length n / 4096) page (entry.0 - 1) entry.2.frame entry.2.rights
      (led_table laws o ks seen.scene.admitted seen.scene.kinds_are n control.root seen.scene.tables
      seen.scene.memory entry page is covered)

  pub alike : AreAlike (respecting o ks) control.root n m
  alike = record {
    size = size_same;
    walks = λ page. walk_same page ∙ ap (λ frames. walk (entry_in m) frames control.root page) frames_same;
    below = λ entry page passes covered.
        below_same entry page passes covered
        ∙ ap (λ frames. walk_below (entry_in m) frames page entry.0 entry.2) frames_same;
    bytes = λ pair offset passes within.
        byte_same pair.1.frame offset within
        (respected_apart laws o ks seen.scene.admitted seen.scene.kinds_are pair passes);
  }

  -- stores that may be made are apart from the books, and made in both
  stores_apart : (ws : List (ℕ × ℕ)) → AreStores ks ws → All (λ w. is_book_frame o.frames (w.0 / 4096) ≡ false) ws
  stores_apart ws are =
      All-weaker (λ (w : ℕ × ℕ). is_storable (kind_of ks (w.0 / 4096)) ≡ true)
      (λ (w : ℕ × ℕ). is_book_frame o.frames (w.0 / 4096) ≡ false)
      (λ w storable. storable_apart laws o ks seen.scene.admitted seen.scene.kinds_are (w.0 / 4096) storable) ws
      are.places

  pub masked_stored : (ws : List (ℕ × ℕ)) → AreStores ks ws
      → masked (is_book_frame o.frames) (stored m ws) ≡ stored n ws
  masked_stored ws are =
      laws.mask.stored_seen (is_book_frame o.frames) m ws (stores_apart ws are) ∙ ap (λ x. stored x ws) seen.masks

  pub seen_stored : SceneLaws o ks → (ws : List (ℕ × ℕ)) → AreStores ks ws
      → IsSeen o ks (stored m ws) (stored n ws) control
  seen_stored scenes ws are = record {
    scene = scene_stored o ks scenes n control ws seen.scene are;
    masks = masked_stored ws are;
  }
