-- States that are not guarded, each named by the sentence that it guards.
use Rattle.std.proofs.Common.{◌≡◌, ◌≢◌, ℕ, ◌+◌, ◌*◌, ◌/◌, ◌^◌, ◌<◌, ◌≤◌, true, false, List, [], ◌∷◌, length, slice_index, Some, inl, inr, refl, sym, ap, subst, ◌∙◌, arith}
use Rattle.std.specs.Prelude.{IfSome, Option, slice_get, not, ◌==◌}
use Rattle.std.proofs.lemmas.Bool.{and_parts, eqb-true, false≢true}
use Rattle.std.proofs.lemmas.List.Elements.{All-get_or}
use Rattle.std.proofs.lemmas.Option.{get_or_from_slice_get, slice_get_within}
use Rattle.nk_bits.specs.declared.kind.Kind.{Kind}
use Rattle.nk_bits.specs.declared.leaf.Leaf.{Leaf}
use Rattle.nk_bits.specs.Accesses.{wp_of}
use Rattle.nk_bits.specs.Claims.{AllPass, Claim}
use Rattle.nk_bits.specs.Kinds.{is_storable, kind_of}
use Rattle.nk_bits.specs.KernelLayout.{gate_address}
use Rattle.nk_bits.specs.Translations.{HasDistinctPages, Translations}
use Rattle.phys_mem.specs.Memory.{byte_at, entry_in}
use Rattle.x86_alu.specs.SignedNumbers.{bit}
use Rattle.x86_regs.specs.Combinations.{interrupt_flag}
use Rattle.elf_image.specs.Pages.{is_executable, is_writable}
use Rattle.boot_map.specs.Division.{division_of, need}
use Rattle.boot_map.specs.KernelSlot.{is_slot_table, slot_leaf, slot_start}
use Rattle.boot_map.specs.Opening.{division_byte}
use Rattle.boot_map.specs.OpeningEntries.{opening_entry}
use Rattle.boot_map.specs.OpeningKinds.{kinds}
use Rattle.boot_map.specs.Parts.{part_at}
use Rattle.page_desc.specs.PageTables.{is_unchanging}
use Rattle.x86_regs.specs.declared.delivery.Tables.{Tables}
use Rattle.x86_regs.specs.declared.registers.Regs.{Regs}
use Rattle.x86_regs.specs.EffectsKept.{AreRegisters}
use Rattle.cpu_step.specs.Processor.{Processor}
use Rattle.gate_text.specs.GatePoints.{is_point}
use Rattle.gate_state.specs.GateWindow.{IsAtPoint, IsGatePoint}
use Rattle.gate_state.specs.GateCalls.{IsCalling}
use Rattle.gate_state.specs.GuardedStates.{AreKinds, IsAdmitted, IsControlled, IsGuarded, KeepsOpeningBytes}
use Rattle.gate_state.specs.MachineStates.{MachineState, Opening}
use Rattle.gate_state.specs.RespectedKinds.{respecting, respects}
use Rattle.nk_body.specs.KindsKept.{is_reserved, is_settled}

-- a processor whose control registers, tables, CPL or pending vectors aren't those of a run
module _ (p : Processor) (it : IsControlled p) where
  without_smep : p.control.cr4 ≡ 0x20 → ⊥
  without_smep is = let kept = it.cr4 in omega (arith, is, kept)

  without_nxe : p.control.efer ≡ 0x500 → ⊥
  without_nxe is = let kept = it.efer in omega (arith, is, kept)

  wide_cr2 : 2 ^ 64 ≤ p.control.cr2 → ⊥
  wide_cr2 wide = let small = it.cr2 in omega (arith, wide, small)

  -- an interrupt descriptor table elsewhere, or of one gate more
  moved_table : p.tables.idt ≢ 0xFFFFFF8000000000 → ⊥
  moved_table other = other (ap (λ (t : Tables). t.idt) it.tables)

  longer_table : p.tables.limit ≡ 783 → ⊥
  longer_table is =
      let kept : p.tables.limit ≡ 767 = ap (λ (t : Tables). t.limit) it.tables in omega (arith, is, kept)

  moved_task_state : p.tables.tss ≡ 0 → ⊥
  moved_task_state is =
      let kept : p.tables.tss ≡ 0xFFFFFF8000000400 = ap (λ (t : Tables). t.tss) it.tables in omega (arith, is, kept)

  privilege_1 : p.regs.cpl ≡ 1 → ⊥
  privilege_1 is =
      elim it.cpl [
        | inl kernel ↦ omega (arith, is, kernel)
        | inr user ↦ omega (arith, is, user)
      ]

  vector_48 : p.pending ≡ 2 ^ 16 → ⊥
  vector_48 is = let small = it.pending in omega (arith, is, small)

-- registers that no processor has
module _ (regs : Regs) (it : AreRegisters regs) where
  seventeen_registers : length regs.general ≡ 17 → ⊥
  seventeen_registers is = let count = it.count in omega (arith, is, count)

  wide_register : (n : ℕ) → 2 ^ 64 ≤ slice_index regs.general n → ⊥
  wide_register n wide = let small = it.bounds n in omega (arith, wide, small)

  wide_rip : 2 ^ 64 ≤ regs.rip → ⊥
  wide_rip wide = let small = it.rip in omega (arith, wide, small)

-- kinds that no calls make of the opening's
module _ (o : Opening) (ks : List Kind) (it : AreKinds o ks) where
  one_too_many : length ks ≡ o.frames + 1 → ⊥
  one_too_many is = let kept = it.count in omega (arith, is, kept)

  changed_kind : (f : ℕ) → is_settled (kind_of (kinds o.image o.frames) f) ≡ true
      → kind_of ks f ≢ kind_of (kinds o.image o.frames) f → ⊥
  changed_kind f settled other = other (it.settled f settled)

  -- one more that is hidden, say
  given_kind : (f : ℕ) → is_reserved (kind_of ks f) ≡ true → kind_of ks f ≢ kind_of (kinds o.image o.frames) f → ⊥
  given_kind f reserved other = other (it.reserved f reserved)

  unstorable_leaf : (page : ℕ) (leaf : Leaf) → slot_start ≤ page → page < 2 ^ 52
      → slot_leaf o.image o.frames page ≡ Some leaf → leaf.rights.can_write ≡ true
      → is_storable (kind_of ks leaf.frame) ≡ false → ⊥
  unstorable_leaf page leaf from below laid writes other =
      let may : leaf.rights.can_write ≡ true → is_storable (kind_of ks leaf.frame) ≡ true =
      subst (λ (found : Option Leaf). IfSome found
      (λ laid. laid.rights.can_write ≡ true → is_storable (kind_of ks laid.frame) ≡ true)) laid (it.writable page from below) in
      false≢true (sym other ∙ may writes)

-- memories that don't keep the opening's bytes
module _ (o : Opening) (ks : List Kind) (m : List ℕ) (it : KeepsOpeningBytes o ks m) where
  one_frame_more : length m ≡ 4096 * (o.frames + 1) → ⊥
  one_frame_more is = let kept = it.size in omega (arith, is, kept)

  no_byte : (place : ℕ) → byte_at m place ≡ 256 → ⊥
  no_byte place is = let small = it.are_bytes place in omega (arith, is, small)

  -- behind the handler slot, and before it
  changed_byte : (place : ℕ) → is_unchanging (kind_of ks (place / 4096)) ≡ true → place ≡ 0x2008
      → byte_at m place ≢ division_byte o.image o.frames place → ⊥
  changed_byte place fixed is other = other (it.bytes place fixed (inr (omega (arith, is))))

  byte_before_the_slot : (place : ℕ) → is_unchanging (kind_of ks (place / 4096)) ≡ true → place ≡ 0x1FFF
      → byte_at m place ≢ division_byte o.image o.frames place → ⊥
  byte_before_the_slot place fixed is other = other (it.bytes place fixed (inl (omega (arith, is))))

  changed_slot_entry : (f i : ℕ) → f < o.frames → i < 512
      → is_slot_table (part_at (division_of o.image o.frames) f) ≡ true
      → entry_in m f i ≢ opening_entry o.image o.frames f i → ⊥
  changed_slot_entry f i inside below within other = other (it.slot.entries f i inside below within)

-- a pair that is kept passes the test that every pair passes
pair_passes : (test : Claim) (tlb : Translations) (place : ℕ) (pair : ℕ × Leaf) → slice_get tlb.pairs place ≡ Some pair
    → AllPass test tlb → test.pair pair ≡ true
pair_passes test tlb place pair found all =
    subst (λ (it : ℕ × Leaf). test.pair it ≡ true) (get_or_from_slice_get tlb.pairs place pair pair found)
    (All-get_or (λ (it : ℕ × Leaf). test.pair it ≡ true) tlb.pairs place pair
    (slice_get_within tlb.pairs place pair found) all.pairs)

module _ (o : Opening) (s : MachineState) (it : IsGuarded o s) where
  -- a translation that doesn't respect the kinds of frames
  disrespecting_pair : (place page : ℕ) (leaf : Leaf) → slice_get s.processor.tlb.pairs place ≡ Some (page, leaf)
      → respects o s.kinds (page, leaf) ≡ false → ⊥
  disrespecting_pair place page leaf kept other =
      false≢true (sym other ∙ pair_passes (respecting o s.kinds) s.processor.tlb place (page, leaf) kept it.translations)

  -- more translations or upper entries than the processor keeps, or a page's translation twice
  translation_1025 : length s.processor.tlb.pairs ≡ 1025 → ⊥
  translation_1025 is = let few = (it.translations.limits refl).pairs in omega (arith, is, few)

  upper_entry_65 : length s.processor.tlb.upper ≡ 65 → ⊥
  upper_entry_65 is = let few = (it.translations.limits refl).uppers in omega (arith, is, few)

  page_translated_twice : (page : ℕ) (one other : Leaf) → s.processor.tlb.pairs ≡ (page, one) ∷ (page, other) ∷ [] → ⊥
  page_translated_twice page one other is =
      let distinct = subst HasDistinctPages is (it.translations.limits refl).pages in
      distinct 0 1 (page, one) (omega arith) (omega arith) refl

  -- more identifiers than turns
  identifier_ahead : s.ledger.book.next ≡ 257 + s.turns → ⊥
  identifier_ahead is = let most = it.next in omega (arith, is, most)

  -- WP is clear: at no gate point, at CPL 3, and where the processor is halted
  off_the_points : wp_of s.processor.control.cr0 ≡ false
      → ((offset : ℕ) → is_point offset ≡ true → s.processor.regs.rip ≢ gate_address + offset) → ⊥
  off_the_points clear off =
      let at : IsGatePoint s.processor = it.window clear in off at.offset at.stands.point at.stands.rip

  at_privilege_3 : wp_of s.processor.control.cr0 ≡ false → s.processor.regs.cpl ≡ 3 → ⊥
  at_privilege_3 clear user =
      let at : IsGatePoint s.processor = it.window clear in
      let kernel = at.stands.supervisor in
      omega (arith, user, kernel)

  while_halted : wp_of s.processor.control.cr0 ≡ false → s.processor.halted ≡ true → ⊥
  while_halted clear halted =
      let at : IsGatePoint s.processor = it.window clear in
      false≢true (sym at.stands.runs ∙ halted)

-- at the body's place an interrupt may come
module _ (p : Processor) (at : IsAtPoint 27 p) where
  interruptible_body : bit p.regs.flags interrupt_flag ≡ true → ⊥
  interruptible_body set =
      let both = and_parts (not (bit p.regs.flags interrupt_flag)) (slice_index p.regs.general 4 == 0xFFFFFF8000005000) at.holds in
      false≢true (sym (ap not set) ∙ both.0)

  -- or RSP isn't the top of the nested stack
  elsewhere_with_its_stack : slice_index p.regs.general 4 ≢ 0xFFFFFF8000005000 → ⊥
  elsewhere_with_its_stack other =
      let both = and_parts (not (bit p.regs.flags interrupt_flag)) (slice_index p.regs.general 4 == 0xFFFFFF8000005000) at.holds in
      other (eqb-true (slice_index p.regs.general 4) 0xFFFFFF8000005000 both.1)

-- openings that no image has which was admitted
module _ (o : Opening) (it : IsAdmitted o) where
  wide_byte : (i : ℕ) → slice_index o.image i ≡ 256 → ⊥
  wide_byte i is = let small = it.bytes i in omega (arith, is, small)

  full_memory : need o.image o.frames ≡ o.frames + 1 → ⊥
  full_memory is = let room = it.layout.room in omega (arith, is, room)

  writable_code : (n : ℕ) → is_executable o.image n ≡ true → is_writable o.image n ≡ true → ⊥
  writable_code n code written = false≢true (sym (it.pages.unwritable n code) ∙ written)

-- a user makes no call, nor does the supervisor where an interrupt may come, or with WP clear, or from another place
module _ (p : Processor) (it : IsCalling p) where
  users_call : p.regs.cpl ≡ 3 → ⊥
  users_call is = let kernel = it.supervisor in omega (arith, is, kernel)

  interruptible_call : bit p.regs.flags interrupt_flag ≡ true → ⊥
  interruptible_call set = false≢true (sym it.uninterrupted ∙ set)

  unprotected_call : wp_of p.control.cr0 ≡ false → ⊥
  unprotected_call clear = false≢true (sym clear ∙ it.kept)

  call_from_elsewhere : p.regs.rip ≡ gate_address + 7 → ⊥
  call_from_elsewhere is = let gate = it.rip in omega (arith, is, gate)
