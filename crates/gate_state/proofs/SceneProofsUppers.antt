-- Upper entries that lead where they may: what that says of one, what is found below it, and that a walk comes to such
-- entries alone.
use Rattle.std.proofs.Common.{◌≡◌, ℕ, ◌+◌, ◌*◌, ◌/◌, ◌<◌, ◌≤◌, ◌==◌, ◌&&◌, true, false, List, length, refl, sym, ap, subst, ◌∙◌, arith, inl, inr}
use Rattle.std.specs.Prelude.{IfSome, Option, Some, None, Ok, nat_le, slice_get}
use Rattle.std.specs.Result.{result_ok}
use Rattle.std.proofs.lemmas.Bool.{and_from, and_parts, cases_Bool, cond-false, cond-true, eq-eqb, eqb-true, false≢true, le-leb, leb-true}
use Rattle.std.proofs.lemmas.List.Elements.{All-get_or}
use Rattle.std.proofs.lemmas.Option.{get_or_from_slice_get, slice_get_within}
use Rattle.nk_bits.specs.declared.kind.Kind.{Kind}
use Rattle.nk_bits.specs.declared.leaf.Leaf.{Leaf}
use Rattle.nk_bits.specs.declared.leaf.Upper.{Upper}
use Rattle.nk_bits.specs.Claims.{AllPass, Claim}
use Rattle.nk_bits.specs.Kinds.{allows, kind_of, level_of}
use Rattle.nk_bits.specs.Paging.{has_all, is_canonical, is_slot_page, page_of, upper_walk, walk_below}
use Rattle.nk_bits.specs.Translations.{Translations}
use Rattle.nk_bits.specs.UpperEntries.{KeptEntry, first_of_span, span_of}
use Rattle.phys_mem.specs.Memory.{entry_in}
use Rattle.nk_bits.specs.KernelLayout.{opening_root}
use Rattle.boot_map.specs.KernelSlot.{slot_leaf, slot_upper}
use Rattle.boot_map.specs.OpeningEntries.{opening_entry}
use Rattle.page_desc.specs.PageTables.{HoldsSoundTables}
use Rattle.gate_state.specs.GuardedStates.{AreKinds, IsAdmitted, KeepsOpeningBytes}
use Rattle.gate_state.specs.MachineStates.{Opening}
use Rattle.gate_state.specs.RespectedKinds.{is_alike, is_upper, leads}
use Rattle.gate_state.proofs.LowerLaws.{LowerLaws}
use Rattle.gate_state.proofs.SceneProofsRespects.{alike_same, canonical_page_of, same_alike, slot_bounds}

-- the entry that is kept at a place passes the test that every entry passes
pub entry_passes : (test : Claim) (tlb : Translations) (place : ℕ) (entry : KeptEntry) → slice_get tlb.upper place ≡ Some entry
    → AllPass test tlb → test.upper entry ≡ true
entry_passes test tlb place entry found all =
    subst (λ (e : KeptEntry). test.upper e ≡ true) (get_or_from_slice_get tlb.upper place entry entry found)
    (All-get_or (λ (e : KeptEntry). test.upper e ≡ true) tlb.upper place entry
    (slice_get_within tlb.upper place entry found) all.upper)

-- entries that are alike name one table with one right
upper_from : (laid it : Upper) → laid.frame ≡ it.frame → laid.rights.can_write ≡ it.rights.can_write
    → laid.rights.user ≡ it.rights.user → laid.rights.exec ≡ it.rights.exec → laid ≡ it
upper_from laid it frame write user exec =
    λ j. record { frame = frame j; rights = record { can_write = write j; user = user j; exec = exec j } }

upper_is : (found : Option Upper) (it : Upper) → is_upper found it ≡ true → found ≡ Some it
upper_is None it is = absurd (false≢true is)
upper_is (Some laid) it is =
    let exec = and_parts ((laid.frame == it.frame && is_alike laid.rights.can_write
    it.rights.can_write) && is_alike laid.rights.user it.rights.user) _ is in
    let user = and_parts (laid.frame == it.frame && is_alike laid.rights.can_write it.rights.can_write) _ exec.0 in
    let write = and_parts (laid.frame == it.frame) _ user.0 in
    ap Some (upper_from laid it (eqb-true laid.frame it.frame write.0) (alike_same _ _ write.1)
    (alike_same _ _ user.1) (alike_same _ _ exec.1))

is_upper_itself : (it : Upper) → is_upper (Some it) it ≡ true
is_upper_itself it =
    and_from _ _ (and_from _ _ (and_from _ _ (eq-eqb it.frame it.frame refl) (same_alike it.rights.can_write))
    (same_alike it.rights.user)) (same_alike it.rights.exec)

-- what the test of an entry says
pub record Leading (o : Opening) (ks : List Kind) (entry : KeptEntry) : Type 0 where
  pub least : 2 ≤ entry.0
  pub most : entry.0 ≤ 4
  pub within : is_slot_page (first_of_span entry.0 entry.1) ≡ true
      → slot_upper o.image o.frames (first_of_span entry.0 entry.1) entry.0 ≡ Some entry.2
  pub outside : is_slot_page (first_of_span entry.0 entry.1) ≡ false
      → (level_of (kind_of ks entry.2.frame) + 1 ≡ entry.0) × (has_all entry.2.rights ≡ true)

pub leading : (o : Opening) (ks : List Kind) (entry : KeptEntry) → leads o ks entry ≡ true → Leading o ks entry
unfolding leads
leading o ks entry is =
    let page : ℕ = first_of_span entry.0 entry.1 in
    let both = and_parts (nat_le 2 entry.0 && nat_le entry.0 4) _ is in
    let bounds = and_parts (nat_le 2 entry.0) (nat_le entry.0 4) both.0 in
    record {
      least = leb-true 2 entry.0 bounds.0;
      most = leb-true entry.0 4 bounds.1;
      within = λ on. upper_is (slot_upper o.image o.frames page entry.0) entry.2
          (sym (cond-true (is_slot_page page) _ _ on) ∙ both.1);
      outside = λ off.
          let parts = and_parts (level_of (kind_of ks entry.2.frame) + 1 == entry.0) (has_all entry.2.rights)
          (sym (cond-false (is_slot_page page) _ _ off) ∙ both.1) in
          (eqb-true (level_of (kind_of ks entry.2.frame) + 1) entry.0 parts.0, parts.1);
    }

module _ (o : Opening) (ks : List Kind) (level bits : ℕ) (it : Upper) (least : 2 ≤ level) (most : level ≤ 4) where
  bounded : (nat_le 2 level && nat_le level 4) ≡ true
  bounded = and_from (nat_le 2 level) (nat_le level 4) (le-leb 2 level least) (le-leb level 4 most)

  leads_within : is_slot_page (first_of_span level bits) ≡ true
      → slot_upper o.image o.frames (first_of_span level bits) level ≡ Some it → leads o ks (level, bits, it) ≡ true
  unfolding leads
  leads_within on laid =
      and_from (nat_le 2 level && nat_le level 4) _ bounded
      (cond-true (is_slot_page (first_of_span level bits)) _ _ on
      ∙ (ap (λ found. is_upper found it) laid ∙ is_upper_itself it))

  leads_outside : is_slot_page (first_of_span level bits) ≡ false → level_of (kind_of ks it.frame) + 1 ≡ level
      → has_all it.rights ≡ true → leads o ks (level, bits, it) ≡ true
  unfolding leads
  leads_outside off below all =
      and_from (nat_le 2 level && nat_le level 4) _ bounded
      (cond-false (is_slot_page (first_of_span level bits)) _ _ off
      ∙ and_from (level_of (kind_of ks it.frame) + 1 == level) (has_all it.rights) (eq-eqb _ _ below) all)

module _ (laws : LowerLaws) (o : Opening) (ks : List Kind) (admitted : IsAdmitted o) (kinds_are : AreKinds o ks) where
  -- the pages under an entry are the slot's or not as its first page is, and the layout has one entry for them
  module _ (level bits page : ℕ) (least : 2 ≤ level) (most : level ≤ 4) (under : bits ≡ span_of level page) where
    same_pages : span_of level (first_of_span level bits) ≡ span_of level page
    same_pages = laws.upper.first_page level bits ∙ under

    pub same_side : is_slot_page (first_of_span level bits) ≡ is_slot_page page
    same_side = laws.upper.same_slot (first_of_span level bits) page level (omega (arith, least)) most same_pages

    pub same_laid : slot_upper o.image o.frames (first_of_span level bits) level ≡ slot_upper o.image o.frames page level
    unfolding slot_upper
    same_laid =
        laws.upper.same_span (opening_entry o.image o.frames) o.frames opening_root (first_of_span level bits) page level
        (omega (arith, least)) most same_pages

  module _ (m : List ℕ) (held : KeepsOpeningBytes o ks m) where
    pub frames_are : length m / 4096 ≡ o.frames
    frames_are = omega (arith, held.size)

    -- what is found below an entry that leads: in the slot the layout's leaf
    pub laid_below : (level bits page : ℕ) (it : Upper) → leads o ks (level, bits, it) ≡ true → bits ≡ span_of level page
        → is_slot_page page ≡ true
        → result_ok (walk_below (entry_in m) (length m / 4096) page level it) ≡ slot_leaf o.image o.frames page
    laid_below level bits page it is under on =
        let lead : Leading o ks (level, bits, it) = leading o ks (level, bits, it) is in
        let bounds = slot_bounds page on in
        let laid : slot_upper o.image o.frames page level ≡ Some it =
        sym (same_laid level bits page lead.least lead.most under)
        ∙ lead.within (same_side level bits page lead.least lead.most under ∙ on) in
        ap (λ (frames : ℕ). result_ok (walk_below (entry_in m) frames page level it)) frames_are
        ∙ laws.slot_upper.below o.image o.frames page level it (entry_in m) admitted.layout admitted.pages held.slot
        bounds.0 bounds.1 lead.least lead.most laid

    -- such an entry names a frame in memory
    pub upper_within : (entry : KeptEntry) → leads o ks entry ≡ true → 4096 * entry.2.frame < length m
    upper_within entry is =
        let lead : Leading o ks entry = leading o ks entry is in
        let page : ℕ = first_of_span entry.0 entry.1 in
        elim (cases_Bool (is_slot_page page)) [
          | inl on ↦
              let Is : Option Upper → Type 0 = λ found. IfSome found (λ it. it.frame < o.frames) in
              let inside : entry.2.frame < o.frames = subst Is (lead.within on)
              (laws.slot_upper.in_memory o.image o.frames page entry.0 admitted.layout lead.least lead.most) in
              omega (arith, held.size, inside)
          | inr off ↦
              let below : level_of (kind_of ks entry.2.frame) + 1 ≡ entry.0 = (lead.outside off).0 in
              let inside : entry.2.frame < length ks =
              laws.kind.table_in_memory ks entry.2.frame (omega (arith, below, lead.least)) in
              omega (arith, held.size, inside, kinds_are.count)
        ]

    module _ (root : ℕ) (tables : HoldsSoundTables ks root m) where
      -- and outside the slot a leaf that its kind allows
      pub allowed_below : (level bits page : ℕ) (it : Upper) (leaf : Leaf) → leads o ks (level, bits, it) ≡ true
          → bits ≡ span_of level page → is_slot_page page ≡ false
          → walk_below (entry_in m) (length m / 4096) page level it ≡ Ok leaf
          → allows (kind_of ks leaf.frame) leaf.rights ≡ true
      allowed_below level bits page it leaf is under off found =
          let lead : Leading o ks (level, bits, it) = leading o ks (level, bits, it) is in
          let table = lead.outside (same_side level bits page lead.least lead.most under ∙ off) in
          laws.sound.below ks (entry_in m) (length m / 4096) page level it leaf tables.tables lead.least lead.most
          table.0 table.1 found

      -- the entry to which a walk comes leads
      pub walk_leads : (level va : ℕ) (it : Upper) → 2 ≤ level → level ≤ 4 → is_canonical va ≡ true
          → upper_walk (entry_in m) (length m / 4096) root (page_of va) level ≡ Some it
          → leads o ks (level, span_of level (page_of va), it) ≡ true
      walk_leads level va it least most canonical found =
          let page : ℕ = page_of va in
          let bits : ℕ = span_of level page in
          elim (cases_Bool (is_slot_page page)) [
            | inl on ↦
                let bounds = slot_bounds page on in
                let laid : slot_upper o.image o.frames page level ≡ Some it =
                sym (laws.slot_upper.any o.image o.frames root page level (entry_in m) admitted.layout admitted.pages
                held.slot (laws.sound.slot ks (entry_in m) root tables.tables tables.root_level) bounds.0 bounds.1 least most)
                ∙ (ap (λ (frames : ℕ). upper_walk (entry_in m) frames root page level) (sym frames_are) ∙ found) in
                leads_within o ks level bits it least most (same_side level bits page least most refl ∙ on)
                (same_laid level bits page least most refl ∙ laid)
            | inr off ↦
                let table = laws.sound.upper ks (entry_in m) (length m / 4096) root page level it tables.tables
                tables.root_level least most off (canonical_page_of va canonical) found in
                leads_outside o ks level bits it least most (same_side level bits page least most refl ∙ off) table.0 table.1
          ]
