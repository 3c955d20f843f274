-- The upper entries of the kernel slot's pages: a walk in any tables that hold the slot comes to those of the opening, and
-- below each of them it finds the slot's linear layout.
use Rattle.std.proofs.Common.{◌≡◌, ℕ, zero, suc, ◌+◌, ◌-◌, ◌^◌, ◌<◌, ◌≤◌, List, Option, Some, None, sym, ap, subst, ◌∙◌, arith}
use Rattle.std.specs.Prelude.{IfSome}
use Rattle.std.specs.Result.{result_ok}
use Rattle.nk_bits.specs.declared.leaf.Rights.{Rights}
use Rattle.nk_bits.specs.declared.leaf.Upper.{Upper}
use Rattle.nk_bits.specs.Paging.{all_rights, page_index, slot_value, upper_from, upper_walk, walk_below, walk_from}
use Rattle.elf_image.specs.Pages.{IsPageList, pages_of}
use Rattle.nk_bits.specs.KernelLayout.{opening_root, slot_table}
use Rattle.nk_bits.specs.WalkLaws.{UpperLaws}
use Rattle.boot_map.specs.Division.{IsLayout, division_of, free_start}
use Rattle.boot_map.specs.OpeningEntries.{link, opening_entry}
use Rattle.boot_map.specs.KernelSlot.{HoldsSlot, slot_leaf, slot_start, slot_upper}
use Rattle.boot_map.proofs.SlotLaws.{root_entry_511, slot_indices, slot_walk, upper_step_link}
use Rattle.boot_map.proofs.SlotTables.{IsSlotTableAt, at_slot_table, slot_link, stays}
use Rattle.boot_map.proofs.WalkLaws.{IsTableAt, carries, index_small, root_at}
use Rattle.boot_map.proofs.WalkSchema.{upper_alike, upper_has, walk_alike, walk_by_level}

-- the layout has at least so many frames, and no more than an entry can name
small_layout : (b : List ℕ) (frames : ℕ) → IsLayout b (division_of b frames) → (512 ≤ frames) × (free_start (division_of b frames) ≤ 2 ^ 40)
small_layout b frames layout =
    let least : 512 ≤ frames = layout.least in
    let most : frames ≤ 65536 = layout.most in
    let room : free_start (division_of b frames) ≤ frames = layout.room in
    (least, omega arith)

-- from a root whose entry 511 is the slot's the first look-up comes to its table of level 3
past_root : (b : List ℕ) (frames root page left : ℕ) (t : ℕ → ℕ → ℕ) → IsLayout b (division_of b frames) → t root 511 ≡ link slot_table → slot_start ≤ page → page < 2 ^ 52
    → upper_from t frames page (suc left) 4 root all_rights ≡ upper_from t frames page left 3 slot_table all_rights
past_root b frames root page left t layout entry low high =
    upper_step_link t frames page left 3 root slot_table (ap (t root) (slot_indices page low high).0 ∙ entry) (omega (arith, (small_layout b frames layout).0)) (omega arith)

-- over tables that hold the slot
module _ (b : List ℕ) (frames page : ℕ) (t : ℕ → ℕ → ℕ) (layout : IsLayout b (division_of b frames)) (holds : HoldsSlot b frames t)
    (low : slot_start ≤ page) (high : page < 2 ^ 52) where
  agree : (level f : ℕ) (r : Rights) → IsSlotTableAt (division_of b frames) (suc level) f r → t f (page_index page (suc level)) ≡ opening_entry b frames f (page_index page (suc level))
  agree level f r table = holds.entries f (page_index page (suc level)) (table.0).0 (index_small page (suc level)) table.1

  same_below : (left root : ℕ) → t root 511 ≡ slot_value → upper_from t frames page (suc left) 4 root all_rights ≡ upper_from (opening_entry b frames) frames page (suc left) 4 opening_root all_rights
  same_below left root entry =
      past_root b frames root page left t layout (entry ∙ sym slot_link) low high
      ∙ upper_alike (opening_entry b frames) frames page (IsSlotTableAt (division_of b frames)) (stays b frames page (small_layout b frames layout).1) t agree
      left 3 slot_table all_rights (at_slot_table b frames layout)
      ∙ sym (past_root b frames opening_root page left (opening_entry b frames) layout (root_entry_511 b frames) low high)

  stays_below : (left rest : ℕ) → 3 ≡ left + rest
      → IfSome (upper_from (opening_entry b frames) frames page (suc left) 4 opening_root all_rights) (λ it. IsSlotTableAt (division_of b frames) rest it.frame it.rights)
  stays_below left rest is =
      subst (λ o. IfSome o (λ it. IsSlotTableAt (division_of b frames) rest it.frame it.rights)) (sym (past_root b frames opening_root page left (opening_entry b frames) layout (root_entry_511 b frames) low high))
      (upper_has (opening_entry b frames) frames page (IsSlotTableAt (division_of b frames)) (stays b frames page (small_layout b frames layout).1) left rest 3 slot_table all_rights is (at_slot_table b frames layout))

pub slot_upper_any : (b : List ℕ) (frames root page level : ℕ) (t : ℕ → ℕ → ℕ) → IsLayout b (division_of b frames) → IsPageList b (pages_of b) → HoldsSlot b frames t
    → t root 511 ≡ slot_value → slot_start ≤ page → page < 2 ^ 52 → 2 ≤ level → level ≤ 4 → upper_walk t frames root page level ≡ slot_upper b frames page level
unfolding slot_upper
slot_upper_any b frames root page level t layout list holds entry low high least most =
    let left : 5 - level ≡ suc (4 - level) = omega arith in
    ap (λ n. upper_from t frames page n 4 root all_rights) left
    ∙ same_below b frames page t layout holds low high (4 - level) root entry
    ∙ ap (λ n. upper_from (opening_entry b frames) frames page n 4 opening_root all_rights) (sym left)

pub slot_upper_in_memory : (b : List ℕ) (frames page level : ℕ) → IsLayout b (division_of b frames) → 2 ≤ level → level ≤ 4
    → IfSome (slot_upper b frames page level) (λ it. it.frame < frames)
unfolding slot_upper
slot_upper_in_memory b frames page zero layout least most = absurd (omega (arith, least))
slot_upper_in_memory b frames page (suc zero) layout least most = absurd (omega (arith, least))
slot_upper_in_memory b frames page (suc (suc level)) layout least most =
    let small = small_layout b frames layout in
    some_weaker (upper_walk (opening_entry b frames) frames opening_root page (suc (suc level))) (λ it. IsTableAt (division_of b frames) (suc level) it.frame it.rights) (λ it. it.frame < frames)
    (λ it table. table.0)
    (upper_has (opening_entry b frames) frames page (IsTableAt (division_of b frames)) (carries b frames page small.1) (5 - suc (suc level)) (suc level) 4 opening_root all_rights (omega (arith, most))
    (omega (arith, small.0), root_at (division_of b frames)))
  where
    some_weaker : (o : Option Upper) (P Q : Upper → Type 0) → ((it : Upper) → P it → Q it) → IfSome o P → IfSome o Q
    some_weaker (Some it) P Q weaker h = weaker it h
    some_weaker None P Q weaker h = tt

-- what is left of a walk from any upper entry that a walk of the opening's entries came to
module _ (laws : UpperLaws) where
  pub slot_upper_below : (b : List ℕ) (frames page level : ℕ) (it : Upper) (t : ℕ → ℕ → ℕ) → IsLayout b (division_of b frames) → IsPageList b (pages_of b) → HoldsSlot b frames t
      → slot_start ≤ page → page < 2 ^ 52 → 2 ≤ level → level ≤ 4 → slot_upper b frames page level ≡ Some it
      → result_ok (walk_below t frames page level it) ≡ slot_leaf b frames page
  unfolding slot_upper
  slot_upper_below b frames page level it t layout list holds low high least most found =
      let opening : ℕ → ℕ → ℕ = opening_entry b frames in
      let left : 5 - level ≡ suc (4 - level) = omega arith in
      let rest : 4 - (5 - level) ≡ level - 1 = omega arith in
      let reached : IsSlotTableAt (division_of b frames) (level - 1) it.frame it.rights =
      subst (λ o. IfSome o (λ it. IsSlotTableAt (division_of b frames) (level - 1) it.frame it.rights)) (ap (λ n. upper_from opening frames page n 4 opening_root all_rights) (sym left) ∙ found)
      (stays_below b frames page t layout holds low high (4 - level) (level - 1) (omega arith)) in
      ap result_ok
      (walk_alike opening frames page (IsSlotTableAt (division_of b frames)) (stays b frames page (small_layout b frames layout).1) t (agree b frames page t layout holds low high) (level - 1) it.frame it.rights reached
      ∙ ap (λ n. walk_from opening frames page n it.frame it.rights) (sym rest)
      ∙ sym (laws.walks opening frames page (5 - level) 4 opening_root all_rights it found)
      ∙ sym (walk_by_level opening frames opening_root page))
      ∙ slot_walk b frames page layout list low high
