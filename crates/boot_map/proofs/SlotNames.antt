-- Where the kernel slot's upper tables lead: its table of level 3 to the two tables of level 2, the nested area's to its
-- table of level 1.
use Rattle.std.proofs.Common.{◌≡◌, ◌==◌, ◌⊎◌, ℕ, ◌<◌, ◌≤◌, true, if◌then◌else◌, List, refl, sym, subst, ◌∙◌, arith, inl, inr}
use Rattle.std.proofs.lemmas.Bool.{cond_both}
use Rattle.nk_bits.specs.Paging.{frame_of, is_present}
use Rattle.nk_bits.specs.KernelLayout.{area_directory, area_table, image_directory, slot_table}
use Rattle.boot_map.specs.Division.{IsLayout, division_of}
use Rattle.boot_map.specs.Parts.{part_at}
use Rattle.boot_map.specs.OpeningEntries.{link, slot_entry}
use Rattle.boot_map.specs.KernelSlot.{HoldsSlot}
use Rattle.boot_map.proofs.EntryBits.{none_present}
use Rattle.boot_map.proofs.WalkLaws.{entry_within, frame_of_link}

-- an entry that is, if present, a link to one of the two tables of level 2
abbrev NamesDirectory : ℕ → Type 0
NamesDirectory e = is_present e ≡ true → (frame_of e ≡ area_directory) ⊎ (frame_of e ≡ image_directory)

-- and one to the nested area's table of level 1
abbrev NamesArea : ℕ → Type 0
NamesArea e = is_present e ≡ true → frame_of e ≡ area_table

slot_entry_names : (i : ℕ) → NamesDirectory (slot_entry i)
slot_entry_names i =
    cond_both (i == 0) _ _ NamesDirectory (λ u p. inl (frame_of_link area_directory (omega arith))) (λ u.
    cond_both (i == 510) _ _ NamesDirectory (λ v p. inr (frame_of_link image_directory (omega arith)))
    (λ v. none_present ((frame_of 0 ≡ area_directory) ⊎ (frame_of 0 ≡ image_directory))))

area_entry_names : (i : ℕ) → NamesArea (if i == 0 then link area_table else 0)
area_entry_names i =
    cond_both (i == 0) _ _ NamesArea (λ u p. frame_of_link area_table (omega arith))
    (λ u. none_present (frame_of 0 ≡ area_table))

module _ (b : List ℕ) (frames i : ℕ) (t : ℕ → ℕ → ℕ) (layout : IsLayout b (division_of b frames))
    (holds : HoldsSlot b frames t) (small : i < 512) where
  held_slot_entry : t slot_table i ≡ slot_entry i
  unfolding part_at
  held_slot_entry =
      let least : 512 ≤ frames = layout.least in
      holds.entries slot_table i (omega arith) small refl ∙ entry_within b frames slot_table i small

  held_area_entry : t area_directory i ≡ (if i == 0 then link area_table else 0)
  unfolding part_at
  held_area_entry =
      let least : 512 ≤ frames = layout.least in
      holds.entries area_directory i (omega arith) small refl ∙ entry_within b frames area_directory i small

  pub slot_names : is_present (t slot_table i) ≡ true
      → (frame_of (t slot_table i) ≡ area_directory) ⊎ (frame_of (t slot_table i) ≡ image_directory)
  slot_names = subst NamesDirectory (sym held_slot_entry) (slot_entry_names i)

  pub area_names : is_present (t area_directory i) ≡ true → frame_of (t area_directory i) ≡ area_table
  area_names = subst NamesArea (sym held_area_entry) (area_entry_names i)
