-- A slot of a group, by its place in the list of all.
use Rattle.std.proofs.Common.{◌≡◌, ℕ, ◌<◌, ◌≤◌, ◌+◌, List, take, drop, get_or, length, sym, ◌∙◌}
use Rattle.std.proofs.lemmas.List.{get_or-take, get_or-drop, get_or_past}
use Rattle.x86_decode.specs.declared.entry.Slot.{Slot}

pub slot_at : (slots : List Slot) (first place : ℕ) (none : Slot) → place < 8 → get_or slots (first + place) none ≡ get_or (take 8 (drop first slots)) place none
slot_at slots first place none small =
    sym (get_or-take 8 (drop first slots) place none small ∙ get_or-drop first slots place none)

pub slot_past : (slots : List Slot) (first place : ℕ) (none : Slot) → place < 8 → length slots ≤ first + place → none ≡ get_or (take 8 (drop first slots)) place none
slot_past slots first place none small past =
    sym (get_or_past slots (first + place) none past) ∙ slot_at slots first place none small
