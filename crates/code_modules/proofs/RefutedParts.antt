-- Parts, lists and placed parts that aren't so, each named by the sentence that it guards.
use Rattle.std.proofs.Common.{◌≡◌, ◌≢◌, ◌+◌, ◌<◌, ◌≤◌, ℕ, true, false, List, [], ◌∷◌, ◌++◌, length, sym, ap, ◌∙◌, inl, inr, arith}
use Rattle.std.proofs.lemmas.Bool.{false≢true}
use Rattle.std.proofs.lemmas.List.Elements.{All-head}
use Rattle.std.specs.List.{All, list_all, list_any, sum_by}
use Rattle.elf_image.specs.Home.{home_end, home_start}
use Rattle.elf_image.specs.Segments.{is_code_at}
use Rattle.code_modules.specs.FormWords.{AreJoinable, EachApart, EachGap, IsLoadable, LieApart, unplaced}
use Rattle.code_modules.specs.JoinAnswers.{ends_before_directory, part_first, part_last, part_pages}
use Rattle.code_modules.specs.JoinedFile.{FilePart, data_start, parts_end, placed_from}
use Rattle.code_modules.specs.JoinedParts.{CodeModule, JoinedPart, directory_part, joined_parts, modules_behind}
use Rattle.code_modules.specs.ListReading.{IsListLength}
use Rattle.code_modules.specs.ModuleList.{Listed}
use Rattle.code_modules.specs.PartWords.{IsLaidOut, IsPlacedTo}

-- a byte at the beginning of the home, with these flags
abbrev byte_with : ℕ → JoinedPart
byte_with flags = record { flags = flags; address = 0xFFFFFFFF80000000; memory_size = 1; bytes = 0x90 ∷ [] }

-- a flag of four bits; and a part that may be written and executed
flags_of_4_bits : IsLoadable (byte_with 8) → ⊥
flags_of_4_bits it = let flags : 8 < 8 = it.flags in omega (arith, flags)

written_code : IsLoadable (byte_with 7) → ⊥
written_code it = let no : true ≡ false = it.rights in false≢true (sym no)

module _ (part : JoinedPart) (it : IsLoadable part) where
  -- one that takes no memory, has a byte too many, or passes an end of the home by a byte
  no_memory : part.memory_size ≡ 0 → ⊥
  no_memory none = let takes = it.takes in omega (arith, none, takes)

  unloaded_byte : length part.bytes ≡ part.memory_size + 1 → ⊥
  unloaded_byte more = let backed = it.backed in omega (arith, more, backed)

  before_the_home : part.address + 1 ≡ home_start → ⊥
  before_the_home is = let above = it.above in omega (arith, is, above)

  past_the_home : part.address + part.memory_size ≡ home_end + 1 → ⊥
  past_the_home is = let below = it.below in omega (arith, is, below)

-- two parts of one page, and of pages side by side
abbrev at_page : ℕ → JoinedPart
at_page address = record { flags = 5; address = address; memory_size = 1; bytes = 0x90 ∷ [] }

same_page : EachApart (at_page 0xFFFFFFFF80000000 ∷ at_page 0xFFFFFFFF80000FFF ∷ []) → ⊥
same_page apart =
    elim (All-head (LieApart (at_page 0xFFFFFFFF80000000)) (at_page 0xFFFFFFFF80000FFF) [] apart.0) [
      | inl before ↦ omega (arith, before)
      | inr behind ↦ omega (arith, behind)
    ]

no_page_between : EachGap (at_page 0xFFFFFFFF80000000 ∷ at_page 0xFFFFFFFF80001000 ∷ []) → ⊥
no_page_between gaps =
    let gap : part_last (at_page 0xFFFFFFFF80000000) + 1 < part_first (at_page 0xFFFFFFFF80001000) =
    All-head (λ q. part_last (at_page 0xFFFFFFFF80000000) + 1 < part_first q) (at_page 0xFFFFFFFF80001000) [] gaps.0 in
    omega (arith, gap)

module _ (entry : ℕ) (parts : List JoinedPart) (it : AreJoinable entry parts) where
  -- no part, or 65; a page too many; and one that isn't loadable, or meets another
  no_part : parts ≡ [] → ⊥
  no_part none = let some = it.some in omega (arith, ap length none, some)

  part_65 : length parts ≡ 65 → ⊥
  part_65 many = let few = it.few in omega (arith, many, few)

  page_8193 : sum_by part_pages parts ≡ 8193 → ⊥
  page_8193 many = let pages = it.pages in omega (arith, many, pages)

  unloadable_part : (All IsLoadable parts → ⊥) → ⊥
  unloadable_part none = none it.each

  parts_that_meet : (EachApart parts → ⊥) → ⊥
  parts_that_meet none = none it.apart

  -- an entry outside code
  entry_elsewhere : list_any (λ p. is_code_at entry (unplaced p)) parts ≡ false → ⊥
  entry_elsewhere none = false≢true (sym none ∙ it.code)

-- a list of no module, or of 33
module _ (listed : List Listed) (it : IsListLength listed) where
  no_module : length listed ≡ 0 → ⊥
  no_module none = let some = it.some in omega (arith, none, some)

  module_33 : length listed ≡ 33 → ⊥
  module_33 many = let few = it.few in omega (arith, many, few)

-- parts that are placed otherwise, or end elsewhere
module _ (start : ℕ) (all : List JoinedPart) (placed : List FilePart) (end : ℕ) (rest : List JoinedPart)
    (it : IsPlacedTo start all placed end rest) where
  placed_elsewhere : placed ++ placed_from end rest ≢ placed_from start all → ⊥
  placed_elsewhere other = other it.listed

  ended_elsewhere : parts_end end (placed_from end rest) ≢ parts_end start (placed_from start all) → ⊥
  ended_elsewhere other = other it.ends

-- 65 parts, a module that reaches the directory, a place past 2^40, and parts that aren't placed
module _ (b : List ℕ) (modules : List CodeModule) (placed : List FilePart) (end : ℕ)
    (it : IsLaidOut b modules placed end) where
  laid_out_65 : length (joined_parts b modules) ≡ 65 → ⊥
  laid_out_65 many = let few = it.few in omega (arith, many, few)

  reached_directory : list_all ends_before_directory (modules_behind b modules) ≡ false → ⊥
  reached_directory reached = false≢true (sym reached ∙ it.below)

  far_end : end ≡ 0x10000000001 → ⊥
  far_end is = let small : end ≤ 0x10000000000 = it.small in omega (arith, is, small)

  unplaced_parts : (IsPlacedTo (data_start (length (joined_parts b modules))) (joined_parts b modules) placed end
      (directory_part (modules_behind b modules) ∷ []) → ⊥) → ⊥
  unplaced_parts none = none it.placed_to
