-- What the entries of the page tables may be, so that a walk outside the kernel slot finds only leaves that the kinds
-- of their frames allow, and so that each entry that is present has its form.
use Rattle.std.specs.Prelude.{◌≡◌, ◌<◌, ◌≤◌, ℕ, ◌+◌, Bool, true, not, ◌&&◌, ◌||◌, ◌==◌, if◌then◌else◌, List}
use Rattle.nk_bits.specs.declared.kind.Kind.{Kind}
use Rattle.nk_bits.specs.EntryForms.{has_form}
use Rattle.nk_bits.specs.Kinds.{allows, kind_of, level_of}
use Rattle.nk_bits.specs.Paging.{frame_of, grants_fetches, is_present, is_slot_entry, is_user, grants_writes, rights_of, slot_value}

-- the entry grants every right
abbrev pub grants_all : ℕ → Bool
grants_all e = grants_writes e && is_user e && grants_fetches e

-- the entry names a frame that holds a table of the level below this one, and grants every right
abbrev pub is_lawful_link : List Kind → ℕ → ℕ → Bool
is_lawful_link kinds level e = level_of (kind_of kinds (frame_of e)) + 1 == level && grants_all e

-- the kind of the frame that the entry names allows its rights
abbrev pub is_lawful_leaf : List Kind → ℕ → Bool
is_lawful_leaf kinds e = allows (kind_of kinds (frame_of e)) (rights_of e)

-- this value may stand as entry i of a table of this level: in the kernel slot's entry the slot's value alone, elsewhere
-- what isn't present, and what has the form of its level and is a lawful leaf at level 1, a lawful link above it
unfoldable pub is_lawful : List Kind → ℕ → ℕ → ℕ → Bool
is_lawful kinds level i e =
    if is_slot_entry level i then e == slot_value
    else not (is_present e) || (has_form level e && (if level == 1 then is_lawful_leaf kinds e else is_lawful_link kinds level e))

-- every entry of every table of level 1 to 4 is lawful
pub record AreTables (kinds : List Kind) (t : ℕ → ℕ → ℕ) : Type 0 where
  pub lawful : (f i : ℕ) → i < 512 → 1 ≤ level_of (kind_of kinds f) → level_of (kind_of kinds f) ≤ 4
      → is_lawful kinds (level_of (kind_of kinds f)) i (t f i) ≡ true
