-- Which translations respect the kinds of frames: outside the kernel slot by the rights that the kind allows, and in the
-- slot those of its linear layout; and to which tables upper entries may lead.
use Rattle.std.specs.Prelude.{ℕ, ◌+◌, nat_le, Bool, true, false, not, ◌==◌, ◌&&◌, ◌||◌, if◌then◌else◌, List, Option, None, Some}
use Rattle.nk_bits.specs.declared.kind.Kind.{Kind}
use Rattle.nk_bits.specs.declared.kind.Kind.TheVariants.{Code}
use Rattle.nk_bits.specs.declared.leaf.Leaf.{Leaf}
use Rattle.nk_bits.specs.declared.leaf.Upper.{Upper}
use Rattle.nk_bits.specs.Claims.{Claim}
use Rattle.nk_bits.specs.Kinds.{allows, is_storable, kind_of, level_of}
use Rattle.nk_bits.specs.Paging.{has_all, is_slot_page}
use Rattle.nk_bits.specs.UpperEntries.{KeptEntry, first_of_span}
use Rattle.nk_bits.specs.KernelLayout.{gate_text}
use Rattle.boot_map.specs.KernelSlot.{slot_leaf, slot_upper}
use Rattle.gate_state.specs.MachineStates.{Opening}

-- the frame holds code of the image
abbrev pub is_code : Kind → Bool
is_code Code = true
is_code _ = false

-- two truth values are one
abbrev pub is_alike : Bool → Bool → Bool
is_alike a b = if a then b else not b

-- the layout has this leaf
abbrev pub is_leaf : Option Leaf → Leaf → Bool
is_leaf None leaf = false
is_leaf (Some laid) leaf =
    laid.frame == leaf.frame
    && is_alike laid.rights.can_write leaf.rights.can_write
    && is_alike laid.rights.user leaf.rights.user
    && is_alike laid.rights.exec leaf.rights.exec

-- what may be written is data or the trap stack; what may be executed is the gates' text, in frame 1, or code
abbrev pub fits_kind : List Kind → Leaf → Bool
fits_kind kinds leaf =
    (not leaf.rights.can_write || is_storable (kind_of kinds leaf.frame))
    && (not leaf.rights.exec || (leaf.frame == gate_text || is_code (kind_of kinds leaf.frame)))

-- the translation of a page respects the kinds: outside the slot the kind of the frame allows its rights, which a kind does
-- for frames in memory alone
unfoldable pub respects : Opening → List Kind → ℕ × Leaf → Bool
respects o kinds pair =
    if is_slot_page pair.0
    then is_leaf (slot_leaf o.image o.frames pair.0) pair.1 && fits_kind kinds pair.1
    else allows (kind_of kinds pair.1.frame) pair.1.rights

-- what is named has this frame and these rights
abbrev pub is_upper : Option Upper → Upper → Bool
is_upper None it = false
is_upper (Some laid) it =
    laid.frame == it.frame
    && is_alike laid.rights.can_write it.rights.can_write
    && is_alike laid.rights.user it.rights.user
    && is_alike laid.rights.exec it.rights.exec

-- an upper entry is of level 2, 3 or 4; outside the kernel slot it has all rights and names a table one level below its own,
-- and in it, it is what the layout gives
unfoldable pub leads : Opening → List Kind → KeptEntry → Bool
leads o kinds entry =
    nat_le 2 entry.0 && nat_le entry.0 4
    && (if is_slot_page (first_of_span entry.0 entry.1)
    then is_upper (slot_upper o.image o.frames (first_of_span entry.0 entry.1) entry.0) entry.2
    else level_of (kind_of kinds entry.2.frame) + 1 == entry.0
    && has_all entry.2.rights)

-- what holds of all that the processor keeps: each pair respects the kinds, each upper entry leads where it may, and no more
-- is kept than the processor keeps, and nothing twice
abbrev pub respecting : Opening → List Kind → Claim
respecting o kinds = record { pair = respects o kinds; upper = leads o kinds; limited = true }
