-- Which rule a value breaks that is to stand in a page table: the first of a list.
use Rattle.std.specs.Prelude.{ℕ, ◌+◌, Bool, not, ◌&&◌, ◌==◌, nat_lt, if◌then◌else◌, List, length, Option, None, Some}
use Rattle.nk_bits.specs.declared.kind.Kind.{Kind}
use Rattle.nk_bits.specs.declared.rule.Rule.{Rule}
use Rattle.nk_bits.specs.declared.rule.Rule.TheVariants.{BadBits, BadTarget, TooFree}
use Rattle.nk_bits.specs.EntryForms.{has_form}
use Rattle.nk_bits.specs.Kinds.{allows, is_hidden, kind_of, level_of}
use Rattle.nk_bits.specs.Paging.{frame_of, is_present, rights_of}

-- the rule is the first that is broken, where this is so, and else one of the later rules, if any
abbrev pub broken : Bool → Rule → Option Rule → Option Rule
broken is_broken rule later = if is_broken then Some rule else later

-- the value names a frame in memory: at level 1 one that isn't hidden, above it a table of the next lower level
abbrev pub is_target : List Kind → ℕ → ℕ → Bool
is_target kinds level e =
    nat_lt (frame_of e) (length kinds)
    && (if level == 1 then not (is_hidden (kind_of kinds (frame_of e))) else level_of (kind_of kinds (frame_of e)) + 1 == level)

-- a present value has the bits of its level's form, names a target, and, at level 1, has no right that the kind of its
-- frame forbids; a value that isn't present breaks no rule
unfoldable pub value_rule : List Kind → ℕ → ℕ → Option Rule
value_rule kinds level e =
    broken (is_present e && not (has_form level e)) BadBits
    (broken (is_present e && not (is_target kinds level e)) BadTarget
    (broken (is_present e && (level == 1 && not (allows (kind_of kinds (frame_of e)) (rights_of e)))) TooFree None))
