-- The rules on a table entry's value at worked values. Of an entry bit 0 is P, 1 R/W, 2 U/S, 3 PWT, 4 PCD, 5 A, 6 D, 7 PS or
-- PAT, 8 G, 63 XD, and bits 51 to 12 name the frame: SDM volume 3, 4.5, tables 4-15 to 4-20.
use Rattle.std.proofs.Common.{◌≡◌, ℕ, true, false, Option, None, Some, List, [], ◌∷◌, refl}
use Rattle.nk_bits.specs.declared.kind.Kind.{Kind}
use Rattle.nk_bits.specs.declared.kind.Kind.TheVariants.{Code, Data, Fixed, Guarded, Hidden, Table, Trap}
use Rattle.nk_bits.specs.declared.rule.Rule.{Rule}
use Rattle.nk_bits.specs.declared.rule.Rule.TheVariants.{BadBits, BadTarget, TooFree}
use Rattle.nk_bits.specs.EntryForms.{has_leaf_form, has_table_form}
use Rattle.nk_bits.specs.Paging.{frame_of, grants_fetches, grants_writes, is_present, is_user}
use Rattle.table_rules.specs.ValueRules.{broken, is_target, value_rule}

-- eleven frames
abbrev kinds : List Kind
kinds =
    Data ∷ Table 1 ∷ Data ∷ Table 2 ∷ Trap ∷ Table 4 ∷ Fixed ∷ Table 3 ∷ Hidden ∷ Code ∷ Guarded ∷ []

-- the rule that a value breaks in a table of this level
abbrev rule : ℕ → ℕ → Option Rule
rule = value_rule kinds

-- the first that is broken is the answer
firsts :
    (broken true BadBits (Some TooFree) ≡ Some BadBits) × (broken false BadBits (Some TooFree) ≡ Some TooFree) ×
    (broken true BadBits None ≡ Some BadBits) × (broken false BadBits None ≡ None)
firsts = (refl, refl, refl, refl)

-- a leaf names a frame in memory that isn't hidden, frame 10 the last; a link a table of the next lower level
targets :
    (is_target kinds 1 0x2021 ≡ true) × (is_target kinds 1 0xA021 ≡ true) × (is_target kinds 1 0xB021 ≡ false) × (is_target kinds 1 0x8021 ≡ false) ×
    (is_target kinds 1 0x8000000000002021 ≡ true) × (is_target kinds 1 0x800000002021 ≡ false) ×
    (is_target kinds 2 0x1027 ≡ true) × (is_target kinds 2 0x3027 ≡ false) × (is_target kinds 2 0x0027 ≡ false) ×
    (is_target kinds 3 0x3027 ≡ true) × (is_target kinds 4 0x7027 ≡ true) × (is_target kinds 4 0x5027 ≡ false) ×
    (is_target kinds 4 0xB027 ≡ false)
unfolding frame_of
targets = (refl, refl, refl, refl, refl, refl, refl, refl, refl, refl, refl, refl, refl)

-- a value whose P is clear is free, at each level
absent :
    (rule 1 0 ≡ None) × (rule 1 0xFFFFFFFFFFFFFFFE ≡ None) × (rule 1 0xB186 ≡ None) × (rule 2 0x30A6 ≡ None) × (rule 3 0 ≡ None) ×
    (rule 4 0xFFFFFFFFFFFFFFFE ≡ None)
unfolding value_rule frame_of is_present is_user grants_writes grants_fetches has_leaf_form has_table_form
absent = (refl, refl, refl, refl, refl, refl)

-- leaves of data: read-only, writable, user, and user and executable; the bits 9 to 11 are free
leaves :
    (rule 1 0x8000000000002021 ≡ None) × (rule 1 0x8000000000002063 ≡ None) × (rule 1 0x8000000000002067 ≡ None) × (rule 1 0x2067 ≡ None) ×
    (rule 1 0x2025 ≡ None) × (rule 1 0x8000000000002E21 ≡ None) × (rule 1 0x8000000000000021 ≡ None)
unfolding value_rule frame_of is_present is_user grants_writes grants_fetches has_leaf_form has_table_form
leaves = (refl, refl, refl, refl, refl, refl, refl)

-- a leaf lacks A, or is writable and lacks D, or has PWT, PCD, PAT, G, or one of the bits 52 to 62
leaf_bits :
    (rule 1 0x8000000000002001 ≡ Some BadBits) × (rule 1 0x8000000000002023 ≡ Some BadBits) × (rule 1 0x8000000000002029 ≡ Some BadBits) ×
    (rule 1 0x8000000000002031 ≡ Some BadBits) × (rule 1 0x80000000000020A1 ≡ Some BadBits) × (rule 1 0x8000000000002121 ≡ Some BadBits) ×
    (rule 1 0x8010000000002021 ≡ Some BadBits) × (rule 1 0xC000000000002021 ≡ Some BadBits) × (rule 1 1 ≡ Some BadBits) ×
    (rule 1 0xFFFFFFFFFFFFFFFF ≡ Some BadBits)
unfolding value_rule frame_of is_present is_user grants_writes grants_fetches has_leaf_form has_table_form
leaf_bits = (refl, refl, refl, refl, refl, refl, refl, refl, refl, refl)

-- a leaf names a frame outside memory: the first one, and the last that 40 bits name; or a hidden one
leaf_targets :
    (rule 1 0x800000000000B021 ≡ Some BadTarget) × (rule 1 0x800FFFFFFFFFF021 ≡ Some BadTarget) × (rule 1 0x8000000000008021 ≡ Some BadTarget) ×
    (rule 1 0x800000000000A021 ≡ None)
unfolding value_rule frame_of is_present is_user grants_writes grants_fetches has_leaf_form has_table_form
leaf_targets = (refl, refl, refl, refl)

-- supervisor code in data; of tables, code, the fixed and the guarded frames any right; of the trap stack's frame, which may be
-- written, user and executable
leaf_rights :
    (rule 1 0x2021 ≡ Some TooFree) × (rule 1 0x2063 ≡ Some TooFree) × (rule 1 0x8000000000001021 ≡ None) × (rule 1 0x8000000000001063 ≡ Some TooFree) ×
    (rule 1 0x8000000000001025 ≡ Some TooFree) × (rule 1 0x1021 ≡ Some TooFree) × (rule 1 0x8000000000005063 ≡ Some TooFree) ×
    (rule 1 0x8000000000009021 ≡ None) × (rule 1 0x9021 ≡ Some TooFree) × (rule 1 0x8000000000009025 ≡ Some TooFree) ×
    (rule 1 0x8000000000006063 ≡ Some TooFree) × (rule 1 0x800000000000A063 ≡ Some TooFree) × (rule 1 0x800000000000A025 ≡ Some TooFree) ×
    (rule 1 0x8000000000004063 ≡ None) × (rule 1 0x8000000000004025 ≡ Some TooFree) × (rule 1 0x4021 ≡ Some TooFree)
unfolding value_rule frame_of is_present is_user grants_writes grants_fetches has_leaf_form has_table_form
leaf_rights = (refl, refl, refl, refl, refl, refl, refl, refl, refl, refl, refl, refl, refl, refl, refl, refl)

-- a link grants every right and has A: P, R/W, U/S and A are set, XD, PWT, PCD, PS and bit 8 clear; bit 6 and the bits 9 to 11
-- are free
link_bits :
    (rule 2 0x1027 ≡ None) × (rule 2 0x1067 ≡ None) × (rule 2 0x1E27 ≡ None) × (rule 2 0x1025 ≡ Some BadBits) × (rule 2 0x1023 ≡ Some BadBits) ×
    (rule 2 0x1007 ≡ Some BadBits) × (rule 2 0x102F ≡ Some BadBits) × (rule 2 0x1037 ≡ Some BadBits) × (rule 2 0x10A7 ≡ Some BadBits) ×
    (rule 2 0x1127 ≡ Some BadBits) × (rule 2 0x8000000000001027 ≡ Some BadBits) × (rule 2 0x0010000000001027 ≡ Some BadBits) ×
    (rule 3 0x30A7 ≡ Some BadBits) × (rule 4 0x8000000000007027 ≡ Some BadBits)
unfolding value_rule frame_of is_present is_user grants_writes grants_fetches has_leaf_form has_table_form
link_bits = (refl, refl, refl, refl, refl, refl, refl, refl, refl, refl, refl, refl, refl, refl)

-- a link names data, a table of its own level, of one above, of two below, or a frame outside memory
link_targets :
    (rule 2 0x2027 ≡ Some BadTarget) × (rule 2 0x3027 ≡ Some BadTarget) × (rule 2 0x7027 ≡ Some BadTarget) × (rule 2 0xB027 ≡ Some BadTarget) ×
    (rule 3 0x3027 ≡ None) × (rule 3 0x1027 ≡ Some BadTarget) × (rule 3 0x7027 ≡ Some BadTarget) × (rule 4 0x7027 ≡ None) ×
    (rule 4 0x3027 ≡ Some BadTarget) × (rule 4 0x5027 ≡ Some BadTarget) × (rule 4 0x6027 ≡ Some BadTarget)
unfolding value_rule frame_of is_present is_user grants_writes grants_fetches has_leaf_form has_table_form
link_targets = (refl, refl, refl, refl, refl, refl, refl, refl, refl, refl, refl)

-- bits come before the target, and the target before rights
orders :
    (rule 1 0x800000000000B121 ≡ Some BadBits) × (rule 1 0xB063 ≡ Some BadTarget) × (rule 1 0x8063 ≡ Some BadTarget) × (rule 1 0x1123 ≡ Some BadBits) ×
    (rule 2 0x8000000000003027 ≡ Some BadBits)
unfolding value_rule frame_of is_present is_user grants_writes grants_fetches has_leaf_form has_table_form
orders = (refl, refl, refl, refl, refl)
