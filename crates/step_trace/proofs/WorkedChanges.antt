-- Changes and lines at worked values.
use Rattle.std.proofs.Common.{◌≡◌, ℕ, true, false, [], ◌∷◌, refl}
use Rattle.nk_bits.specs.declared.leaf.Leaf.{Leaf}
use Rattle.nk_bits.specs.declared.leaf.Upper.{Upper}
use Rattle.nk_bits.specs.Translations.{Translations}
use Rattle.step_trace.specs.StepChanges.{Dropped, Filled, Flag, Flushed, Forgotten, General, Kept, Stored, drops, fills, flag_changes, forgets, general_changes, keeps, named_flags, runs, translation_changes}
use Rattle.step_trace.specs.Traces.{is_at}

-- RCX goes from 5 to 7, and RAX stays
rcx_changes : general_changes 0 (1 ∷ 5 ∷ []) (1 ∷ 7 ∷ []) ≡ General 1 7 ∷ []
rcx_changes = refl

-- CF and ZF are set, and nothing else
two_flags : flag_changes named_flags 2 67 ≡ Flag 0 true ∷ Flag 6 true ∷ []
two_flags = refl

-- one byte of three
one_byte : runs 4096 0 (0 ∷ 0 ∷ 0 ∷ []) (0 ∷ 7 ∷ 0 ∷ []) ≡ Stored 4097 (7 ∷ []) ∷ []
one_byte = refl

-- two bytes with one between them that stays are one run; with eight between them they are two
one_run : runs 0 0 (0 ∷ 5 ∷ 0 ∷ []) (1 ∷ 5 ∷ 1 ∷ []) ≡ Stored 0 (1 ∷ 5 ∷ 1 ∷ []) ∷ []
one_run = refl

two_runs : runs 0 0 (0 ∷ 5 ∷ 5 ∷ 5 ∷ 5 ∷ 5 ∷ 5 ∷ 5 ∷ 5 ∷ 0 ∷ []) (1 ∷ 5 ∷ 5 ∷ 5 ∷ 5 ∷ 5 ∷ 5 ∷ 5 ∷ 5 ∷ 1 ∷ [])
    ≡ Stored 0 (1 ∷ []) ∷ Stored 9 (1 ∷ []) ∷ []
two_runs = refl

-- a page's translation is filled, another one's is dropped, and one that stays is told by neither
abbrev leaf : ℕ → Leaf
leaf frame = record { frame = frame; rights = record { can_write = true; user = false; exec = false } }

filled : fills ((1, leaf 9) ∷ []) ((1, leaf 9) ∷ (2, leaf 8) ∷ []) ≡ Filled 2 (leaf 8) ∷ []
filled = refl

filled_anew : fills ((1, leaf 9) ∷ []) ((1, leaf 8) ∷ []) ≡ Filled 1 (leaf 8) ∷ []
filled_anew = refl

dropped : drops ((1, leaf 9) ∷ (2, leaf 8) ∷ []) ((1, leaf 9) ∷ []) ≡ Dropped 2 ∷ []
dropped = refl

-- an upper entry is kept, and another is forgotten
abbrev upper : ℕ → Upper
upper frame = record { frame = frame; rights = record { can_write = true; user = false; exec = false } }

kept_one : keeps ((2, 1, upper 9) ∷ []) ((2, 1, upper 9) ∷ (3, 0, upper 8) ∷ []) ≡ Kept 3 0 (upper 8) ∷ []
kept_one = refl

forgotten_one : forgets ((2, 1, upper 9) ∷ (3, 0, upper 8) ∷ []) ((2, 1, upper 9) ∷ []) ≡ Forgotten 3 0 ∷ []
forgotten_one = refl

-- an answer that drops all that is kept is told in place of each
flushed_all : (before after : Translations) → translation_changes true before after ≡ Flushed ∷ []
flushed_all before after = refl

-- the second of two addresses ends a trace, and no other does
second_address : is_at (4096 ∷ 8192 ∷ []) 8192 ≡ true
second_address = refl

no_address : is_at (4096 ∷ 8192 ∷ []) 4097 ≡ false
no_address = refl
