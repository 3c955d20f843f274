-- Which bits a value that is present may have in a page table of the nested kernel. Bits 9 to 11 are free in both forms, and
-- bits 12 to 51 are the frame.
use Rattle.std.specs.Prelude.{ℕ, ◌/◌, ◌%◌, ◌^◌, Bool, not, ◌&&◌, ◌||◌, ◌==◌, if◌then◌else◌}
use Rattle.nk_bits.specs.Paging.{is_present, grants_writes}

-- in a table of level 2 to 4: bits 0, 1, 2 and 5 are set, bits 3, 4, 7, 8 and 52 to 63 are clear
unfoldable pub has_table_form : ℕ → Bool
has_table_form e = e % 64 == 39 && e / 128 % 4 == 0 && e / 2 ^ 52 % 2 ^ 12 == 0

-- in a table of level 1: bits 0 and 5 are set, bit 6 where bit 1 is, bits 3, 4, 7, 8 and 52 to 62 are clear
unfoldable pub has_leaf_form : ℕ → Bool
has_leaf_form e =
    is_present e && e / 8 % 8 == 4 && (not (grants_writes e) || e / 64 % 2 == 1) && e / 128 % 4 == 0 && e / 2 ^ 52 % 2 ^ 11 == 0

-- in a table of this level
abbrev pub has_form : ℕ → ℕ → Bool
has_form level e = if level == 1 then has_leaf_form e else has_table_form e
