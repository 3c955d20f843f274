-- 4-level paging, after SDM volume 3, 4.5: the entries of page tables, the index of each level, and the walk.
--
-- A table function t gives the value of entry i of the table in frame f as t f i, so that one walk serves the tables in
-- memory and any other record of them. The walk takes a page number, which is the linear address divided by 4,096.
use Rattle.std.specs.Prelude.{ℕ, zero, suc, ◌+◌, ◌-◌, ◌*◌, ◌/◌, ◌%◌, ◌^◌, Bool, true, not, ◌&&◌, ◌||◌, ◌==◌, if◌then◌else◌, nat_le, Option, Some, None, Result, Ok, Err}
use Rattle.nk_bits.specs.declared.leaf.Rights.{Rights}
use Rattle.nk_bits.specs.declared.leaf.Leaf.{Leaf}
use Rattle.nk_bits.specs.declared.leaf.Upper.{Upper}

-- the number of the page of a linear address
abbrev pub page_of : ℕ → ℕ
page_of va = va / 4096

-- bits 63 to 47 of a linear address are equal
abbrev pub is_canonical : ℕ → Bool
is_canonical va = (va / 2 ^ 47 == 0) || (va / 2 ^ 47 == 2 ^ 17 - 1)

-- a page is canonical where its addresses are; a linear address has 64 bits
abbrev pub is_canonical_page : ℕ → Bool
is_canonical_page page = is_canonical (4096 * page)

-- the page is one of the kernel slot's, which entry 511 of every table of level 4 names: 512 GiB up to the last address
abbrev pub is_slot_page : ℕ → Bool
is_slot_page page = page / 2 ^ 27 == 2 ^ 25 - 1

-- the index of a page's entry in its table of this level: the page number's digit in base 512
unfoldable pub page_index : ℕ → ℕ → ℕ
page_index page level = page / 512 ^ (level - 1) % 512

-- bit 0, P: the entry is present
unfoldable pub is_present : ℕ → Bool
is_present e = e % 2 == 1

-- bit 1, R/W: writes are granted
unfoldable pub grants_writes : ℕ → Bool
grants_writes e = e / 2 % 2 == 1

-- bit 2, U/S: access at CPL 3 is granted
unfoldable pub is_user : ℕ → Bool
is_user e = e / 4 % 2 == 1

-- bit 7, PS: in a table of level 3 or 2 the entry names a large page
unfoldable pub is_large : ℕ → Bool
is_large e = e / 128 % 2 == 1

-- bit 63, XD, clear: instruction fetches are granted
unfoldable pub grants_fetches : ℕ → Bool
grants_fetches e = not (e / 2 ^ 63 % 2 == 1)

-- bits 51 to 12: the frame that the entry names
unfoldable pub frame_of : ℕ → ℕ
frame_of e = e / 4096 % 2 ^ 40

-- the ten bits of an entry that have a name: 0 to 8 and 63
unfoldable pub named_bits : ℕ → ℕ
named_bits e = e / 2 ^ 63 % 2 * 2 ^ 63 + e % 512

-- the rights that one entry grants
abbrev pub rights_of : ℕ → Rights
rights_of e = record { can_write = grants_writes e; user = is_user e; exec = grants_fetches e }

-- the rights that both grant
abbrev pub common : Rights → Rights → Rights
common a b = record { can_write = a.can_write && b.can_write; user = a.user && b.user; exec = a.exec && b.exec }

-- every right
abbrev pub all_rights : Rights
all_rights = record { can_write = true; user = true; exec = true }

-- every right is granted
abbrev pub has_all : Rights → Bool
has_all r = r.can_write && r.user && r.exec

-- the entry of a table of this level is missing: P is clear, the frame isn't in memory, or it names a large page
unfoldable pub is_missing : ℕ → ℕ → ℕ → Bool
is_missing frames level e = not (is_present e) || nat_le frames (frame_of e) || ((level == 3 || level == 2) && is_large e)

-- the walk: four look-ups, from the root of level 4 down. It finds the frame of the page and the rights common to the four
-- entries, or the first level whose entry is missing
unfoldable pub walk : (ℕ → ℕ → ℕ) → ℕ → ℕ → ℕ → Result Leaf ℕ
walk t frames root page =
    let fourth = t root (page_index page 4) in
    if is_missing frames 4 fourth then Err 4 else
    let third = t (frame_of fourth) (page_index page 3) in
    if is_missing frames 3 third then Err 3 else
    let second = t (frame_of third) (page_index page 2) in
    if is_missing frames 2 second then Err 2 else
    let first = t (frame_of second) (page_index page 1) in
    if is_missing frames 1 first then Err 1 else
    Ok (record { frame = frame_of first; rights = common (common (common (rights_of fourth) (rights_of third)) (rights_of second)) (rights_of first) })

-- the same walk by recursion on the level: what is left of it from a table of this level, in frame f, with the rights
-- common to the entries so far; at level 0 the frame is the page's
unfoldable pub walk_from : (ℕ → ℕ → ℕ) → ℕ → ℕ → ℕ → ℕ → Rights → Result Leaf ℕ
walk_from t frames page zero f r = Ok (record { frame = f; rights = r })
walk_from t frames page (suc level) f r =
    let e = t f (page_index page (suc level)) in
    if is_missing frames (suc level) e then Err (suc level) else walk_from t frames page level (frame_of e) (common r (rights_of e))

-- what is left of a walk below an entry of this level, 2 to 4, that names a table and grants rights
abbrev pub walk_below : (ℕ → ℕ → ℕ) → ℕ → ℕ → ℕ → Upper → Result Leaf ℕ
walk_below t frames page level it = walk_from t frames page (level - 1) it.frame it.rights

-- the first look-ups of a walk, as many as are left, from a table of this level in frame f with the rights common to the
-- entries so far: the frame that the last of them names and the rights common to all, or None where an entry is missing
unfoldable pub upper_from : (ℕ → ℕ → ℕ) → ℕ → ℕ → ℕ → ℕ → ℕ → Rights → Option Upper
upper_from t frames page zero level f r = Some (record { frame = f; rights = r })
upper_from t frames page (suc left) zero f r = None
upper_from t frames page (suc left) (suc level) f r =
    let e = t f (page_index page (suc level)) in
    if is_missing frames (suc level) e then None else upper_from t frames page left level (frame_of e) (common r (rights_of e))

-- what a walk from this root has found once it has looked up the entry of this level, 2 to 4
abbrev pub upper_walk : (ℕ → ℕ → ℕ) → ℕ → ℕ → ℕ → ℕ → Option Upper
upper_walk t frames root page level = upper_from t frames page (5 - level) 4 root all_rights

-- the entry is the kernel slot's: entry 511 of a table of level 4
abbrev pub is_slot_entry : ℕ → ℕ → Bool
is_slot_entry level i = level == 4 && i == 511

-- the value of the kernel slot's entry in every table of level 4
unfoldable pub slot_value : ℕ
slot_value = 24615

-- the tables with entry b of table a replaced by c
unfoldable pub replaced : (ℕ → ℕ → ℕ) → ℕ → ℕ → ℕ → ℕ → ℕ → ℕ
replaced t a b c f i = if f == a && i == b then c else t f i

-- the tables with every entry of table a 0
unfoldable pub zeroed : (ℕ → ℕ → ℕ) → ℕ → ℕ → ℕ → ℕ
zeroed t a f i = if f == a then 0 else t f i

-- the tables with table a new, of this level: every entry 0, but the kernel slot's
unfoldable pub emptied : (ℕ → ℕ → ℕ) → ℕ → ℕ → ℕ → ℕ → ℕ
emptied t a level f i = if f == a then (if is_slot_entry level i then slot_value else 0) else t f i
