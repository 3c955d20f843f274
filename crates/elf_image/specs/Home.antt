-- Where an outer kernel's image lies in linear memory: its home, 1 GiB, of pages of 4 KiB.
use Rattle.std.specs.Prelude.{ℕ}

-- the size of a page, in bytes
abbrev pub page_size : ℕ
page_size = 4096

-- the first address of the home
abbrev pub home_start : ℕ
home_start = 0xFFFF_FFFF_8000_0000

-- the first address past it
abbrev pub home_end : ℕ
home_end = 0xFFFF_FFFF_C000_0000
