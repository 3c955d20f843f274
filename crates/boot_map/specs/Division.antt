-- How the frames of memory are divided at the opening of an image, the file b: how many of each, and where each begins.
use Rattle.std.specs.Prelude.{◌≡◌, ℕ, ◌+◌, ◌*◌, ◌/◌, ◌≤◌, Bool, List, length, filter}
use Rattle.std.specs.List.{list_any, range_with_len}
use Rattle.elf_image.specs.Home.{home_start, page_size}
use Rattle.elf_image.specs.Pages.{is_page, page_count}

-- the number of the page that stands at this index of this range of the image's home; a range has 512 pages, 2 MiB
abbrev pub page_in : ℕ → ℕ → ℕ
page_in range index = home_start / page_size + 512 * range + index

-- some page of the range is the image's
unfoldable pub is_touched : List ℕ → ℕ → Bool
is_touched b range = list_any (λ index. is_page b (page_in range index)) (range_with_len 0 512)

-- the ranges of the home, 1 GiB, that the image's pages touch, ascending
unfoldable pub ranges_of : List ℕ → List ℕ
ranges_of b = filter (is_touched b) (range_with_len 0 512)

-- what the division of memory depends on: the number of frames, the ranges that the image touches, and the number of
-- its pages
pub record Division : Type 0 where
  pub frames : ℕ
  pub ranges : List ℕ
  pub pages : ℕ

-- the division of a memory of so many frames for the image
abbrev pub division_of : List ℕ → ℕ → Division
division_of b frames = record { frames = frames; ranges = ranges_of b; pages = page_count b }

-- how many frames hold the descriptors, 256 in each
abbrev pub descriptor_frames : Division → ℕ
descriptor_frames d = (d.frames + 255) / 256

-- how many level 1 tables the direct map has: each maps 512 frames
abbrev pub map_tables : Division → ℕ
map_tables d = (d.frames + 511) / 512

-- the first frame of the image's level 1 tables, one a range; they follow the descriptors, which begin at frame 64
abbrev pub tables_start : Division → ℕ
tables_start d = 64 + descriptor_frames d

-- the first frame of the image's pages
abbrev pub pages_start : Division → ℕ
pages_start d = tables_start d + length d.ranges

-- the first frame of the direct map: its level 3 table, its level 2 table, then its level 1 tables
abbrev pub map_start : Division → ℕ
map_start d = pages_start d + d.pages

-- the first free frame, which is how many frames the opening needs
abbrev pub free_start : Division → ℕ
free_start d = map_start d + 2 + map_tables d

-- how many frames the image needs in a memory of so many frames
abbrev pub need : List ℕ → ℕ → ℕ
need b frames = free_start (division_of b frames)

-- the layout is that of this image, which has room in its memory of 512 to 65,536 frames
pub record IsLayout (b : List ℕ) (layout : Division) : Type 0 where
  pub division : layout ≡ division_of b layout.frames
  pub least : 512 ≤ layout.frames
  pub most : layout.frames ≤ 65536
  pub room : need b layout.frames ≤ layout.frames
