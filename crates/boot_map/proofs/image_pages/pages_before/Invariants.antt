use Rattle.std.proofs.Common.{◌-◌, ℕ, ◌<◌, ◌≤◌, slice_index}
use Rattle.elf_image.specs.Pages.{page_count, pages_of}
use Rattle.boot_map.proofs.image_pages.pages_before.Given as goal

abbrev pub invariant-loop-low : goal.invariant-loop-low
invariant-loop-low l = record {
  order : l.low ≤ l.high;
  within : l.high ≤ page_count l.image;
  before : (i : ℕ) → i < l.low → slice_index (pages_of l.image) i < l.page;
  rest : (i : ℕ) → l.high ≤ i → i < page_count l.image → l.page ≤ slice_index (pages_of l.image) i;
}

abbrev pub decreases-loop-low : goal.decreases-loop-low
decreases-loop-low l = l.high - l.low
