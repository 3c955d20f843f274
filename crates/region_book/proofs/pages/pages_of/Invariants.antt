use Rattle.std.proofs.Common.{◌≡◌, ℕ, slice_index, ◌<◌, ◌≤◌, ◌/◌, length, take, All, Some}
use Rattle.phys_mem.specs.Memory.{entry_in}
use Rattle.region_book.specs.RegionCalls.{frames_from, mapped}
use Rattle.region_book.proofs.pages.pages_of.Given as goal

abbrev pub invariant-loop-i : goal.invariant-loop-i
invariant-loop-i l = record {
  most : l.i ≤ l.count;
  limit : l.count ≤ 16;
  count : l.pages.count ≡ l.count;
  room : length l.pages.frames ≡ 16;
  found : frames_from (mapped (entry_in l.mem) (length l.mem / 4096) l.root) l.first l.i ≡ Some (take l.i l.pages.frames);
  behind : (k : ℕ) → k < 16 → l.i ≤ k → slice_index l.pages.frames k ≡ 0;
  below : All (λ f. f < length l.mem / 4096) (take l.i l.pages.frames);
}
