use Rattle.std.proofs.Common.{◌-◌, ◌≡◌, ℕ, ◌<◌, ◌≤◌, length, slice_index_or}
use Rattle.mem_access.specs.declared.window.KeptPage.{KeptPage}
use Rattle.mem_access.specs.Windows.{IsLeftWithout}
use Rattle.mem_access.proofs.window.drop_pages.Given as goal

abbrev pub invariant-loop-slot : goal.invariant-loop-slot
invariant-loop-slot l =
    (l.slot ≤ 8) × (length l.pages ≡ 8)
    × ((i : ℕ) (d : KeptPage) → i < l.slot → IsLeftWithout l.place (slice_index_or l.fn.pages i d) (slice_index_or l.pages i d))
    × ((i : ℕ) (d : KeptPage) → l.slot ≤ i → slice_index_or l.pages i d ≡ slice_index_or l.fn.pages i d)

abbrev pub decreases-loop-slot : goal.decreases-loop-slot
decreases-loop-slot l = 8 - l.slot
