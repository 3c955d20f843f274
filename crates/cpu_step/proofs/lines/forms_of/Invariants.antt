use Rattle.std.proofs.Common.{◌≡◌, ◌+◌, ◌-◌, ◌*◌, ◌/◌, ◌%◌, ◌≤◌, All, ℕ, length, slice_index_or}
use Rattle.exec_quick.specs.declared.quick.Quick.{Quick}
use Rattle.cpu_step.specs.CodeLines.{IsFormIn, IsRow}
use Rattle.cpu_step.proofs.lines.forms_of.Given as goal

abbrev pub invariant-loop-count : goal.invariant-loop-count
invariant-loop-count l =
    (length l.forms ≡ 16) × All (IsFormIn l.code l.size) l.forms × IsRow l.forms l.count
    × (l.count ≡ 0 → l.at ≡ 0)
    × ((d : Quick) (i : ℕ) → i + 1 ≡ l.count → (slice_index_or l.forms i d).at + (slice_index_or l.forms i d).size ≡ l.at)
    × (16 ≤ l.size) × (l.size ≤ l.most) × (l.size % 8 ≡ 0) × (l.size ≤ (l.at + 23) / 8 * 8)

abbrev pub decreases-loop-count : goal.decreases-loop-count
decreases-loop-count l = 16 - l.count
