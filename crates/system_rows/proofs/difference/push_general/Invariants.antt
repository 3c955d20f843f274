use Rattle.std.proofs.Common.{◌≡◌, ℕ, ◌<◌, []}
use Rattle.std.specs.Prelude.{slice_index}
use Rattle.system_rows.proofs.difference.push_general.Given as goal

abbrev pub invariant-loop-number : goal.invariant-loop-number
invariant-loop-number l = l.list.items ≡ [] → (l.fn.list.items ≡ [])
    × ((n : ℕ) → n < l.number → slice_index l.wanted.regs.general n ≡ slice_index l.found.regs.general n)
