use Rattle.std.proofs.Common.{◌≡◌, []}
use Rattle.system_rows.specs.WantedTurns.{AreWordsWanted}
use Rattle.system_rows.proofs.difference.push_memory.Given as goal

abbrev pub invariant-loop-index : goal.invariant-loop-index
invariant-loop-index l = l.list.items ≡ [] → (l.fn.list.items ≡ [])
    × AreWordsWanted l.machine.wanted.bytes l.machine.found.bytes l.free l.index
