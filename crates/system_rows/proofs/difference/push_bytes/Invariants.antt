use Rattle.std.proofs.Common.{◌≡◌, ℕ, ◌<◌, ◌≤◌, ◌+◌, []}
use Rattle.phys_mem.specs.Memory.{byte_at}
use Rattle.system_rows.proofs.difference.push_bytes.Given as goal

abbrev pub invariant-loop-place : goal.invariant-loop-place
invariant-loop-place l = record {
  ends : l.place-end ≡ l.from + 8;
  same : l.list.items ≡ [] → (l.fn.list.items ≡ [])
      × ((k : ℕ) → l.from ≤ k → k < l.place → byte_at l.machine.wanted.bytes k ≡ byte_at l.machine.found.bytes k);
}
