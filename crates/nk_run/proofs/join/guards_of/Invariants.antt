use Rattle.std.proofs.Common.{◌≡◌, length, map, take}
use Rattle.nk_run.proofs.join.guards_of.Given as goal

abbrev pub invariant-loop-i : goal.invariant-loop-i
invariant-loop-i l = record {
  size : length l.guards ≡ 32;
  taken : take l.i l.guards ≡ take l.i (map (λ it. it.guard) l.list);
}
