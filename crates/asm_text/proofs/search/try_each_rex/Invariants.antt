use Rattle.std.proofs.Common.{◌≡◌}
use Rattle.std.specs.List.{flat_map, range_with_len}
use Rattle.asm_text.specs.Candidates.{best_of, by_rex}
use Rattle.asm_text.proofs.search.try_each_rex.Given as goal

-- the best of what was tried so far
abbrev pub invariant-loop-low : goal.invariant-loop-low
invariant-loop-low l = l.best.items ≡ best_of l.instr l.initial.best.items (flat_map (by_rex l.instr l.map l.opcode l.row l.narrow) (range_with_len 0 l.low))
