use Rattle.std.proofs.Common.{◌≡◌}
use Rattle.std.specs.List.{flat_map, range_with_len}
use Rattle.asm_text.specs.Candidates.{best_of, by_scale}
use Rattle.asm_text.proofs.search.try_scales.Given as goal

-- the best of what was tried so far
abbrev pub invariant-loop-scale : goal.invariant-loop-scale
invariant-loop-scale l = l.best.items ≡ best_of l.instr l.initial.best.items (flat_map (by_scale l.stem l.form l.tail l.modrm) (range_with_len 0 l.scale))
