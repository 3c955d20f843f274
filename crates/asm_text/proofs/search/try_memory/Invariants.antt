use Rattle.std.proofs.Common.{◌≡◌, ◌+◌, ◌*◌}
use Rattle.std.specs.List.{flat_map, range_with_len}
use Rattle.asm_text.specs.Candidates.{best_of, by_modrm}
use Rattle.asm_text.proofs.search.try_memory.Given as goal

-- the best of what was tried so far
abbrev pub invariant-loop-rm : goal.invariant-loop-rm
invariant-loop-rm l = l.best.items ≡ best_of l.instr l.initial.best.items (flat_map (λ rm. by_modrm l.stem l.form l.tail (8 * l.field + rm)) (range_with_len 0 l.rm))
