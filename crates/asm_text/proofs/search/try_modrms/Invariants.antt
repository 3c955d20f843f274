use Rattle.std.proofs.Common.{◌≡◌}
use Rattle.std.specs.List.{flat_map, range_with_len}
use Rattle.asm_text.specs.Candidates.{best_of}
use Rattle.asm_text.specs.Skipping.{by_mode}
use Rattle.asm_text.proofs.search.try_modrms.Given as goal

-- the best of what was tried so far
abbrev pub invariant-loop-mode : goal.invariant-loop-mode
invariant-loop-mode l = l.best.items ≡ best_of l.instr l.initial.best.items (flat_map (by_mode l.stem l.form l.tail) (range_with_len 0 l.mode))
