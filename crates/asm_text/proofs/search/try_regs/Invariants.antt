use Rattle.std.proofs.Common.{◌≡◌, ◌+◌, ◌*◌}
use Rattle.std.specs.List.{flat_map, range_with_len}
use Rattle.asm_text.specs.Candidates.{best_of}
use Rattle.asm_text.specs.Skipping.{by_field}
use Rattle.asm_text.proofs.search.try_regs.Given as goal

-- the best of what was tried so far
abbrev pub invariant-loop-reg : goal.invariant-loop-reg
invariant-loop-reg l = l.best.items ≡ best_of l.instr l.initial.best.items (flat_map (λ reg. by_field l.stem l.form l.tail (8 * l.mode + reg)) (range_with_len 0 l.reg))
