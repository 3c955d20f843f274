use Rattle.std.proofs.Common.{◌≡◌, drop, map}
use Rattle.code_modules.specs.JoinAnswers.{empty_from}
use Rattle.code_modules.proofs.image_join.first_empty.Given as goal

abbrev pub invariant-loop-i : goal.invariant-loop-i
invariant-loop-i l = empty_from 0 (map (λ m. m.items) l.modules) ≡ empty_from l.i (drop l.i (map (λ m. m.items) l.modules))
