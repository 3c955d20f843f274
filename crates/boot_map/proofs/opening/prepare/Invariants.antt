use Rattle.boot_map.proofs.FillLaws.{IsFilledBelow}
use Rattle.boot_map.proofs.opening.prepare.Given as goal

abbrev pub invariant-loop-frame : goal.invariant-loop-frame
invariant-loop-frame l = IsFilledBelow l.image l.layout.frames l.frame l.memory
