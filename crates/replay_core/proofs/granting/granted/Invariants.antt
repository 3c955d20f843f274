use Rattle.std.proofs.Common.{◌≡◌, length}
use Rattle.replay_core.specs.GrantedCalls.{granted_in, granted_of}
use Rattle.text_lines.specs.TextLines.{lines}
use Rattle.replay_core.proofs.granting.granted.Given as goal

abbrev pub invariant-loop-rest : goal.invariant-loop-rest
invariant-loop-rest l = granted_of l.journal l.id ≡ granted_in l.id (lines l.rest)

abbrev pub decreases-loop-rest : goal.decreases-loop-rest
decreases-loop-rest l = length l.rest
