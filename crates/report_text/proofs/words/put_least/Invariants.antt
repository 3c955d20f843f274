use Rattle.report_text.proofs.Digits.{IsFilling}
use Rattle.report_text.proofs.words.put_least.Given as goal

abbrev pub invariant-loop-rest : goal.invariant-loop-rest
invariant-loop-rest l = IsFilling l.number l.end l.initial.room l.rest l.start l.room

abbrev pub decreases-loop-rest : goal.decreases-loop-rest
decreases-loop-rest l = l.start
