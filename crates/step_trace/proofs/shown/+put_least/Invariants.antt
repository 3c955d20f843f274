use Rattle.step_trace.proofs.shown.+put_least.Given as goal

-- the number without its last digit is less
abbrev pub decreases-put_least : goal.decreases-put_least
decreases-put_least l = l.number
