use Rattle.page_walk.proofs.levels.+descend.Given as goal

abbrev pub decreases-descend : goal.decreases-descend
decreases-descend l = l.level
