use Rattle.page_walk.proofs.levels.+lead.Given as goal

abbrev pub decreases-lead : goal.decreases-lead
decreases-lead l = l.left
