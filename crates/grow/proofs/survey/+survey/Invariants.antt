use Rattle.grow.proofs.survey.+survey.Given as goal

abbrev pub decreases-survey : goal.decreases-survey
decreases-survey g l = l.node.level
