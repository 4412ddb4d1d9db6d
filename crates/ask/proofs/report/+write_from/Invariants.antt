use Rattle.ask.proofs.report.+write_from.Given as goal

abbrev pub decreases-write_from : goal.decreases-write_from
decreases-write_from g l = l.node.level
