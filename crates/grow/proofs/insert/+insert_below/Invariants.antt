use Rattle.grow.proofs.insert.+insert_below.Given as goal

abbrev pub decreases-insert_below : goal.decreases-insert_below
decreases-insert_below g l = l.node.level
