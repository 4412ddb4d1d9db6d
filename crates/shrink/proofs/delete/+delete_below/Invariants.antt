use Rattle.shrink.proofs.delete.+delete_below.Given as goal

abbrev pub decreases-delete_below : goal.decreases-delete_below
decreases-delete_below g l = l.node.level
