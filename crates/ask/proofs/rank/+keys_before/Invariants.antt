use Rattle.ask.proofs.rank.+keys_before.Given as goal

abbrev pub decreases-keys_before : goal.decreases-keys_before
decreases-keys_before g l = l.node.level
