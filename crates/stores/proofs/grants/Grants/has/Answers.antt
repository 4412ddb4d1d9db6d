use Rattle.std.proofs.Common.{arith}
use Rattle.std.proofs.lemmas.Bool.Decides.{nat_tests}
use Rattle.stores.specs.Table.{in_use}
use Rattle.stores.proofs.grants.Grants.has.Goals as goal

pub returns-then-block-self : goal.returns-then-block-self
unfolding in_use
returns-then-block-self c = grind (arith, nat_tests)

pub returns-else-block-self : goal.returns-else-block-self
unfolding in_use
returns-else-block-self c = grind (arith, nat_tests)
