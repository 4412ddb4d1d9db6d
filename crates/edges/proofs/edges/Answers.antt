use Rattle.std.proofs.Common.{refl}
use Rattle.edges.proofs.edges.Goals as goal

pub returns : goal.returns
returns c = record {
  full_leaf = refl;
  full_leaf_marks = refl;
  full_leaf_blocks = (refl, refl, refl);
  beside_41 = (refl, refl);
  beside_42 = refl;
  beside_64 = (refl, refl);
  right_of_15 = (refl, refl);
  lone_leaf = (refl, refl, refl);
  full_inner = (refl, refl, refl);
  inner_halves = (refl, refl);
  eighth = refl;
  ninth = refl;
  rates = (refl, refl, refl);
}
