-- The laws of a layer over a store.
use Rattle.std.specs.Prelude.{List, [], ◌∷◌}
use Rattle.store.specs.Meaning.{Shape, Meaning}

-- the first shape of a list, or d
abbrev pub first_shape : List Shape → Shape → Shape
first_shape [] d = d
first_shape (s ∷ ss) d = s

-- the other shapes
abbrev pub other_shapes : List Shape → List Shape
other_shapes [] = []
other_shapes (s ∷ ss) = ss

-- the store under a layer that has its grants and its words
abbrev pub inner : Meaning → Meaning
inner m = record {
  shape = first_shape m.below m.shape;
  below = other_shapes m.below;
  granted = m.granted;
  words = m.words;
  down = m.down;
}
