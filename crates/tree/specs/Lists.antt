-- Lists whose elements weigh something; halves of a list, and a place in it.
use Rattle.std.specs.Prelude.{ℕ, ◌+◌, ◌*◌, Bool, cond, List, [], ◌∷◌, ◌++◌, nat_le}

-- the sum of w over a list
abbrev pub total : {X : Type 0} → (X → ℕ) → List X → ℕ
total w [] = 0
total w (x ∷ xs) = w x + total w xs

-- what f gives of each element, one after the other
abbrev pub joined : {X Y : Type 0} → (X → List Y) → List X → List Y
joined f [] = []
joined f (x ∷ xs) = f x ++ joined f xs

-- b backwards, then xs
abbrev pub onto : {X : Type 0} → List X → List X → List X
onto [] xs = xs
onto (x ∷ b) xs = onto b (x ∷ xs)

-- the longest first part that weighs at most the rest, where all weighs t and a is passed already (law: Largest)
abbrev pub first_half : {X : Type 0} → (X → ℕ) → ℕ → ℕ → List X → List X
first_half w t a [] = []
first_half w t a (x ∷ xs) = cond (nat_le (2 * (a + w x)) t) (x ∷ first_half w t (a + w x) xs) []

-- that rest
abbrev pub second_half : {X : Type 0} → (X → ℕ) → ℕ → ℕ → List X → List X
second_half w t a [] = []
second_half w t a (x ∷ xs) = cond (nat_le (2 * (a + w x)) t) (second_half w t (a + w x) xs) (x ∷ xs)

-- a place in a list: what stands before it, the nearest first, what stands there, what stands after
pub record Place (X : Type 0) : Type 0 where
  pub before : List X
  pub here : X
  pub after : List X

-- from x on while the next one passes the test (law: Last-child)
abbrev pub seek : {X : Type 0} → (X → Bool) → List X → X → List X → Place X
seek p b x [] = record { before = b; here = x; after = [] }
seek p b x (y ∷ ys) = cond (p y) (seek p (x ∷ b) y ys) (record { before = b; here = x; after = y ∷ ys })

-- the elements up to the first that fails the test
abbrev pub while : {X : Type 0} → (X → Bool) → List X → List X
while p [] = []
while p (x ∷ xs) = cond (p x) (x ∷ while p xs) []
