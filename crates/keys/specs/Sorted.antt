-- Lists in ascending order, and how many elements stand before a place in them.
use Rattle.std.specs.Prelude.{◌≡◌, ℕ, ◌+◌, Bool, true, false, cond, List, [], ◌∷◌}
use Rattle.std.specs.declared.cmp.Ordering.TheVariants.{Less}
use Rattle.std.specs.declared.cmp.Ordering.{Ordering}
use Rattle.std.specs.Ordering.{is_lt, is_le}
use Rattle.std.specs.List.{AllByRecursion}

-- each element is less than all that follow it
abbrev pub Ascending : {X : Type 0} → (X → X → Ordering) → List X → Type 0
Ascending order [] = Unit {0}
Ascending order (x ∷ xs) = AllByRecursion (λ y. order x y ≡ Less) xs × Ascending order xs

-- how many elements pass a test
abbrev pub how_many : {X : Type 0} → (X → Bool) → List X → ℕ
how_many p [] = 0
how_many p (x ∷ xs) = cond (p x) 1 0 + how_many p xs

-- an answer of a comparison passes if it is less, or equal where that is allowed
abbrev pub passes : Bool → Ordering → Bool
passes true answer = is_le answer
passes false answer = is_lt answer

-- how many keys are below q
abbrev pub below : {K : Type 0} → (K → K → Ordering) → K → List K → ℕ
below order q xs = how_many (λ x. is_lt (order x q)) xs

-- how many keys are at most q
abbrev pub up_to : {K : Type 0} → (K → K → Ordering) → K → List K → ℕ
up_to order q xs = how_many (λ x. is_le (order x q)) xs
