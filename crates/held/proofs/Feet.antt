-- Footprints, by how often each number occurs in them.
use Rattle.std.proofs.Common.{◌≡◌, ℕ, ◌+◌, ◌≤◌, eqb, List, [], ◌∷◌, ◌++◌, refl, ◌∙◌, arith}
use Rattle.std.proofs.lemmas.Bool.{eq-eqb, cond-true}
use Rattle.store.specs.Meaning.{Meaning}
use Rattle.tree.specs.Lists.{joined}
use Rattle.held.specs.Held.{times, Owned, Step}

pub times_append : (c : ℕ) (xs ys : List ℕ) → times c (xs ++ ys) ≡ times c xs + times c ys
times_append c [] ys = omega arith
times_append c (x ∷ xs) ys = omega (arith, times_append c xs ys)

-- in two parts
pub times_joined : {X : Type 0} (f : X → List ℕ) (c : ℕ) (xs ys : List X) → times c (joined f (xs ++ ys)) ≡ times c (joined f xs) + times c (joined f ys)
times_joined f c [] ys = omega arith
times_joined f c (x ∷ xs) ys = omega (arith, times_append c (f x) (joined f (xs ++ ys)), times_append c (f x) (joined f xs), times_joined f c xs ys)

-- in three
pub times_three : {X : Type 0} (f : X → List ℕ) (c : ℕ) (xs ys zs : List X) → times c (joined f (xs ++ (ys ++ zs))) ≡ times c (joined f xs) + (times c (joined f ys) + times c (joined f zs))
times_three f c xs ys zs = omega (arith, times_joined f c xs (ys ++ zs), times_joined f c ys zs)

pub times_head : (c : ℕ) (ds : List ℕ) → 1 ≤ times c (c ∷ ds)
times_head c ds = omega (arith, cond-true {A = ℕ} (eqb c c) 1 0 (eq-eqb c c refl))

-- nothing changed
pub step_none : (m : Meaning) (F : List ℕ) → Step m m F F
step_none m F = record {
  same_shape = refl;
  same_below = refl;
  same_down = refl;
  moved = λ c. refl;
  kept = λ c h. refl;
}

-- one step after the other
pub step_then : (m u n : Meaning) (F G H : List ℕ) → Step m u F G → Step u n G H → Step m n F H
step_then m u n F G H a b = record {
  same_shape = b.same_shape ∙ a.same_shape;
  same_below = b.same_below ∙ a.same_below;
  same_down = b.same_down ∙ a.same_down;
  moved = λ c. omega (arith, a.moved c, b.moved c);
  kept = λ c h. b.kept c (omega (arith, a.moved c)) ∙ a.kept c h;
}

-- more blocks, as they were
pub step_wider : (m n : Meaning) (F G F' G' : List ℕ) → ((c : ℕ) → times c F' + times c G ≡ times c G' + times c F) → ((c : ℕ) → times c F ≤ times c F') → Step m n F G → Step m n F' G'
step_wider m n F G F' G' e k a = record {
  same_shape = a.same_shape;
  same_below = a.same_below;
  same_down = a.same_down;
  moved = λ c. omega (arith, a.moved c, e c);
  kept = λ c h. a.kept c (omega (arith, k c));
}

-- blocks stay owned
pub owned_step : (m n : Meaning) (F G : List ℕ) → Step m n F G → Owned m F → Owned n G
owned_step m n F G a o = λ c. omega (arith, a.moved c, o c)

pub owned_part : (m : Meaning) (F G : List ℕ) → ((c : ℕ) → times c G ≤ times c F) → Owned m F → Owned m G
owned_part m F G k o = λ c. omega (arith, k c, o c)
