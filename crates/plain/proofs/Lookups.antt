-- What is found after a pair went in or out.
use Rattle.std.proofs.Common.{◌≡◌, ℕ, Bool, true, false, cond, List, [], ◌∷◌, is_some, Some, None, Option, Ordering, Less, Equal, Greater, sym, refl, ap, ◌∙◌}
use Rattle.std.proofs.lemmas.Bool.{both_ways}
use Rattle.std.specs.Ordering.{is_eq, is_le}
use Rattle.std.specs.List.{AllByRecursion}
use Rattle.keys.specs.Orders.{Orderly}
use Rattle.plain.specs.Plain.{Sorted, find, present, put, cut}
use Rattle.plain.specs.declared.pair.Pair.{Pair}

-- two tests that do not both pass may be made in either order
swap : {X : Type 0} (a b : Bool) (x y z : X) → (a ≡ true → b ≡ true → ⊥) → cond a x (cond b y z) ≡ cond b y (cond a x z)
swap true true x y z n = absurd (n refl refl)
swap true false x y z n = refl
swap false true x y z n = refl
swap false false x y z n = refl

is_equal : (r : Ordering) → is_eq r ≡ true → r ≡ Equal
is_equal Less e = absurd (both_ways _ refl e)
is_equal Equal e = refl
is_equal Greater e = absurd (both_ways _ refl e)

module _ {K : Type 0} {order : K → K → Ordering} (o : Orderly order) where
  same_key : (x y : K) → is_eq (order x y) ≡ true → x ≡ y
  same_key x y e = o.apart x y (is_equal (order x y) e)

  -- where p and k differ, no key is both
  not_both : (p k q : K) → is_eq (order p k) ≡ false → is_eq (order p q) ≡ true → is_eq (order k q) ≡ true → ⊥
  not_both p k q n a b = both_ways _ n (ap is_eq (ap (λ z. order z k) (same_key p q a ∙ sym (same_key k q b)) ∙ o.same k))

  pub find_put : (k : K) (h : ℕ) (q : K) (ps : List (Pair K)) → present order k ps ≡ false → find order q (put order k h ps) ≡ cond (is_eq (order k q)) (Some h) (find order q ps)
  find_put k h q [] e = refl
  find_put k h q (p ∷ ps) e = go (order p.key k) refl e (find_put k h q ps)
    where
      goes_on : is_eq (order p.key k) ≡ false → find order q (put order k h ps) ≡ cond (is_eq (order k q)) (Some h) (find order q ps) →
          cond (is_eq (order p.key q)) (Some p.handle) (find order q (put order k h ps)) ≡ cond (is_eq (order k q)) (Some h) (cond (is_eq (order p.key q)) (Some p.handle) (find order q ps))
      goes_on n ih = ap (cond (is_eq (order p.key q)) (Some p.handle)) ih ∙ swap (is_eq (order p.key q)) (is_eq (order k q)) (Some p.handle) (Some h) (find order q ps) (not_both p.key k q n)

      go : (r : Ordering) → order p.key k ≡ r → is_some (cond (is_eq r) (Some p.handle) (find order k ps)) ≡ false →
          (present order k ps ≡ false → find order q (put order k h ps) ≡ cond (is_eq (order k q)) (Some h) (find order q ps)) →
          find order q (cond (is_le r) (p ∷ put order k h ps) (record { key = k; handle = h } ∷ p ∷ ps)) ≡ cond (is_eq (order k q)) (Some h) (cond (is_eq (order p.key q)) (Some p.handle) (find order q ps))
      go Less s e ih = goes_on (ap is_eq s) (ih e)
      go Equal s e ih = absurd (both_ways _ e refl)
      go Greater s e ih = refl

  -- what stands after a key does not have it
  none_after : (p : Pair K) (ps : List (Pair K)) → AllByRecursion (λ r. order p.key r.key ≡ Less) ps → find order p.key ps ≡ None
  none_after p [] a = refl
  none_after p (r ∷ ps) a = rw (o.flips p.key r.key a.0) (none_after p ps a.1)

  pub find_cut : (k q : K) (ps : List (Pair K)) → Sorted order ps → find order q (cut order k ps) ≡ cond (is_eq (order k q)) None (find order q ps)
  find_cut k q [] a = nothing (is_eq (order k q))
    where
      nothing : (b : Bool) → None ≡ cond {A = Option ℕ} b None None
      nothing true = refl
      nothing false = refl
  find_cut k q (p ∷ ps) a = go (is_eq (order p.key k)) refl (find_cut k q ps a.1)
    where
      gone : p.key ≡ k → (b : Bool) → is_eq (order k q) ≡ b → find order q ps ≡ cond b None (cond (is_eq (order p.key q)) (Some p.handle) (find order q ps))
      gone s true e = ap (λ z. find order z ps) (sym (s ∙ same_key k q e)) ∙ none_after p ps a.0
      gone s false e = rw (ap (λ z. is_eq (order z q)) s ∙ e) refl

      go : (b : Bool) → is_eq (order p.key k) ≡ b → find order q (cut order k ps) ≡ cond (is_eq (order k q)) None (find order q ps) →
          find order q (cond b ps (p ∷ cut order k ps)) ≡ cond (is_eq (order k q)) None (cond (is_eq (order p.key q)) (Some p.handle) (find order q ps))
      go true e ih = gone (same_key p.key k e) (is_eq (order k q)) refl
      go false e ih = ap (cond (is_eq (order p.key q)) (Some p.handle)) ih ∙ swap (is_eq (order p.key q)) (is_eq (order k q)) (Some p.handle) None (find order q ps) (not_both p.key k q e)
