-- What the laws of an order give.
use Rattle.std.specs.Prelude.{◌≡◌, true, ◌≢◌, refl}
use Rattle.std.specs.declared.cmp.Ordering.TheVariants.{Less, Equal, Greater}
use Rattle.std.specs.declared.cmp.Ordering.{Ordering}
use Rattle.std.proofs.Common.{sym, ap, subst, ◌∙◌, true≢false}
use Rattle.std.specs.Cmp.{IsTotalOrder}
use Rattle.std.specs.Ordering.{is_le, is_lt, is_gt, ordering_reverse}
use Rattle.keys.specs.Orders.{Orderly}

module _ {K : Type 0} {order : K → K → Ordering} (o : Orderly order) where
  -- what is above one that is greater than q is greater than q
  pub greater_above : (x y q : K) → order x y ≡ Less → order x q ≡ Greater → order y q ≡ Greater
  greater_above x y q up g = o.flips q y (o.chain q x y (o.flops x q g) up)

  -- what is below one that is at most q is less than q
  pub less_below : (x y q : K) → order x y ≡ Less → is_le (order y q) ≡ true → order x q ≡ Less
  less_below x y q up h = go (order y q) refl h
    where
      go : (r : Ordering) → order y q ≡ r → is_le r ≡ true → order x q ≡ Less
      go Less e h = o.chain x y q up e
      go Equal e h = subst (λ z. order x z ≡ Less) (o.apart y q e) up
      go Greater e h = absurd (true≢false (sym h))

pub not_greater : (r : Ordering) → (r ≢ Greater) → is_le r ≡ true
not_greater Less n = refl
not_greater Equal n = refl
not_greater Greater n = absurd (n refl)

unturned : (r : Ordering) → r ≡ ordering_reverse r → r ≡ Equal
unturned Less e = absurd (true≢false (ap is_lt e))
unturned Equal e = refl
unturned Greater e = absurd (true≢false (ap is_gt e))

-- an order by a part that std ranks, if keys with equal parts are the same
pub orderly_by : {K X : Type 0} {R : K → K → Ordering} (t : IsTotalOrder R) (f : X → K) → ((x y : X) → R (f x) (f y) ≡ Equal → x ≡ y) → Orderly (λ x y. R (f x) (f y))
orderly_by {R = R} t f apart = record {
  same = λ x. unturned (R (f x) (f x)) (t.antisymm (f x) (f x));
  apart = apart;
  flips = λ x y e. t.antisymm (f y) (f x) ∙ ap ordering_reverse e;
  flops = λ x y e. t.antisymm (f y) (f x) ∙ ap ordering_reverse e;
  chain = λ x y z. t.trans (f x) (f y) (f z);
}

-- the laws of an order hold of the same order by another name
pub same_order : {K : Type 0} {order other : K → K → Ordering} → Orderly order → other ≡ order → Orderly other
same_order o e = subst Orderly (sym e) o
