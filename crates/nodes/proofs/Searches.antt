-- The halving search, and what it finds where the keys ascend.
use Rattle.std.proofs.Common.{◌≡◌, ℕ, zero, suc, ◌+◌, ◌-◌, ◌<◌, ◌≤◌, List, [], ◌∷◌, map, length, get_or, Ordering, Less, Greater, sym, refl, ap, ◌∙◌, subst, ⊎_elim, arith}
use Rattle.std.specs.List.{AllByRecursion}
use Rattle.std.proofs.ByRecursion.{All-get_or, All-from_get_or}
use Rattle.std.proofs.lemmas.Bool.{cases_order}
use Rattle.keys.specs.Orders.{Orderly}
use Rattle.store.specs.Meaning.{Meaning}
use Rattle.nodes.specs.Places.{Form}
use Rattle.nodes.specs.Nodes.{Entry, entry_at, entries, upto}
use Rattle.keys.specs.Sorted.{Ascending}
use Rattle.nodes.specs.Finds.{Sought, SplitAt, Found, key_of, keys_in}
use Rattle.nodes.proofs.Upto.{length_upto, get_or_upto, take_upto, drop_upto}

-- of two places the earlier has the lesser key
ascending_at : {K : Type 0} (order : K → K → Ordering) (xs : List K) (i j : ℕ) (d : K) → Ascending order xs → i < j → j < length xs → order (get_or xs i d) (get_or xs j d) ≡ Less
ascending_at order [] i j d a l h = absurd (omega arith)
ascending_at order (x ∷ xs) i zero d a l h = absurd (omega arith)
ascending_at order (x ∷ xs) zero (suc j) d a l h = All-get_or (λ y. order x y ≡ Less) xs j d (omega arith) a.0
ascending_at order (x ∷ xs) (suc i) (suc j) d a l h = ascending_at order xs i j d a.1 (omega arith) (omega arith)

map_map : {X Y Z : Type 0} (f : Y → Z) (g : X → Y) (xs : List X) → map f (map g xs) ≡ map (λ x. f (g x)) xs
map_map f g [] = refl
map_map f g (x ∷ xs) = ap (λ ys. f (g x) ∷ ys) (map_map f g xs)

module _ {K : Type 0} (order : K → K → Ordering) (law : Orderly order) (key : ℕ → K) (n : ℕ) (q : K) (r : ℕ) (h : Sought order key n q r) (up : Ascending order (upto n key)) where
  less : (i j : ℕ) → i < j → j < n → order (key i) (key j) ≡ Less
  less i j l m =
      let w = ascending_at order (upto n key) i j q up l (omega (arith, length_upto n key)) in
      (λ z. order (sym (get_or_upto n key i q (omega arith)) z) (sym (get_or_upto n key j q m) z)) ∙ w

  low : (j : ℕ) → j < r → order (key j) q ≡ Greater → ⊥
  low j l e =
      ⊎_elim
      (λ (x : j ≡ r - 1). h.last (omega arith) (ap (λ z. order (key z) q) (sym x) ∙ e))
      (⊎_elim
      (λ (x : j < r - 1). h.last (omega arith) (law.flips q (key (r - 1)) (law.chain q (key j) (key (r - 1)) (law.flops (key j) q e) (less j (r - 1) x (omega (arith, h.within))))))
      (λ (x : r - 1 < j). absurd (omega arith)))
      (cases_order j (r - 1))

  high : (j : ℕ) → r ≤ j → j < n → order (key j) q ≡ Greater
  high j l m =
      ⊎_elim
      (λ (x : j ≡ r). ap (λ z. order (key z) q) x ∙ h.next (omega arith))
      (⊎_elim
      (λ (x : j < r). absurd (omega arith))
      (λ (x : r < j). law.flips q (key j) (law.chain q (key r) (key j) (law.flops (key r) q (h.next (omega arith))) (less r j x m))))
      (cases_order j r)

  split_upto : SplitAt order (upto n key) q r
  split_upto = record {
    within = omega (arith, length_upto n key, h.within);
    first = subst (AllByRecursion (λ x. order x q ≡ Greater → ⊥)) (sym (take_upto r n key h.within)) (All-from_get_or (λ x. order x q ≡ Greater → ⊥) (upto r key) q (λ i l e. let lt : i < r = omega (arith, length_upto r key) in low i lt (ap (λ z. order z q) (sym (get_or_upto r key i q lt)) ∙ e)));
    rest = subst (AllByRecursion (λ x. order x q ≡ Greater)) (sym (drop_upto r n key h.within)) (All-from_get_or (λ x. order x q ≡ Greater) (upto (n - r) (λ j. key (r + j))) q (λ i l. let lt : i < n - r = omega (arith, length_upto (n - r) (λ j. key (r + j))) in ap (λ z. order z q) (get_or_upto (n - r) (λ j. key (r + j)) i q lt) ∙ high (r + i) (omega arith) (omega arith)));
  }

-- the same of the keys of a node's entries
pub split_node : {K : Type 0} (order : K → K → Ordering) (law : Orderly order) (φ : Form) (unpacked : List ℕ → K) (β : ℕ → ℕ) (q : K) (r : ℕ) → Sought order (key_of φ unpacked β) (β 1) q r → Ascending order (keys_in unpacked (entries φ β)) → SplitAt order (keys_in unpacked (entries φ β)) q r
unfolding entries
split_node order law φ unpacked β q r h up =
    let e : keys_in unpacked (entries φ β) ≡ upto (β 1) (key_of φ unpacked β) = map_map (λ (x : Entry). unpacked x.key) (entry_at φ β) _ in
    subst (λ xs. SplitAt order xs q r) (sym e) (split_upto order law (key_of φ unpacked β) (β 1) q r h (subst (Ascending order) e up))

-- how far a search has come: no key before `low` is above q as far as looked, and the one at `high` is
pub record Between {K : Type 0} (order : K → K → Ordering) (key : ℕ → K) (n : ℕ) (q : K) (low high : ℕ) : Type 0 where
  pub within : high ≤ n
  pub last : 0 < low → order (key (low - 1)) q ≡ Greater → ⊥
  pub next : high < n → order (key high) q ≡ Greater

pub between_met : {K : Type 0} (order : K → K → Ordering) (key : ℕ → K) (n : ℕ) (q : K) (low high : ℕ) → low ≤ high → high ≤ low → Between order key n q low high → Sought order key n q low
between_met order key n q low high l m h =
    let e : high ≡ low = omega arith in
    record { within = omega (arith, h.within); last = h.last; next = λ x. ap (λ z. order (key z) q) (sym e) ∙ h.next (omega arith) }

pub found : {K : Type 0} (order : K → K → Ordering) (law : Orderly order) (φ : Form) (unpacked : List ℕ → K) (b : ℕ) (q : K) (r : ℕ) (m u n : Meaning) → u ≡ m → n ≡ u → Sought order (key_of φ unpacked (u.words b)) (u.words b 1) q r → Found φ order unpacked b q m r n
found order law φ unpacked b q r m u n e d h =
    let s = subst (λ z. Sought order (key_of φ unpacked (z.words b)) (z.words b 1) q r) e h in
    record { same = d ∙ e; sought = s; split = split_node order law φ unpacked (m.words b) q r s }
