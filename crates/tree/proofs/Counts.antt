-- Nodes, taken and in all; places in a block.
use Rattle.std.proofs.Common.{◌≡◌, ℕ, zero, suc, ◌+◌, ◌*◌, ◌<◌, ◌≤◌, Bool, true, false, cond, eqb, ltb, List, [], ◌∷◌, ◌++◌, length, Ordering, refl, ap, le_of_mul-le-mul_right, arith}
use Rattle.std.proofs.lemmas.Bool.{eq-eqb, ne_eqb}
use Rattle.std.specs.List.{AllByRecursion}
use Rattle.tree.specs.Lists.{total, onto}
use Rattle.tree.specs.Tree.{Item, Tree, Weighed, Update, adds, drops, Kids, Fit, weight, left, right, over, grown, split_above, starts, route, ins, del, ins_mark, del_mark, under, merged, merged_mark, fused, fused_mark, mended, lowered, updated, mark}
use Rattle.tree.specs.Counts.{nodes, blocks, full, full_below, taken, gives, levels, lone, given_back}
use Rattle.tree.specs.declared.mark.Mark.{Mark}
use Rattle.tree.specs.declared.mark.Mark.TheVariants.{Nothing, Merge, MergeSplit}
use Rattle.tree.proofs.Lists.{total_append, total_onto, total_none, all_of_onto, halves, seek_back}
use Rattle.tree.proofs.Units.{Units, unit_some}
use Rattle.tree.proofs.Levels.{kids}
use Rattle.tree.proofs.Insert.{inserted}

-- one more than w is too much exactly where w is the limit
pub over_full : (w m : ℕ) → w ≤ m → ltb m (suc w) ≡ eqb w m
over_full w m h = grind arith

split_nodes : (K : Type 0) (unit : ℕ → ℕ) (l m : ℕ) (x : Item K (suc l)) → total (nodes K (suc l)) (split_above K unit l m x) ≡ cond (ltb m (weight K (suc l) x)) 1 0 + nodes K (suc l) x
split_nodes K unit l m x = go (ltb m (weight K (suc l) x))
  where
    go : (b : Bool) → total (nodes K (suc l)) (cond b (left K unit l x ∷ right K unit l x ∷ []) (x ∷ [])) ≡ cond b 1 0 + nodes K (suc l) x
    go true = omega (arith, total_append (nodes K l) (left K unit l x) (right K unit l x), ap (total (nodes K l)) (halves (weight K l) (weight K (suc l) x) 0 x))
    go false = omega arith

module _ {K : Type 0} (order : K → K → Ordering) (unit : ℕ → ℕ) (units : Units unit) where
  ins_nodes : (l : ℕ) (k : K) (h : ℕ) (x : Item K (suc l)) → Kids K unit l x → AllByRecursion (Fit K unit l) x → total (nodes K l) (ins order unit l k h x) ≡ total (nodes K l) x + full_below order unit l k x
  ins_nodes zero k h x s f = omega (arith, total_none x, total_none (ins order unit zero k h x))
  ins_nodes (suc l) k h [] s f = absurd (omega arith)
  ins_nodes (suc l) k h (c ∷ cs) s f =
      let z = route order (suc l) k c cs in
      let x = z.here in
      let y = ins order unit l k h x in
      let N = nodes K (suc l) in
      let back : onto z.before (x ∷ z.after) ≡ c ∷ cs = seek_back (starts order (suc l) k) [] c cs in
      let fx = (all_of_onto (Fit K unit (suc l)) z.before (x ∷ z.after) (rw back f)).1.0 in
      let two = kids K unit units l x fx in
      let e : ltb (8 * unit l) (weight K (suc l) y) ≡ full K unit l x = rw (inserted order unit units l k h x two fx.2).sum (over_full (weight K (suc l) x) (8 * unit l) fx.1) in
      omega (
        arith,
        ins_nodes l k h x two fx.2,
        split_nodes K unit l (8 * unit l) y,
        ap (λ b. cond {A = ℕ} b 1 0) e,
        total_onto N z.before (grown K unit l y ++ z.after),
        total_append N (grown K unit l y) z.after,
        ap (total N) back,
        total_onto N z.before (x ∷ z.after),
      )

  pub takes_right : (t : Tree K) (k : K) (h : ℕ) → Weighed K unit t → blocks K (updated order unit t (adds k h)) ≡ blocks K t + taken order unit k t
  takes_right t k h g =
      let l = t.level in
      let x = t.root in
      let y = ins order unit l k h x in
      let e : over K unit l y ≡ full K unit l x = rw (inserted order unit units l k h x g.two g.fits).sum (over_full (weight K (suc l) x) (8 * unit l) g.limit) in
      go (over K unit l y) (full K unit l x) e (split_nodes K unit l (8 * unit l) y) (ins_nodes l k h x g.two g.fits)
    where
      go : (b c : Bool) → b ≡ c →
          total (nodes K (suc t.level)) (cond b (left K unit t.level (ins order unit t.level k h t.root) ∷ right K unit t.level (ins order unit t.level k h t.root) ∷ []) (ins order unit t.level k h t.root ∷ [])) ≡ cond b 1 0 + nodes K (suc t.level) (ins order unit t.level k h t.root) →
          total (nodes K t.level) (ins order unit t.level k h t.root) ≡ total (nodes K t.level) t.root + full_below order unit t.level k t.root →
          blocks K (cond b (record { level = suc t.level; root = left K unit t.level (ins order unit t.level k h t.root) ∷ right K unit t.level (ins order unit t.level k h t.root) ∷ [] }) (record { level = t.level; root = ins order unit t.level k h t.root }))
          ≡ blocks K t + ((full_below order unit t.level k t.root + cond c 1 0) + cond c 1 0)
      go true c e p q = rw (← e) (omega arith)
      go false c e p q = rw (← e) (omega arith)

module _ (K : Type 0) (unit : ℕ → ℕ) (units : Units unit) where
  heavy : (l : ℕ) (xs : List (Item K (suc l))) → AllByRecursion (Fit K unit (suc l)) xs → length xs * unit l + length xs * unit l ≤ total (weight K (suc l)) xs
  heavy l [] f = omega arith
  heavy l (x ∷ xs) f = omega (arith, heavy l xs f.1, f.0.0)

  pub places_suffice : (p l : ℕ) (x : Item K (suc (suc l))) → unit (suc l) ≡ unit l * p → AllByRecursion (Fit K unit (suc l)) x → weight K (suc (suc l)) x ≤ 10 * unit (suc l) → length x ≤ 5 * p
  places_suffice p l x e f w =
      let n = length x in
      let some = unit_some unit units l in
      le_of_mul-le-mul_right {k = unit l} (omega (arith, heavy l x f)) (omega arith)

-- What a deletion gives back.
module _ (K : Type 0) (unit : ℕ → ℕ) where
  merged_nodes : (l : ℕ) (x y : Item K (suc l)) → total (nodes K (suc l)) (merged K unit l (x ++ y)) + gives (merged_mark K unit l (x ++ y)) ≡ nodes K (suc l) x + nodes K (suc l) y
  merged_nodes l x y = go (ltb (7 * unit l) (weight K (suc l) (x ++ y))) (split_nodes K unit l (7 * unit l) (x ++ y))
    where
      go : (b : Bool) → total (nodes K (suc l)) (merged K unit l (x ++ y)) ≡ cond b 1 0 + nodes K (suc l) (x ++ y) → total (nodes K (suc l)) (merged K unit l (x ++ y)) + gives (cond b MergeSplit Merge) ≡ nodes K (suc l) x + nodes K (suc l) y
      go true e = omega (arith, total_append (nodes K l) x y)
      go false e = omega (arith, total_append (nodes K l) x y)

  mended_nodes : (l : ℕ) (b : List (Item K (suc l))) (x : Item K (suc l)) (a : List (Item K (suc l))) →
      total (nodes K (suc l)) (mended K unit l b x a) + gives (cond (under K unit l x) (fused_mark K unit l b x a) Nothing) ≡ total (nodes K (suc l)) (onto b (x ∷ a))
  mended_nodes l b x a = go (under K unit l x) b a
    where
      N : Item K (suc l) → ℕ
      N = nodes K (suc l)

      fuse : (b a : List (Item K (suc l))) → total (nodes K (suc l)) (fused K unit l b x a) + gives (fused_mark K unit l b x a) ≡ total (nodes K (suc l)) (onto b (x ∷ a))
      fuse (y ∷ b) a =
          omega (arith, merged_nodes l y x, total_onto (nodes K (suc l)) b (merged K unit l (y ++ x) ++ a), total_append (nodes K (suc l)) (merged K unit l (y ++ x)) a, total_onto (nodes K (suc l)) b (y ∷ x ∷ a))
      fuse [] (y ∷ a) = omega (arith, merged_nodes l x y, total_append (nodes K (suc l)) (merged K unit l (x ++ y)) a)
      fuse [] [] = omega arith

      go : (t : Bool) (b a : List (Item K (suc l))) → total (nodes K (suc l)) (cond t (fused K unit l b x a) (onto b (x ∷ a))) + gives (cond t (fused_mark K unit l b x a) Nothing) ≡ total (nodes K (suc l)) (onto b (x ∷ a))
      go true b a = fuse b a
      go false b a = omega arith

  lowered_nodes : (l : ℕ) (x : Item K (suc l)) → blocks K (lowered K l x) + lone K l x ≡ suc (nodes K (suc l) x)
  lowered_nodes zero x = omega arith
  lowered_nodes (suc l) [] = omega arith
  lowered_nodes (suc l) (c ∷ []) = omega arith
  lowered_nodes (suc l) (c ∷ d ∷ cs) = omega arith

levels_same : (f g : ℕ → ℕ) (l : ℕ) → ((j : ℕ) → j < l → f j ≡ g j) → levels f l ≡ levels g l
levels_same f g zero e = refl
levels_same f g (suc l) e = omega (arith, e l (omega arith), levels_same f g l (λ j h. e j (omega arith)))

module _ {K : Type 0} (order : K → K → Ordering) (unit : ℕ → ℕ) where
  del_nodes : (l : ℕ) (k : K) (x : Item K (suc l)) → total (nodes K l) (del order unit l k x) + levels (λ j. gives (del_mark order unit j l k x)) l ≡ total (nodes K l) x
  del_nodes zero k x = omega (arith, total_none x, total_none (del order unit zero k x))
  del_nodes (suc l) k [] = omega (arith, levels_none l)
    where
      levels_none : (l : ℕ) → levels (λ j. 0) l ≡ 0
      levels_none zero = refl
      levels_none (suc l) = omega (arith, levels_none l)
  del_nodes (suc l) k (c ∷ cs) =
      let z = route order (suc l) k c cs in
      let x = z.here in
      let y = del order unit l k x in
      let N = nodes K (suc l) in
      let m : Mark = cond (under K unit l y) (fused_mark K unit l z.before y z.after) Nothing in
      let back : onto z.before (x ∷ z.after) ≡ c ∷ cs = seek_back (starts order (suc l) k) [] c cs in
      let here : gives (cond (eqb l l) m (del_mark order unit l l k x)) ≡ gives m = rw (eq-eqb l l refl) refl in
      let below : levels (λ j. gives (cond (eqb j l) m (del_mark order unit j l k x))) l ≡ levels (λ j. gives (del_mark order unit j l k x)) l =
      levels_same (λ j. gives (cond (eqb j l) m (del_mark order unit j l k x))) (λ j. gives (del_mark order unit j l k x)) l (λ j h. ap (λ b. gives (cond b m (del_mark order unit j l k x))) (ne_eqb j l (λ e. omega arith))) in
      omega (arith, here, below, del_nodes l k x, mended_nodes K unit l z.before y z.after, total_onto N z.before (y ∷ z.after), ap (total N) back, total_onto N z.before (x ∷ z.after))

  pub gives_back : (t : Tree K) (k : K) → blocks K (updated order unit t (drops k)) + given_back order unit k t ≡ blocks K t
  gives_back t k = omega (arith, del_nodes t.level k t.root, lowered_nodes K unit t.level (del order unit t.level k t.root))

  pub ins_high : (j l : ℕ) (k : K) (h : ℕ) (x : Item K (suc l)) → l ≤ j → ins_mark order unit j l k h x ≡ Nothing
  ins_high j zero k h x p = refl
  ins_high j (suc l) k h [] p = refl
  ins_high j (suc l) k h (c ∷ cs) p = rw (ne_eqb j l (λ e. omega arith)) (ins_high j l k h (route order (suc l) k c cs).here (omega arith))

  del_high : (j l : ℕ) (k : K) (x : Item K (suc l)) → l ≤ j → del_mark order unit j l k x ≡ Nothing
  del_high j zero k x p = refl
  del_high j (suc l) k [] p = refl
  del_high j (suc l) k (c ∷ cs) p = rw (ne_eqb j l (λ e. omega arith)) (del_high j l k (route order (suc l) k c cs).here (omega arith))

  pub unmarked : (j : ℕ) (t : Tree K) (u : Update K) → t.level < j → mark order unit j t u ≡ Nothing
  unmarked j t (adds k h) p = rw (ne_eqb j t.level (λ e. omega arith)) (ins_high j t.level k h t.root (omega arith))
  unmarked j t (drops k) p = del_high j t.level k t.root (omega arith)
