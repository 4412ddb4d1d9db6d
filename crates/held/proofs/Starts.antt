-- The keys of a node's entries are the smallest keys of its items, and ascend.
use Rattle.std.proofs.Common.{◌≡◌, ℕ, suc, List, [], ◌∷◌, ◌++◌, map, Less, sym, ap, ◌∙◌, subst}
use Rattle.std.specs.Ordering.{is_le}
use Rattle.std.specs.List.{AllByRecursion}
use Rattle.keys.specs.Sorted.{Ascending}
use Rattle.nodes.specs.Nodes.{Entry}
use Rattle.nodes.specs.Finds.{keys_in}
use Rattle.plain.specs.Plain.{Sorted}
use Rattle.plain.specs.declared.pair.Pair.{Pair}
use Rattle.plain.proofs.Alls.{all_back}
use Rattle.plain.proofs.Pairs.{sorted_back}
use Rattle.tree.specs.Lists.{joined}
use Rattle.tree.specs.Tree.{pairs, Fit, starts}
use Rattle.tree.proofs.Units.{Units}
use Rattle.tree.proofs.Flat.{First, first}
use Rattle.held.specs.Held.{Kind, Lawful, item, words_of, Right}

module _ {K : Type 0} (κ : Kind K) (law : Lawful κ) (unit : ℕ → ℕ) (units : Units unit) (ω : ℕ → ℕ → ℕ) (l : ℕ) where
  -- the first pair of an entry's item
  abbrev pub FirstOf : Entry → Type 0
  FirstOf e = First law.ordered unit units (suc l) (item κ ω (suc l) e)

  pub first_of : (e : Entry) → Fit K unit (suc l) (item κ ω (suc l) e) → FirstOf e
  first_of e f = first law.ordered unit units (suc l) (item κ ω (suc l) e) f

  -- the entry's key is that pair's
  pub key_first : (e : Entry) (f : FirstOf e) → Right κ ω (suc l) e → κ.unpacked e.key ≡ f.q.key
  key_first e f r = ap κ.unpacked (r.1 ∙ ap (words_of κ) f.least) ∙ law.packing.back f.q.key

  -- an item starts at k or below exactly where the entry's key is at most k
  pub starts_key : (k : K) (e : Entry) → Right κ ω (suc l) e → Fit K unit (suc l) (item κ ω (suc l) e) → starts κ.order (suc l) k (item κ ω (suc l) e) ≡ is_le (κ.order (κ.unpacked e.key) k)
  starts_key k e r f = let b = first_of e f in b.tells k ∙ ap (λ z. is_le (κ.order z k)) (sym (key_first e b r))

  -- what holds of the keys of all pairs holds of the entries' keys
  all_keys : (P : K → Type 0) (es : List Entry) → AllByRecursion (Right κ ω (suc l)) es → AllByRecursion (Fit K unit (suc l)) (map (item κ ω (suc l)) es) → AllByRecursion (λ p. P p.key) (joined (pairs K (suc l)) (map (item κ ω (suc l)) es)) → AllByRecursion P (keys_in κ.unpacked es)
  all_keys P [] r f a = tt
  all_keys P (e ∷ es) r f a =
      let b = first_of e f.0 in
      let rest = joined (pairs K (suc l)) (map (item κ ω (suc l)) es) in
      let here : AllByRecursion (λ p. P p.key) ((b.q ∷ b.rest) ++ rest) = subst (λ z. AllByRecursion (λ p. P p.key) (z ++ rest)) b.is a in
      (subst P (sym (key_first e b r.0)) here.0, all_keys P es r.1 f.1 (all_back (λ (p : Pair K). P p.key) b.rest rest here.1))

  -- where the pairs ascend, the entries' keys do
  pub keys_ascend : (es : List Entry) → AllByRecursion (Right κ ω (suc l)) es → AllByRecursion (Fit K unit (suc l)) (map (item κ ω (suc l)) es) → Sorted κ.order (joined (pairs K (suc l)) (map (item κ ω (suc l)) es)) → Ascending κ.order (keys_in κ.unpacked es)
  keys_ascend [] r f a = tt
  keys_ascend (e ∷ es) r f a =
      let b = first_of e f.0 in
      let rest = joined (pairs K (suc l)) (map (item κ ω (suc l)) es) in
      let here : Sorted κ.order ((b.q ∷ b.rest) ++ rest) = subst (λ z. Sorted κ.order (z ++ rest)) b.is a in
      let P : K → Type 0 = λ y. κ.order (κ.unpacked e.key) y ≡ Less in
      let above : AllByRecursion (λ (p : Pair K). P p.key) (b.rest ++ rest) = subst (λ z. AllByRecursion (λ (p : Pair K). κ.order z p.key ≡ Less) (b.rest ++ rest)) (sym (key_first e b r.0)) here.0 in
      (all_keys P es r.1 f.1 (all_back (λ (p : Pair K). P p.key) b.rest rest above), keys_ascend es r.1 f.1 (sorted_back κ.order (b.q ∷ b.rest) rest here))
