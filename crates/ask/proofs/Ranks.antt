-- How many keys come before a bound: in a leaf, and on the way down.
use Rattle.std.proofs.Common.{◌≡◌, ℕ, suc, ◌+◌, ◌-◌, ◌^◌, ◌<◌, ◌≤◌, Bool, true, false, cond, ◌⊎◌, inl, inr, List, [], ◌∷◌, ◌++◌, length, get_or, take, drop, append_assoc, Ordering, Less, Equal, Greater, sym, refl, ap, ◌∙◌, subst, arith}
use Rattle.std.proofs.lemmas.List.{take-append-drop, take_more, take-map, length-take-le}
use Rattle.std.proofs.lemmas.Bool.{false≢true}
use Rattle.std.specs.Int.{from_bool}
use Rattle.std.specs.List.{AllByRecursion}
use Rattle.std.specs.Ordering.{is_lt, is_le, is_eq}
use Rattle.store.specs.Meaning.{Meaning, Sound}
use Rattle.keys.specs.Orders.{Orderly}
use Rattle.keys.specs.Sorted.{how_many, passes}
use Rattle.keys.specs.Totals.{less_below}
use Rattle.nodes.specs.declared.node.Node.{Node}
use Rattle.nodes.specs.Places.{Form}
use Rattle.nodes.specs.Nodes.{Keyed, entry_at, entries}
use Rattle.nodes.specs.Finds.{Found}
use Rattle.plain.specs.Plain.{Sorted, rank, up_to, within}
use Rattle.plain.proofs.Floors.{counted, within_none}
use Rattle.plain.specs.declared.pair.Pair.{Pair}
use Rattle.plain.proofs.Alls.{all_map, all_back, how_many_append, how_many_none, how_many_all}
use Rattle.plain.proofs.Pairs.{sorted_across}
use Rattle.tree.specs.Lists.{total}
use Rattle.tree.specs.Tree.{index_unit, weight}
use Rattle.tree.specs.Queries.{rank_down, up_to_down}
use Rattle.tree.proofs.Flat.{count_pairs}
use Rattle.tree.proofs.Queries.{flat_rank, flat_up_to}
use Rattle.balance.specs.declared.way.Way.{Way}
use Rattle.balance.specs.Cuts.{Mild, Weighable, Weighed, sum, weights}
use Rattle.balance.specs.Ways.{Led, Peopled}
use Rattle.balance.proofs.Levels.{index_units}
use Rattle.balance.proofs.Weights.{still_weighable, summed_more}
use Rattle.held.specs.Held.{Kind, Lawful, item, node, Sits}
use Rattle.held.specs.Roots.{pairs_in, pairs_below, Rooted, Tells}
use Rattle.held.proofs.Child.{Child, child, peopled, node_of, item_at, node_length}
use Rattle.held.proofs.Halving.{weights_are, sum_is, get_total, total_map}
use Rattle.ask.specs.Ranks.{passing, Begun, Passed}
use Rattle.ask.proofs.Leaves.{parted, leaf_pairs}
use Rattle.ask.proofs.Sizes.{few_keys}

-- the weights of a node's first entries are added one by one
pub begun_more : (φ : Form) (b l n i all w : ℕ) (m u t : Meaning) → i < n → Begun φ b l n m → u ≡ m → all ≡ sum (take i (weights φ l (m.words b))) → Weighed φ b l i u w t →
    (t ≡ m) × (all + w ≡ sum (take (i + 1) (weights φ l (m.words b))))
begun_more φ b l n i all w m u t h p e a r = summed_more φ b l (m.words b 1) i all w m u t (omega (arith, p.within)) (record { mild = p.mild; count = refl }) e a r

pub begun_weighable : (φ : Form) (b l n i : ℕ) (m u : Meaning) → i < n → Begun φ b l n m → u ≡ m → Weighable φ b l i u
begun_weighable φ b l n i m u h p e = still_weighable φ b l (m.words b 1) i m u e (omega (arith, p.within)) (record { mild = p.mild; count = refl })

-- how many of a list pass is at most how many they are
pub how_many_most : {X : Type 0} (p : X → Bool) (xs : List X) → how_many p xs ≤ length xs
how_many_most p [] = omega arith
how_many_most p (x ∷ xs) = go (p x) (how_many_most p xs)
  where
    go : (b : Bool) → how_many p xs ≤ length xs → cond b 1 0 + how_many p xs ≤ suc (length xs)
    go true ih = omega arith
    go false ih = omega arith

module _ {K : Type 0} {order : K → K → Ordering} (o : Orderly order) where
  -- of pairs that ascend, where the first r have keys at most k and the others have not
  module _ (k : K) (x : List (Pair K)) (r : ℕ) (low : AllByRecursion (λ (p : Pair K). is_le (order p.key k) ≡ true) (take r x)) (high : AllByRecursion (λ (p : Pair K). order p.key k ≡ Greater) (drop r x)) where
    -- the others don't count
    front : (equal : Bool) → passing order equal k x ≡ passing order equal k (take r x)
    front equal =
        let t : Pair K → Bool = λ p. passes equal (order p.key k) in
        let none : (b : Bool) → passes b Greater ≡ false = λ b. elim b as (λ c. passes c Greater ≡ false) [ true ↦ refl | false ↦ refl ] in
        omega (
          arith,
          ap (how_many t) (take-append-drop r x),
          how_many_append t (take r x) (drop r x),
          how_many_none t (drop r x) (all_map (λ (p : Pair K). order p.key k ≡ Greater) (λ p. t p ≡ false) (drop r x) (λ p e. ap (passes equal) e ∙ none equal) high),
        )

    pub passing_all : r ≤ length x → r ≡ passing order true k x
    passing_all h = omega (arith, front true, how_many_all (λ (p : Pair K). is_le (order p.key k)) (take r x) low, length-take-le r x h)

    pub passing_none : r ≡ 0 → (equal : Bool) → r ≡ passing order equal k x
    passing_none e equal = omega (arith, front equal, ap (λ z. passing order equal k (take z x)) e)

    -- only the last of them can be k itself
    pub passing_last : (i : ℕ) (q : Pair K) → r ≡ i + 1 → r ≤ length x → Sorted order x → get_or x i q ≡ q → r - from_bool (is_eq (order q.key k)) ≡ passing order false k x
    passing_last i q e h a at = go (order q.key k) refl
      where
        split : take r x ≡ take i x ++ (q ∷ [])
        split = ap (λ z. take z x) e ∙ take_more x i q (omega arith) ∙ ap (λ y. take i x ++ (y ∷ [])) at

        up : Sorted order (take i x ++ ((q ∷ []) ++ drop r x))
        up = subst (Sorted order) (sym (take-append-drop r x) ∙ ap (λ z. z ++ drop r x) split ∙ append_assoc (take i x) (q ∷ []) (drop r x)) a

        last_low : is_le (order q.key k) ≡ true
        last_low = (all_back (λ (p : Pair K). is_le (order p.key k) ≡ true) (take i x) (q ∷ []) (subst (AllByRecursion (λ (p : Pair K). is_le (order p.key k) ≡ true)) split low)).0

        before : AllByRecursion (λ (p : Pair K). is_lt (order p.key k) ≡ true) (take i x)
        before = all_map (λ (p : Pair K). AllByRecursion (λ (y : Pair K). order p.key y.key ≡ Less) (q ∷ drop r x)) (λ (p : Pair K). is_lt (order p.key k) ≡ true) (take i x)
            (λ p s. ap is_lt (less_below o p.key q.key k s.0 last_low)) (sorted_across order (take i x) (q ∷ drop r x) up)

        counted : passing order false k x ≡ i + cond (is_lt (order q.key k)) 1 0
        counted =
            let t : Pair K → Bool = λ p. is_lt (order p.key k) in
            omega (arith, front false, ap (how_many t) split, how_many_append t (take i x) (q ∷ []), how_many_all t (take i x) before, length-take-le i x (omega arith))

        go : (z : Ordering) → order q.key k ≡ z → r - from_bool (is_eq (order q.key k)) ≡ passing order false k x
        go Less f = omega (arith, ap (λ z. from_bool (is_eq z)) f, counted, ap (λ z. cond {A = ℕ} (is_lt z) 1 0) f)
        go Equal f = omega (arith, ap (λ z. from_bool (is_eq z)) f, counted, ap (λ z. cond {A = ℕ} (is_lt z) 1 0) f)
        go Greater f = absurd (false≢true (ap is_le (sym f) ∙ last_low))

module _ {K : Type 0} (κ : Kind K) where
  pub rooted_after : (m n : Meaning) (b : Node) → n ≡ m → Rooted κ b m → Rooted κ b n
  rooted_after m n b e s = subst (Rooted κ b) (sym e) s

module _ {K : Type 0} (κ : Kind K) (law : Lawful κ) where
  -- the search in a leaf counts the keys at most k
  pub leaf_first : (m n : Meaning) (b : ℕ) (k : K) (equal : Bool) (r : ℕ) → (equal ≡ true) ⊎ (r ≡ 0) → Sits κ index_unit m 0 b → Found κ.form κ.order κ.unpacked b k m r n → Tells (λ z. passing κ.order equal k (pairs_in κ z.words 0 b)) m r n
  leaf_first m n b k equal r which s f =
      let x = node κ m.words 0 b in
      let p = parted κ m n b k r s f in
      let here : r ≡ passing κ.order equal k x = elim which [
        | inl e ↦ passing_all law.ordered k x r p.low p.high (omega (arith, p.within, node_length κ m.words 0 b)) ∙ ap (λ z. passing κ.order z k x) (sym e)
        | inr e ↦ passing_none law.ordered k x r p.low p.high e equal
      ] in
      record { value_is = here ∙ ap (passing κ.order equal k) (sym (leaf_pairs κ m.words b)); same = f.same }

  -- and the last of them is looked at
  pub leaf_last : (m u n : Meaning) (b : ℕ) (k x : K) (equal : Bool) (r i one : ℕ) → equal ≡ false → r ≡ i + 1 → Sits κ index_unit m 0 b → Found κ.form κ.order κ.unpacked b k m r u → Keyed κ.form κ.unpacked b i u x n →
      one ≡ from_bool (is_eq (κ.order x k)) → Tells (λ z. passing κ.order equal k (pairs_in κ z.words 0 b)) m (r - one) n
  leaf_last m u n b k x equal r i one off e s f y t =
      let ps = node κ m.words 0 b in
      let q = item κ m.words 0 (entry_at κ.form (m.words b) i) in
      let p = parted κ m u b k r s f in
      let read : x ≡ q.key = y.value ∙ ap (λ z. κ.unpacked (entry_at κ.form (z.words b) i).key) f.same in
      let here : r - one ≡ passing κ.order false k ps =
      ap (λ z. r - z) (t ∙ ap (λ z. from_bool (is_eq (κ.order z k))) read)
      ∙ passing_last law.ordered k ps r p.low p.high i q e (omega (arith, p.within, node_length κ m.words 0 b)) (subst (Sorted κ.order) (leaf_pairs κ m.words b) s.ascending) (item_at κ m.words 0 b i q (omega (arith, p.within))) in
      record { value_is = here ∙ ap (λ z. passing κ.order z k ps) (sym off) ∙ ap (passing κ.order equal k) (sym (leaf_pairs κ m.words b)); same = y.same ∙ f.same }

  -- what the children before the way weigh, and what counts in the child
  pub passing_step : (m : Meaning) (l b : ℕ) (k : K) (w : Way) (equal : Bool) → Sits κ index_unit m (suc l) b → Child κ index_unit m l b k w →
      passing κ.order equal k (pairs_in κ m.words (suc l) b) ≡ total (weight K (suc l)) (take w.place (node κ m.words (suc l) b)) + passing κ.order equal k (pairs_in κ m.words l w.child.block)
  passing_step m l b k w true s c =
      let before = total (weight K (suc l)) (take w.place (node κ m.words (suc l) b)) in
      sym (flat_up_to law.ordered index_unit index_units (suc l) k (node κ m.words (suc l) b) s.kids s.fits s.ascending)
      ∙ c.routed.up_to_is
      ∙ ap (λ y. before + up_to_down κ.order l k y) c.is
      ∙ ap (λ z. before + z) (flat_up_to law.ordered index_unit index_units l k (node κ m.words l w.child.block) c.sits.kids c.sits.fits c.sits.ascending)
  passing_step m l b k w false s c =
      let before = total (weight K (suc l)) (take w.place (node κ m.words (suc l) b)) in
      sym (flat_rank law.ordered index_unit index_units (suc l) k (node κ m.words (suc l) b) s.kids s.fits s.ascending)
      ∙ c.routed.rank_is
      ∙ ap (λ y. before + rank_down κ.order l k y) c.is
      ∙ ap (λ z. before + z) (flat_rank law.ordered index_unit index_units l k (node κ m.words l w.child.block) c.sits.kids c.sits.fits c.sits.ascending)

  -- what the first entries add is what their items weigh
  passed_is : (m : Meaning) (l b i : ℕ) → Sits κ index_unit m l b → sum (take i (weights κ.form l (m.words b))) ≡ total (weight K l) (take i (node κ m.words l b))
  passed_is m l b i s =
      let x = node κ m.words l b in
      ap (λ z. sum (take i z)) (weights_are κ m.words l (entries κ.form (m.words b)) s.whole.2) ∙ ap sum (take-map (weight K l) i x) ∙ total_map (weight K l) (take i x)

  -- no more keys than blocks can hold
  passing_small : (m : Meaning) (b : Node) (k : K) (equal : Bool) → Sound m → Rooted κ b m → passing κ.order equal k (pairs_below κ b m) ≤ 2 ^ 40
  passing_small m b k equal sound s = omega (
    arith,
    how_many_most (λ (q : Pair K). passes equal (κ.order q.key k)) (pairs_below κ b m),
    count_pairs K (suc b.level) (node κ m.words b.level b.block),
    few_keys κ m b.level b.block sound s,
  )

  -- a node above the leaves, named by the level below
  pub above_leaf : (m : Meaning) (b : Node) → (b.level ≡ 0 → ⊥) → Rooted κ b m → Sits κ index_unit m (suc (b.level - 1)) b.block
  above_leaf m b h s = let more : b.level ≡ suc (b.level - 1) = omega arith in subst (λ j. Sits κ index_unit m j b.block) more s

  pub rooted_peopled : (m : Meaning) (b : Node) → (b.level ≡ 0 → ⊥) → Rooted κ b m → Peopled κ.form b.block m
  rooted_peopled m b h s = peopled κ index_unit m (b.level - 1) b.block (above_leaf m b h s)

  pub rooted_leaf : (m : Meaning) (b : Node) → b.level ≡ 0 → Rooted κ b m → Sits κ index_unit m 0 b.block
  rooted_leaf m b h s = subst (λ j. Sits κ index_unit m j b.block) h s

  -- a leaf named as a node
  pub leaf_counts : (m n : Meaning) (b : Node) (k : K) (equal : Bool) (r s : ℕ) → b.level ≡ 0 → s ≡ r → Tells (λ z. passing κ.order equal k (pairs_in κ z.words 0 b.block)) m r n → Tells (λ z. passing κ.order equal k (pairs_below κ b z)) m s n
  leaf_counts m n b k equal r s h e t = record { value_is = e ∙ t.value_is ∙ ap (λ j. passing κ.order equal k (pairs_in κ m.words j b.block)) (sym h); same = t.same }

  -- what a way leads to from such a node, after the reads that found it
  module _ (m u : Meaning) (b : Node) (k : K) (w : Way) (h : b.level ≡ 0 → ⊥) (s : Rooted κ b m) (led : Led κ.form κ.order κ.unpacked b.block k m w u) where
    pub way_child : Child κ index_unit m (b.level - 1) b.block k w
    way_child = child κ law index_unit index_units m u (b.level - 1) b.block k w (above_leaf m b h s) led

    pub child_rooted : w.child.level ≡ b.level - 1 → Rooted κ w.child m
    child_rooted one = subst (λ j. Rooted κ (record { block = w.child.block; level = j }) m) (sym one) way_child.sits

  module _ (m u : Meaning) (b : Node) (k : K) (w : Way) (h : b.level ≡ 0 → ⊥) (one : w.child.level ≡ b.level - 1) (sound : Sound m) (s : Rooted κ b m) (led : Led κ.form κ.order κ.unpacked b.block k m w u) where
    c : Child κ index_unit m (b.level - 1) b.block k w
    c = way_child m u b k w h s led

    -- the weights before it can be added
    pub way_begun : Begun κ.form b.block b.level w.place u
    way_begun =
        let mild : Mild κ.form b.block b.level m = record { node = node_of κ index_unit m b.level b.block s; each = λ i. omega (arith, get_total (weights κ.form b.level (m.words b.block)) i, sum_is κ m b.level b.block s.whole, few_keys κ m b.level b.block sound s) } in
        subst (Begun κ.form b.block b.level w.place) (sym led.found.same) (record { mild = mild; within = omega (arith, c.within) })

    -- the keys before the way, and those in the child
    pub counts_on : (v n : Meaning) (equal : Bool) (passed below r : ℕ) → Passed κ.form b.block b.level w.place u passed v → Tells (λ z. passing κ.order equal k (pairs_below κ w.child z)) v below n → (below ≤ 2 ^ 40 → r ≡ passed + below) →
        Tells (λ z. passing κ.order equal k (pairs_below κ b z)) m r n
    counts_on v n equal passed below r x y sum_is =
        let l = b.level - 1 in
        let more : b.level ≡ suc l = omega arith in
        let back : v ≡ m = x.same ∙ led.found.same in
        let few : below ≤ 2 ^ 40 = omega (arith, y.value_is, ap (λ z. passing κ.order equal k (pairs_below κ w.child z)) back, passing_small m w.child k equal sound (child_rooted m u b k w h s led one)) in
        let before : passed ≡ total (weight K (suc l)) (take w.place (node κ m.words (suc l) b.block)) =
        x.value ∙ ap (λ z. sum (take w.place (weights κ.form b.level (z.words b.block)))) led.found.same ∙ ap (λ j. sum (take w.place (weights κ.form j (m.words b.block)))) more ∙ passed_is m (suc l) b.block w.place (above_leaf m b h s) in
        let under : below ≡ passing κ.order equal k (pairs_in κ m.words l w.child.block) =
        y.value_is ∙ ap (λ z. passing κ.order equal k (pairs_below κ w.child z)) back ∙ ap (λ j. passing κ.order equal k (pairs_in κ m.words j w.child.block)) one in
        let here : r ≡ passing κ.order equal k (pairs_in κ m.words (suc l) b.block) = omega (arith, sum_is few, before, under, passing_step m l b.block k w equal (above_leaf m b h s) c) in
        record { value_is = here ∙ ap (λ j. passing κ.order equal k (pairs_in κ m.words j b.block)) (sym more); same = y.same ∙ back }

  -- the keys from low to high, counted by the keys below low and those up to high
  pub within_told : (m u n : Meaning) (b : Node) (low high : K) (below upto r : ℕ) → Rooted κ b m → Tells (λ z. rank κ.order low (pairs_below κ b z)) m below u → Tells (λ z. up_to κ.order high (pairs_below κ b z)) u upto n → r ≡ upto - below →
      Tells (λ z. length (within κ.order low high (pairs_below κ b z))) m r n
  within_told m u n b low high below upto r p x y e = record {
    value_is = omega (arith, e, x.value_is, y.value_is, ap (λ z. up_to κ.order high (pairs_below κ b z)) x.same, counted law.ordered low high (pairs_below κ b m) p.ascending);
    same = y.same ∙ x.same;
  }

  -- there are none where low exceeds high
  pub within_zero : (m : Meaning) (b : Node) (low high : K) → κ.order low high ≡ Greater → Tells (λ z. length (within κ.order low high (pairs_below κ b z))) m 0 m
  within_zero m b low high e = record { value_is = sym (ap length (within_none law.ordered low high (pairs_below κ b m) e)); same = refl }
