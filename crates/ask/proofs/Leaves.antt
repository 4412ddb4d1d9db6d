-- The way to a leaf, and what a search in a leaf tells of its pairs.
use Rattle.std.proofs.Common.{◌≡◌, ℕ, zero, suc, ◌+◌, ◌-◌, ◌<◌, ◌≤◌, Bool, true, false, cond, List, [], ◌∷◌, ◌++◌, map, get_or, take, drop, Some, None, filter, Option, Ordering, Less, Equal, Greater, unwrap_or, sym, refl, ap, ◌∙◌, subst, append-nil, arith}
use Rattle.std.proofs.lemmas.List.{take-append-drop, take_more}
use Rattle.std.specs.List.{last_or, AllByRecursion}
use Rattle.std.specs.Bool.{then_some}
use Rattle.std.specs.Option.{MatchOption, IsSomeAnd}
use Rattle.std.specs.Ordering.{is_le, is_eq}
use Rattle.store.specs.Meaning.{Meaning}
use Rattle.keys.specs.Orders.{Orderly}
use Rattle.keys.specs.Sorted.{Ascending}
use Rattle.nodes.specs.declared.node.Node.{Node}
use Rattle.nodes.specs.Nodes.{Entry, Node as IsNode, Keyed, Leads, entry_at, entries}
use Rattle.nodes.specs.Finds.{Found, keys_in}
use Rattle.plain.specs.Plain.{Sorted, find, floor}
use Rattle.plain.specs.declared.pair.Pair.{Pair}
use Rattle.plain.proofs.Alls.{all_map, kept_append, kept_all, kept_none, last_some, last_append}
use Rattle.tree.specs.Tree.{index_unit}
use Rattle.tree.specs.Queries.{floor_down}
use Rattle.tree.proofs.Flat.{flat_leaf}
use Rattle.tree.proofs.Queries.{flat_floor}
use Rattle.balance.specs.declared.way.Way.{Way}
use Rattle.balance.specs.Ways.{Led, Peopled}
use Rattle.balance.proofs.Levels.{index_units}
use Rattle.held.specs.Held.{Kind, Lawful, item, node, Sits}
use Rattle.held.specs.Roots.{pairs_in, pairs_below, Rooted}
use Rattle.held.proofs.Child.{child, peopled, node_of, item_at, node_length, not_greater}
use Rattle.ask.specs.Leaf.{LeafOf}

-- the handle in a floor, if its key is k
abbrev pub handle_at : {K : Type 0} → (K → K → Ordering) → K → Option (Pair K) → Option ℕ
handle_at order k None = None
handle_at order k (Some p) = cond (is_eq (order p.key k)) (Some p.handle) None

module _ {K : Type 0} {order : K → K → Ordering} (o : Orderly order) where
  -- a key is found where its floor has it
  pub find_by_floor : (k : K) (ps : List (Pair K)) → Sorted order ps → find order k ps ≡ handle_at order k (floor order k ps)
  find_by_floor k [] a = refl
  find_by_floor k (p ∷ ps) a = go (order p.key k) refl (find_by_floor k ps a.1)
    where
      later : order p.key k ≡ Less → (f : Option (Pair K)) → find order k ps ≡ handle_at order k f → find order k ps ≡ handle_at order k (Some (unwrap_or f p))
      later e None h = h ∙ sym (ap (λ r. cond (is_eq r) (Some p.handle) None) e)
      later e (Some q) h = h

      none : order p.key k ≡ Equal → AllByRecursion (λ (q : Pair K). is_le (order q.key k) ≡ false) ps
      none e = all_map (λ (q : Pair K). order p.key q.key ≡ Less) (λ (q : Pair K). is_le (order q.key k) ≡ false) ps (λ q z. ap is_le (o.flips k q.key (ap (λ x. order x q.key) (sym (o.apart p.key k e)) ∙ z))) a.0

      go : (r : Ordering) → order p.key k ≡ r → find order k ps ≡ handle_at order k (floor order k ps) →
          cond (is_eq r) (Some p.handle) (find order k ps) ≡ handle_at order k (last_or None (cond (is_le r) (p ∷ filter (λ q. is_le (order q.key k)) ps) (filter (λ q. is_le (order q.key k)) ps)))
      go Less e ih = later e (floor order k ps) ih ∙ sym (ap (handle_at order k) (last_some p (filter (λ q. is_le (order q.key k)) ps)))
      go Equal e ih = sym (ap (λ z. handle_at order k (last_or (Some p) z)) (kept_none (λ (q : Pair K). is_le (order q.key k)) ps (none e)) ∙ ap (λ r. cond (is_eq r) (Some p.handle) None) e)
      go Greater e ih = ih

module _ {K : Type 0} (κ : Kind K) where
  -- the pairs of a leaf are its items
  pub leaf_pairs : (ω : ℕ → ℕ → ℕ) (b : ℕ) → pairs_in κ ω 0 b ≡ node κ ω 0 b
  leaf_pairs ω b = flat_leaf K (node κ ω 0 b)

  all_under : (P : K → Type 0) (ω : ℕ → ℕ → ℕ) (es : List Entry) → AllByRecursion (λ (p : Pair K). P p.key) (map (item κ ω 0) es) → AllByRecursion P (keys_in κ.unpacked es)
  all_under P ω [] a = tt
  all_under P ω (e ∷ es) a = (a.0, all_under P ω es a.1)

  keys_up : (ω : ℕ → ℕ → ℕ) (es : List Entry) → Sorted κ.order (map (item κ ω 0) es) → Ascending κ.order (keys_in κ.unpacked es)
  keys_up ω [] a = tt
  keys_up ω (e ∷ es) a = (all_under (λ y. κ.order (κ.unpacked e.key) y ≡ Less) ω es a.0, keys_up ω es a.1)

  -- the keys of a leaf ascend
  pub leaf_ascends : (m : Meaning) (b : ℕ) → Sits κ index_unit m 0 b → Ascending κ.order (keys_in κ.unpacked (entries κ.form (m.words b)))
  leaf_ascends m b s = keys_up m.words (entries κ.form (m.words b)) (subst (Sorted κ.order) (leaf_pairs m.words b) s.ascending)

  first_pass : (ω : ℕ → ℕ → ℕ) (k : K) (es : List Entry) (r : ℕ) → AllByRecursion (λ x. κ.order x k ≡ Greater → ⊥) (take r (keys_in κ.unpacked es)) → AllByRecursion (λ (p : Pair K). is_le (κ.order p.key k) ≡ true) (take r (map (item κ ω 0) es))
  first_pass ω k es zero a = tt
  first_pass ω k [] (suc r) a = tt
  first_pass ω k (e ∷ es) (suc r) a = (not_greater _ a.0, first_pass ω k es r a.1)

  others_fail : (ω : ℕ → ℕ → ℕ) (k : K) (es : List Entry) → AllByRecursion (λ x. κ.order x k ≡ Greater) (keys_in κ.unpacked es) → AllByRecursion (λ (p : Pair K). κ.order p.key k ≡ Greater) (map (item κ ω 0) es)
  others_fail ω k [] a = tt
  others_fail ω k (e ∷ es) a = (a.0, others_fail ω k es a.1)

  rest_above : (ω : ℕ → ℕ → ℕ) (k : K) (es : List Entry) (r : ℕ) → AllByRecursion (λ x. κ.order x k ≡ Greater) (drop r (keys_in κ.unpacked es)) → AllByRecursion (λ (p : Pair K). κ.order p.key k ≡ Greater) (drop r (map (item κ ω 0) es))
  rest_above ω k es zero a = others_fail ω k es a
  rest_above ω k [] (suc r) a = tt
  rest_above ω k (e ∷ es) (suc r) a = rest_above ω k es r a

  -- r pairs of a leaf have keys at most k, and they are the first
  pub record Parted (m : Meaning) (b : ℕ) (k : K) (r : ℕ) : Type 0 where
    pub within : r ≤ m.words b 1
    pub low : AllByRecursion (λ (p : Pair K). is_le (κ.order p.key k) ≡ true) (take r (node κ m.words 0 b))
    pub high : AllByRecursion (λ (p : Pair K). κ.order p.key k ≡ Greater) (drop r (node κ m.words 0 b))

  pub parted : (m n : Meaning) (b : ℕ) (k : K) (r : ℕ) → Sits κ index_unit m 0 b → Found κ.form κ.order κ.unpacked b k m r n → Parted m b k r
  parted m n b k r s f =
      let es = entries κ.form (m.words b) in
      let sp = f.split (leaf_ascends m b s) in
      record {
        within = omega (arith, f.sought.within);
        low = first_pass m.words k es r sp.first;
        high = rest_above m.words k es r sp.rest;
      }

  -- those at most k
  pub kept_first : (m : Meaning) (b : ℕ) (k : K) (r : ℕ) → Parted m b k r → filter (λ p. is_le (κ.order p.key k)) (pairs_in κ m.words 0 b) ≡ take r (node κ m.words 0 b)
  kept_first m b k r p =
      let x = node κ m.words 0 b in
      let t : Pair K → Bool = λ q. is_le (κ.order q.key k) in
      ap (filter t) (leaf_pairs m.words b ∙ sym (take-append-drop r x))
      ∙ kept_append t (take r x) (drop r x)
      ∙ ap (λ z. z ++ filter t (drop r x)) (kept_all t (take r x) p.low)
      ∙ ap (λ z. take r x ++ z) (kept_none t (drop r x) (all_map _ _ (drop r x) (λ q e. ap is_le e) p.high))
      ∙ append-nil (take r x)

  pub floor_none : (m : Meaning) (b : ℕ) (k : K) (r : ℕ) → r ≡ 0 → Parted m b k r → None ≡ floor κ.order k (pairs_in κ m.words 0 b)
  floor_none m b k r e p = sym (ap (last_or None) (kept_first m b k r p ∙ ap (λ z. take z (node κ m.words 0 b)) e))

  pub floor_some : (m : Meaning) (b : ℕ) (k : K) (r i : ℕ) → r ≡ i + 1 → Parted m b k r → Some (item κ m.words 0 (entry_at κ.form (m.words b) i)) ≡ floor κ.order k (pairs_in κ m.words 0 b)
  floor_some m b k r i e p =
      let x = node κ m.words 0 b in
      let q = item κ m.words 0 (entry_at κ.form (m.words b) i) in
      let first : take r x ≡ take i x ++ (get_or x i q ∷ []) = ap (λ z. take z x) e ∙ take_more x i q (omega (arith, p.within, node_length κ m.words 0 b)) in
      sym (ap (last_or None) (kept_first m b k r p ∙ first) ∙ last_append None (take i x) (get_or x i q ∷ []) ∙ ap Some (item_at κ m.words 0 b i q (omega (arith, p.within))))

  -- a node below the root, with the floor of k in it
  pub record Below (m : Meaning) (root : Node) (k : K) (node : Node) : Type 0 where
    pub sits : Rooted κ node m
    pub floors : floor κ.order k (pairs_below κ node m) ≡ floor κ.order k (pairs_below κ root m)

module _ {K : Type 0} (κ : Kind K) (law : Lawful κ) where
  pub floor_whole : (m : Meaning) (l b : ℕ) (k : K) → Sits κ index_unit m l b → floor_down κ.order l k (node κ m.words l b) ≡ floor κ.order k (pairs_in κ m.words l b)
  floor_whole m l b k s = flat_floor law.ordered index_unit index_units l k (node κ m.words l b) s.kids s.fits s.ascending

  -- the child at l of a node one level higher
  below_child : (m n : Meaning) (root : Node) (l c : ℕ) (k : K) (w : Way) → Below κ m root k (record { block = c; level = suc l }) → Led κ.form κ.order κ.unpacked c k m w n → Below κ m root k (record { block = w.child.block; level = l })
  below_child m n root l c k w d led =
      let h = child κ law index_unit index_units m n l c k w d.sits led in
      record {
        sits = h.sits;
        floors = sym (floor_whole m l w.child.block k h.sits) ∙ sym (h.routed.floor_is ∙ ap (floor_down κ.order l k) h.is) ∙ floor_whole m (suc l) c k d.sits ∙ d.floors;
      }

  -- in the loop down from the root, after reads that changed nothing
  above_leaf : (m : Meaning) (root : Node) (k : K) (node : Node) → 0 < node.level → Below κ m root k node → Below κ m root k (record { block = node.block; level = suc (node.level - 1) })
  above_leaf m root k node h d = let more : node.level ≡ suc (node.level - 1) = omega arith in subst (λ j. Below κ m root k (record { block = node.block; level = j })) more d

  pub below_peopled : (m u : Meaning) (root : Node) (k : K) (node : Node) → u ≡ m → 0 < node.level → Below κ m root k node → Peopled κ.form node.block u
  below_peopled m u root k node e h d = subst (Peopled κ.form node.block) (sym e) (peopled κ index_unit m (node.level - 1) node.block (above_leaf m root k node h d).sits)

  pub below_turn : (m u n : Meaning) (root : Node) (k : K) (node : Node) (w : Way) → u ≡ m → 0 < node.level → w.child.level ≡ node.level - 1 → Below κ m root k node → Led κ.form κ.order κ.unpacked node.block k u w n → (n ≡ m) × Below κ m root k w.child
  below_turn m u n root k node w e h one d led =
      let led' : Led κ.form κ.order κ.unpacked node.block k m w n = subst (λ z. Led κ.form κ.order κ.unpacked node.block k z w n) e led in (
        led'.found.same,
        subst (λ j. Below κ m root k (record { block = w.child.block; level = j })) (sym one) (below_child m n root (node.level - 1) node.block k w (above_leaf m root k node h d) led'),
      )

  pub leaf_reached : (m n : Meaning) (root : Node) (k : K) (node : Node) → node.level ≤ 0 → n ≡ m → Below κ m root k node → LeafOf κ root k m node.block n
  leaf_reached m n root k node h e d =
      let none : node.level ≡ 0 = omega arith in
      let d' : Below κ m root k (record { block = node.block; level = 0 }) = subst (λ j. Below κ m root k (record { block = node.block; level = j })) none d in
      record { sits = d'.sits; floors = d'.floors; same = e }

-- the pair of an entry that was read
pub read_pair : {K : Type 0} (κ : Kind K) (m u v n : Meaning) (b i : ℕ) (key : K) (h : ℕ) → u ≡ m → Keyed κ.form κ.unpacked b i u key v → Leads κ.form b i v h n → (n ≡ m) × (record { key = key; handle = h } ≡ item κ m.words 0 (entry_at κ.form (m.words b) i))
read_pair κ m u v n b i key h e x y =
    let back : v ≡ m = x.same ∙ e in (
      y.same ∙ back,
      λ j. record {
        key = (x.value ∙ ap (λ z. κ.unpacked (entry_at κ.form (z.words b) i).key) e) j;
        handle = (y.value ∙ ap (λ z. (entry_at κ.form (z.words b) i).child) back) j;
      },
    )

-- the search in a leaf that was reached
pub searched : {K : Type 0} (κ : Kind K) (m u n : Meaning) (root : Node) (leaf : ℕ) (k : K) (r : ℕ) → LeafOf κ root k m leaf u → Found κ.form κ.order κ.unpacked leaf k u r n → (n ≡ m) × Parted κ m leaf k r
searched κ m u n root leaf k r a f =
    let f' : Found κ.form κ.order κ.unpacked leaf k m r n = subst (λ z. Found κ.form κ.order κ.unpacked leaf k z r n) a.same f in
    (f'.same, parted κ m n leaf k r a.sits f')

pub leaf_node : {K : Type 0} (κ : Kind K) (m u : Meaning) (root : Node) (leaf : ℕ) (k : K) → LeafOf κ root k m leaf u → IsNode κ.form leaf u
leaf_node κ m u root leaf k a = subst (λ z. IsNode κ.form leaf z) (sym a.same) (node_of κ index_unit m 0 leaf a.sits)

-- what a floor that was told tells of the key itself
pub told_find : {K : Type 0} {order : K → K → Ordering} (o : Orderly order) (k : K) (ps : List (Pair K)) (f : Option (Pair K)) (r : Option ℕ) → Sorted order ps → f ≡ floor order k ps → r ≡ handle_at order k f → r ≡ find order k ps
told_find {order = order} o k ps f r a e h = h ∙ ap (handle_at order k) e ∙ sym (find_by_floor o k ps a)

-- the handle of a pair that was kept if its key is k
pub kept_handle : {K : Type 0} (order : K → K → Ordering) (k : K) (Gives : Pair K → Bool → Type 0) (Tells : Pair K → ℕ → Type 0) → ((p : Pair K) (b : Bool) → Gives p b → b ≡ is_eq (order p.key k)) → ((p : Pair K) (h : ℕ) → Tells p h → h ≡ p.handle)
    → (f kept : Option (Pair K)) (r : Option ℕ) → MatchOption f (kept ≡ None) (λ p. (b : Bool) × Gives p b × (kept ≡ then_some b p)) → MatchOption kept (r ≡ None) (λ p. IsSomeAnd r (Tells p)) → r ≡ handle_at order k f
kept_handle order k Gives Tells gives tells None kept r is told = subst (λ z. MatchOption z (r ≡ None) (λ p. IsSomeAnd r (Tells p))) is told
kept_handle {K} order k Gives Tells gives tells (Some p) kept r (b, given, is) told = go b (gives p b given) r (subst (λ z. MatchOption z (r ≡ None) (λ q. IsSomeAnd r (Tells q))) is told)
  where
    go : (b : Bool) → b ≡ is_eq (order p.key k) → (r : Option ℕ) → MatchOption (then_some b p) (r ≡ None) (λ q. IsSomeAnd r (Tells q)) → r ≡ cond (is_eq (order p.key k)) (Some p.handle) None
    go true e None t = elim t [ ]
    go true e (Some h) t = ap Some (tells p h t) ∙ ap (λ z. cond z (Some p.handle) None) e
    go false e r t = t ∙ ap (λ z. cond z (Some p.handle) None) e
