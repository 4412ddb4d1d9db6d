-- The pairs of a node, written one entry after the other.
use Rattle.std.proofs.Common.{◌≡◌, true, false, eq-eqb, min, ℕ, zero, suc, ◌+◌, ◌-◌, ◌<◌, ◌≤◌, List, [], ◌∷◌, ◌++◌, length, slice_set, take, drop, cond, eqb, Ok, Err, Result, inl, sym, refl, ap, ◌∙◌, subst, append-nil, arith}
use Rattle.std.proofs.lemmas.List.{drop_more, drop_all, take-append-drop, drop-append-le, length-take-le}
use Rattle.std.specs.Ordering.{is_lt}
use Rattle.store.specs.Meaning.{Meaning}
use Rattle.store.specs.Calls.{Lost}
use Rattle.store.specs.declared.fault.Fault.{Fault}
use Rattle.copies.proofs.Exits.{lost_later, kin_same}
use Rattle.nodes.specs.Places.{block_number}
use Rattle.nodes.specs.Nodes.{Room, Keyed, Leads, LeadsTo, entry_at, entries}
use Rattle.nodes.specs.declared.node.Node.{Node}
use Rattle.plain.specs.Plain.{rank, within, over}
use Rattle.plain.specs.declared.pair.Pair.{Pair}
use Rattle.tree.specs.Lists.{joined}
use Rattle.tree.specs.Tree.{pairs, index_unit}
use Rattle.tree.proofs.Lists.{joined_append}
use Rattle.tree.proofs.Flat.{flat_leaf, count_pairs}
use Rattle.balance.specs.declared.way.Way.{Way}
use Rattle.balance.specs.Ways.{Led}
use Rattle.held.specs.Held.{Kind, Lawful, item, node, foot, feet, Right, Whole, times, Sits}
use Rattle.held.specs.Roots.{Rooted, Tells, pairs_in, pairs_below}
use Rattle.held.proofs.Feet.{times_three, times_head}
use Rattle.held.proofs.Steps.{bit_true}
use Rattle.held.proofs.Child.{Child, entries_split, times_one, block_number_is, all_at, node_length, item_at}
use Rattle.ask.specs.Ranks.{passing}
use Rattle.ask.specs.Reports.{Reported, Halted}
use Rattle.ask.specs.Writes.{Lent, lent, Wrote, Part, Fills, Writes, Stored, StoredAt, pairs_after, pairs_at, pairs_from}
use Rattle.ask.proofs.Intervals.{within_run, keys_all, handles_all, keys_over, handles_over}
use Rattle.ask.proofs.Leaves.{read_pair, leaf_pairs}
use Rattle.ask.proofs.Ranks.{how_many_most, passing_step, above_leaf, rooted_leaf, way_child, child_rooted}
use Rattle.ask.proofs.Writing.{laid_one, drop_split, drop_next, drop_taken, fills_none, part_more, fills_more, part_then, fills_then}

module _ {K : Type 0} where
  -- what was written for a part of the work is written for the whole, where both ask for the same pairs
  pub writes_on : (P Q : Meaning → Type 0) (ps qs : Meaning → List (Pair K)) (s t : Lent K) (l m n : Meaning) (r : Result (Unit {0}) Fault) → (P l → Q m) → (P l → m ≡ l) → (P l → qs m ≡ ps l) → Writes Q qs s t m r n → Writes P ps s t l r n
  writes_on P Q ps qs s t l m n (Ok x) q k e w = λ p. let d = w (q p) in (subst (λ z. Fills z s t) (e p) d.0, d.1 ∙ k p)
  writes_on P Q ps qs s t l m n (Err f) q k e w = λ p. let d = w (q p) in (subst (λ z. Part z s t) (e p) d.0, lost_later (kin_same (k p)) d.1)

  -- two parts of the work, of which the first was done
  pub writes_then : (P Q : Meaning → Type 0) (front : List (Pair K)) (ps qs : Meaning → List (Pair K)) (s t u : Lent K) (l m n : Meaning) (r : Result (Unit {0}) Fault) → u.written ≤ length u.keys →
      (P l → Fills front s t × (m ≡ l)) → (P l → Q m) → (P l → front ++ qs m ≡ ps l) → Writes Q qs t u m r n → Writes P ps s u l r n
  writes_then P Q front ps qs s t u l m n (Ok x) within d q e w = λ p. let b = w (q p) in (subst (λ z. Fills z s u) (e p) (fills_then front (qs m) s t u (d p).0 b.0 within), b.1 ∙ (d p).1)
  writes_then P Q front ps qs s t u l m n (Err f) within d q e w = λ p. let b = w (q p) in (subst (λ z. Part z s u) (e p) (part_then front (qs m) s t u (d p).0 b.0 within), lost_later (kin_same (d p).1) b.1)

module _ {K : Type 0} (κ : Kind K) where
  -- a node that stands in a block can be read
  pub stored_room : (m : Meaning) (l b : ℕ) → Stored κ l b m → Room κ.form b m
  stored_room m l b s = record { granted = bit_true (m.granted b) (omega (arith, times_head b (joined (foot κ m.words l) (entries κ.form (m.words b))), s.owned b)); wide = s.wide }

  item_alone : (ω : ℕ → ℕ → ℕ) (l b i : ℕ) → i < ω b 1 → take 1 (drop i (node κ ω l b)) ≡ item κ ω l (entry_at κ.form (ω b) i) ∷ []
  item_alone ω l b i h =
      let x = node κ ω l b in
      let y = item κ ω l (entry_at κ.form (ω b) i) in
      ap (take 1) (drop_more x i y (omega (arith, node_length κ ω l b))) ∙ ap (λ z. z ∷ []) (item_at κ ω l b i y h)

  -- the pair of an entry that was read, written in the next place
  pub wrote_pair : (m v n : Meaning) (b i : ℕ) (key : K) (h at h' to : ℕ) (s : Lent K) → at ≡ s.written → h' ≡ h → to ≡ s.written + 1 → StoredAt κ 0 b i m → Keyed κ.form κ.unpacked b i m key v → Leads κ.form b i v h n →
      Fills (pairs_at κ 0 b i m) s (lent (slice_set s.keys s.written key) (slice_set s.handles at h') to) × (n ≡ m)
  wrote_pair m v n b i key h at h' to s e d f p x y =
      let r = read_pair κ m m v n b i key h refl x y in
      let t = lent (slice_set s.keys s.written key) (slice_set s.handles at h') to in
      let q : Pair K = record { key = key; handle = h } in
      let alone : q ∷ [] ≡ pairs_at κ 0 b i m = ap (λ z. z ∷ []) r.1 ∙ ap (joined (pairs K 0)) (sym (item_alone m.words 0 b i p.has)) in
      let w : Wrote (q ∷ []) s t = record { keys = laid_one s.written key s.keys; handles = (λ j. slice_set s.handles (e j) (d j)) ∙ laid_one s.written h s.handles; written = f } in
      (subst (λ z. Fills z s t) alone (record { part = record { first = q ∷ []; rest = []; is = refl; wrote = w }; all = inl refl }), r.0)

  -- the node that an entry names
  pub kid : (m : Meaning) (l b i c : ℕ) → StoredAt κ (suc l) b i m → c ≡ block_number (entry_at κ.form (m.words b) i).child → Stored κ l c m × (pairs_after κ l c 0 m ≡ pairs_at κ (suc l) b i m)
  kid m l b i c p e =
      let ω = m.words in
      let es = entries κ.form (ω b) in
      let d = entry_at κ.form (ω b) i in
      let f = foot κ ω (suc l) in
      let right : Right κ ω (suc l) d = all_at (Right κ ω (suc l)) κ.form (ω b) i p.has p.stored.whole.2 in
      let names : c ≡ d.child = e ∙ block_number_is d.child right.2 in
      let parts : (x : ℕ) → times x (feet κ ω (suc l) b) ≡ cond (eqb x b) 1 0 + (times x (joined f (take i es)) + (times x (feet κ ω l c) + times x (joined f (drop (i + 1) es)))) = λ x.
      omega (arith, ap (λ z. times x (joined f z)) (entries_split κ.form (ω b) i p.has), times_three f x (take i es) (d ∷ []) (drop (i + 1) es), times_one f x d, ap (λ z. times x (feet κ ω l z)) names) in (
        record { wide = p.stored.wide; whole = subst (Whole κ ω l) (sym names) (right.3, right.4, right.5); owned = λ x. omega (arith, parts x, p.stored.owned x) },
        sym (ap (joined (pairs K (suc l))) (item_alone ω (suc l) b i p.has) ∙ append-nil (pairs K (suc l) (node κ ω l d.child)) ∙ ap (λ z. pairs K (suc l) (node κ ω l z)) (sym names)),
      )

  -- one level lower: the entry's pairs are those of its node
  above : (m : Meaning) (j b i : ℕ) → (j ≡ 0 → ⊥) → StoredAt κ j b i m → StoredAt κ (suc (j - 1)) b i m
  above m j b i h p = let more : j ≡ suc (j - 1) = omega arith in subst (λ z. StoredAt κ z b i m) more p

  pub kid_below : (m u : Meaning) (j b i c : ℕ) → (j ≡ 0 → ⊥) → StoredAt κ j b i m → LeadsTo κ.form b i m c u → Stored κ (j - 1) c u × (pairs_after κ (j - 1) c 0 u ≡ pairs_at κ j b i m)
  kid_below m u j b i c h p x =
      let more : suc (j - 1) ≡ j = omega arith in
      let d = kid m (j - 1) b i c (above m j b i h p) x.value in
      (subst (Stored κ (j - 1) c) (sym x.same) d.0, ap (pairs_after κ (j - 1) c 0) x.same ∙ d.1 ∙ ap (λ z. pairs_at κ z b i m) more)

  -- the entry of a node above the leaves
  pub writes_kid : (m u n : Meaning) (j b i c : ℕ) (s t : Lent K) (r : Result (Unit {0}) Fault) → (j ≡ 0 → ⊥) → (StoredAt κ j b i m → LeadsTo κ.form b i m c u) → Writes (Stored κ (j - 1) c) (pairs_after κ (j - 1) c 0) s t u r n → Writes (StoredAt κ j b i) (pairs_at κ j b i) s t m r n
  writes_kid m u n j b i c s t r h x w =
      writes_on (StoredAt κ j b i) (Stored κ (j - 1) c) (pairs_at κ j b i) (pairs_after κ (j - 1) c 0) s t m u n r (λ p. (kid_below m u j b i c h p (x p)).0) (λ p. (x p).same) (λ p. (kid_below m u j b i c h p (x p)).1) w

  -- the pairs of a node's entries from one place up to another
  abbrev pub pairs_between : ℕ → ℕ → ℕ → ℕ → Meaning → List (Pair K)
  pairs_between l b from i m = joined (pairs K l) (drop from (take i (node κ m.words l b)))

  between_next : (m : Meaning) (l b from i : ℕ) → from ≤ i → pairs_between l b from (i + 1) m ≡ pairs_between l b from i m ++ pairs_at κ l b i m
  between_next m l b from i h =
      let x = node κ m.words l b in
      ap (joined (pairs K l)) (drop_next from i x h) ∙ joined_append (pairs K l) (drop from (take i x)) (take 1 (drop i x))

  between_rest : (m : Meaning) (l b from i : ℕ) → from ≤ i → pairs_after κ l b from m ≡ pairs_between l b from i m ++ pairs_after κ l b i m
  between_rest m l b from i h =
      let x = node κ m.words l b in
      ap (joined (pairs K l)) (drop_split from i x h) ∙ joined_append (pairs K l) (drop from (take i x)) (drop i x)

  -- in the loop over the entries, after those before place i
  pub record Going (l b from i n : ℕ) (s t : Lent K) (m u : Meaning) : Type 0 where
    pub same : u ≡ m
    pub count : n ≡ m.words b 1
    pub fills : Fills (pairs_between l b from i m) s t

  pub going_first : (l b from n : ℕ) (s : Lent K) (m u : Meaning) → u ≡ m → n ≡ m.words b 1 → Going l b from from n s s m u
  going_first l b from n s m u e k = record { same = e; count = k; fills = subst (λ z. Fills z s s) (sym (ap (joined (pairs K l)) (drop_taken from (node κ m.words l b)))) (fills_none s) }

  module _ (l b from i n : ℕ) (s t : Lent K) (m u : Meaning) (up : from ≤ i) (g : Going l b from i n s t m u) where
    pub going_at : i < n → Stored κ l b m → StoredAt κ l b i u
    going_at h p = subst (StoredAt κ l b i) (sym g.same) (record { stored = p; has = omega (arith, g.count) })

    at_is : pairs_at κ l b i u ≡ pairs_at κ l b i m
    at_is = ap (pairs_at κ l b i) g.same

    pub going_next : (t' : Lent K) (v : Meaning) → Fills (pairs_at κ l b i u) t t' × (v ≡ u) → t'.written ≤ length t'.keys → Going l b from (i + 1) n s t' m v
    going_next t' v d within = record {
      same = d.1 ∙ g.same;
      count = g.count;
      fills = subst (λ z. Fills z s t') (sym (between_next m l b from i up)) (fills_then (pairs_between l b from i m) (pairs_at κ l b i m) s t t' g.fills (subst (λ z. Fills z t t') at_is d.0) within);
    }

    -- stopped at an entry
    pub going_lost : (t' : Lent K) → Part (pairs_at κ l b i u) t t' → t'.written ≤ length t'.keys → Part (pairs_after κ l b from m) s t'
    going_lost t' d within =
        let some = part_then (pairs_between l b from i m) (pairs_at κ l b i m) s t t' g.fills (subst (λ z. Part z t t') at_is d) within in
        subst (λ z. Part z s t') (sym (between_rest m l b from (i + 1) (omega (arith, up)))) (part_more (pairs_between l b from (i + 1) m) (pairs_after κ l b (i + 1) m) s t' (subst (λ z. Part z s t') (sym (between_next m l b from i up)) some))

    -- no room is left
    pub going_full : t.written ≡ length t.keys → Fills (pairs_after κ l b from m) s t × (u ≡ m)
    going_full e = (subst (λ z. Fills z s t) (sym (between_rest m l b from i up)) (fills_more (pairs_between l b from i m) (pairs_after κ l b i m) s t g.fills e), g.same)

    -- no entry is left
    pub going_done : n ≤ i → Fills (pairs_after κ l b from m) s t × (u ≡ m)
    going_done h =
        let x = node κ m.words l b in
        let none : pairs_after κ l b i m ≡ [] = ap (joined (pairs K l)) (drop_all i x (omega (arith, node_length κ m.words l b, g.count))) in
        (subst (λ z. Fills z s t) (sym (between_rest m l b from i up ∙ ap (λ z. pairs_between l b from i m ++ z) none ∙ append-nil (pairs_between l b from i m))) g.fills, g.same)

  -- a tree that keeps the rules stands in its blocks
  pub rooted_stored : (m : Meaning) (b : Node) → Rooted κ b m → Stored κ b.level b.block m
  rooted_stored m b s = record { wide = s.wide; whole = s.whole; owned = s.owned }

drop_past : {X : Type 0} (n r : ℕ) (xs ys : List X) → n ≡ length xs + r → drop n (xs ++ ys) ≡ drop r ys
drop_past n r [] ys h = let same : n ≡ r = omega (arith, h) in ap (λ z. drop z ys) same
drop_past zero r (x ∷ xs) ys h = absurd (omega (arith, h))
drop_past (suc n) r (x ∷ xs) ys h = drop_past n r xs ys (omega (arith, h))

module _ {K : Type 0} (κ : Kind K) (law : Lawful κ) where
  -- the pairs of a leaf from low on
  leaf_from : (m : Meaning) (b : Node) (low : K) (from : ℕ) → b.level ≡ 0 → from ≡ passing κ.order false low (pairs_in κ m.words 0 b.block) → pairs_after κ b.level b.block from m ≡ pairs_from κ b low m
  leaf_from m b low from h e =
      let x = node κ m.words 0 b.block in
      ap (λ j. pairs_after κ j b.block from m) h
      ∙ flat_leaf K (drop from x)
      ∙ ap (λ z. drop z x) e
      ∙ ap (drop (passing κ.order false low (pairs_in κ m.words 0 b.block))) (sym (leaf_pairs κ m.words b.block))
      ∙ ap (λ j. drop (rank κ.order low (pairs_in κ m.words j b.block)) (pairs_in κ m.words j b.block)) (sym h)

  pub writes_from_leaf : (m u n : Meaning) (b : Node) (low : K) (from : ℕ) (s t : Lent K) (r : Result (Unit {0}) Fault) → b.level ≡ 0 →
      (Sits κ index_unit m 0 b.block → Tells (λ z. passing κ.order false low (pairs_in κ z.words 0 b.block)) m from u) → Writes (Stored κ b.level b.block) (pairs_after κ b.level b.block from) s t u r n → Writes (Rooted κ b) (pairs_from κ b low) s t m r n
  writes_from_leaf m u n b low from s t r h told w =
      let at : Rooted κ b m → Tells (λ z. passing κ.order false low (pairs_in κ z.words 0 b.block)) m from u = λ p. told (rooted_leaf κ law m b h p) in
      writes_on (Rooted κ b) (Stored κ b.level b.block) (pairs_from κ b low) (pairs_after κ b.level b.block from) s t m u n r
      (λ p. subst (Stored κ b.level b.block) (sym (at p).same) (rooted_stored κ m b p))
      (λ p. (at p).same)
      (λ p. ap (pairs_after κ b.level b.block from) (at p).same ∙ leaf_from m b low from h (at p).value_is)
      w

  -- the pairs of a node from low on: those of the child that low leads to, and all of the later ones
  step_from : (m : Meaning) (l b : ℕ) (low : K) (w : Way) → Sits κ index_unit m (suc l) b → Child κ index_unit m l b low w →
      pairs_from κ (record { block = w.child.block; level = l }) low m ++ pairs_after κ (suc l) b (w.place + 1) m ≡ pairs_from κ (record { block = b; level = suc l }) low m
  step_from m l b low w s c =
      let x = node κ m.words (suc l) b in
      let y = node κ m.words l w.child.block in
      let i = w.place in
      let P = pairs K (suc l) in
      let front = joined P (take i x) in
      let later = joined P (drop (i + 1) x) in
      let n = rank κ.order low (pairs_in κ m.words (suc l) b) in
      let r = rank κ.order low (P y) in
      let cut : drop i x ≡ y ∷ drop (i + 1) x = drop_more x i [] (omega (arith, c.within, node_length κ m.words (suc l) b)) ∙ ap (λ z. z ∷ drop (i + 1) x) c.is in
      let whole : P y ++ later ≡ joined P (drop i x) = ap (joined P) (sym cut) in
      let all : front ++ (P y ++ later) ≡ joined P x = ap (λ z. front ++ z) whole ∙ sym (joined_append P (take i x) (drop i x)) ∙ ap (joined P) (take-append-drop i x) in
      let most : r ≤ length (P y) = how_many_most (λ (q : Pair K). is_lt (κ.order q.key low)) (P y) in
      let sum : n ≡ length front + r = omega (arith, passing_step κ law m l b low w false s c, count_pairs K (suc (suc l)) (take i x)) in
      sym (drop-append-le r (P y) later most) ∙ sym (drop_past n r front (P y ++ later) sum) ∙ ap (drop n) all

  module _ (m u : Meaning) (b : Node) (low : K) (w : Way) (h : b.level ≡ 0 → ⊥) (one : w.child.level ≡ b.level - 1) (p : Rooted κ b m) (led : Led κ.form κ.order κ.unpacked b.block low m w u) where
    pub from_step : pairs_from κ w.child low m ++ pairs_after κ b.level b.block (w.place + 1) m ≡ pairs_from κ b low m
    from_step =
        let more : suc (b.level - 1) ≡ b.level = omega arith in
        ap (λ j. pairs_from κ (record { block = w.child.block; level = j }) low m ++ pairs_after κ b.level b.block (w.place + 1) m) one
        ∙ ap (λ j. pairs_from κ (record { block = w.child.block; level = b.level - 1 }) low m ++ pairs_after κ j b.block (w.place + 1) m) (sym more)
        ∙ step_from m (b.level - 1) b.block low w (above_leaf κ law m b h p) (way_child κ law m u b low w h p led)
        ∙ ap (λ j. pairs_from κ (record { block = b.block; level = j }) low m) more

    -- stopped in that child
    pub lost_way : (s t : Lent K) (f : Fault) (n : Meaning) → (Rooted κ w.child u → Part (pairs_from κ w.child low u) s t × Lost u f n) → Part (pairs_from κ b low m) s t × Lost m f n
    lost_way s t f n x =
        let same = led.found.same in
        let d = x (subst (Rooted κ w.child) (sym same) (child_rooted κ law m u b low w h p led one)) in
        let some = part_more (pairs_from κ w.child low m) (pairs_after κ b.level b.block (w.place + 1) m) s t (subst (λ z. Part (pairs_from κ w.child low z) s t) same d.0) in
        (subst (λ z. Part z s t) from_step some, lost_later (kin_same same) d.1)

  -- that child was written, and the later ones follow
  pub writes_way : (m u v n : Meaning) (b : Node) (low : K) (w : Way) (next : ℕ) (s t x : Lent K) (r : Result (Unit {0}) Fault) → (b.level ≡ 0 → ⊥) → w.child.level ≡ b.level - 1 → next ≡ w.place + 1 → x.written ≤ length x.keys →
      (Rooted κ b m → Led κ.form κ.order κ.unpacked b.block low m w u) → (Rooted κ w.child u → Fills (pairs_from κ w.child low u) s t × (v ≡ u)) → Writes (Stored κ b.level b.block) (pairs_after κ b.level b.block next) t x v r n →
      Writes (Rooted κ b) (pairs_from κ b low) s x m r n
  writes_way m u v n b low w next s t x r h one later within leads first last =
      let same : Rooted κ b m → u ≡ m = λ p. (leads p).found.same in
      let done : Rooted κ b m → Fills (pairs_from κ w.child low m) s t × (v ≡ m) = λ p.
      let d = first (subst (Rooted κ w.child) (sym (same p)) (child_rooted κ law m u b low w h p (leads p) one)) in
      (subst (λ z. Fills (pairs_from κ w.child low z) s t) (same p) d.0, d.1 ∙ same p) in
      writes_then (Rooted κ b) (Stored κ b.level b.block) (pairs_from κ w.child low m) (pairs_from κ b low) (pairs_after κ b.level b.block next) s t x m v n r within done
      (λ p. subst (Stored κ b.level b.block) (sym (done p).1) (rooted_stored κ m b p))
      (λ p. (λ j. pairs_from κ w.child low m ++ pairs_after κ b.level b.block (later j) ((done p).1 j)) ∙ from_step m u b low w h one p (leads p))
      last

  -- the whole report
  module _ (m u n : Meaning) (b : Node) (low high : K) (ks : List K) (hs : List ℕ) (all fit : ℕ) (t : Lent K) (even : length ks ≡ length hs) (p : Rooted κ b m)
      (counted : Tells (λ z. length (within κ.order low high (pairs_below κ b z))) m all u) (least : fit ≡ min all (length ks)) (lent_room : t.written ≤ length (take fit ks)) where
    abbrev qs : List (Pair K)
    qs = within κ.order low high (pairs_below κ b m)

    small : fit ≤ length ks
    small = omega (arith, least)

    room : t.written ≤ fit
    room = omega (arith, lent_room, length-take-le fit ks small)

    few : fit ≤ length qs
    few = omega (arith, least, counted.value_is)

    run : qs ≡ take (length qs) (pairs_from κ b low m)
    run = within_run law.ordered low high (pairs_below κ b m) p.ascending

    pub reported : (r : ℕ) → r ≡ all → Fills (pairs_from κ b low u) (lent (take fit ks) (take fit hs) 0) t × (n ≡ u) → Reported κ b low high ks hs (t.keys ++ drop fit ks) (t.handles ++ drop fit hs) m r n
    reported r answer d =
        let f : Fills (pairs_from κ b low m) (lent (take fit ks) (take fit hs) 0) t = subst (λ z. Fills (pairs_from κ b low z) (lent (take fit ks) (take fit hs) 0) t) counted.same d.0 in
        let full : fit ≡ min (length qs) (length ks) = omega (arith, least, counted.value_is) in
        let ks_is = keys_all qs (pairs_from κ b low m) ks hs fit t run few small even room f.part full f.all in
        let hs_is = handles_all qs (pairs_from κ b low m) ks hs fit t run few small even room f.part full f.all in
        let total : length qs ≡ r = omega (arith, answer, counted.value_is) in
        let same_length : eqb (length ks) (length hs) ≡ true = eq-eqb (length ks) (length hs) even in
        record {
          told = ap (λ z. cond z (Ok (length qs), over (λ p. p.key) qs ks, over (λ p. p.handle) qs hs) (Err 7, ks, hs)) same_length ∙ (λ i. (Ok (total i), sym ks_is i, sym hs_is i));
          same = d.1 ∙ counted.same;
        }

    pub halted : (f : Fault) (many : ℕ) → many ≡ t.written → Part (pairs_from κ b low u) (lent (take fit ks) (take fit hs) 0) t × Lost u f n → Halted κ b low high ks hs (t.keys ++ drop fit ks) (t.handles ++ drop fit hs) m (record { fault = f; written = many }) n
    halted f many e d =
        let w : Part (pairs_from κ b low m) (lent (take fit ks) (take fit hs) 0) t = subst (λ z. Part (pairs_from κ b low z) (lent (take fit ks) (take fit hs) 0) t) counted.same d.0 in
        record {
          lost = lost_later (kin_same counted.same) d.1;
          few = omega (arith, e, room, few);
          fits = omega (arith, e, room, small);
          keys = keys_over qs (pairs_from κ b low m) ks hs fit t run few small even room w ∙ ap (λ z. over (λ p. p.key) (take z qs) ks) (sym e);
          handles = handles_over qs (pairs_from κ b low m) ks hs fit t run few small even room w ∙ ap (λ z. over (λ p. p.handle) (take z qs) hs) (sym e);
        }
