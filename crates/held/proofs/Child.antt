-- The child that a key leads to: what its place means to everything that goes down a tree, and that it sits in blocks in its turn.
use Rattle.std.proofs.Common.{◌≡◌, ℕ, suc, ◌+◌, ◌-◌, ◌<◌, ◌≤◌, true, false, cond, eqb, leb, List, [], ◌∷◌, ◌++◌, length, get_or, take, drop, Ordering, Less, Equal, Greater, sym, refl, ap, ◌∙◌, subst, ap₂, add-one, arith}
use Rattle.std.proofs.lemmas.List.{get_or-map, get_or-take, get_or-drop, length-map, length-append, length-take-le, length-drop, drop_more, take-append-drop}
use Rattle.std.proofs.ByRecursion.{All-get_or}
use Rattle.std.proofs.lemmas.Bool.{le-leb, cond-true}
use Rattle.std.specs.Ordering.{is_le}
use Rattle.std.specs.List.{AllByRecursion}
use Rattle.store.specs.Meaning.{Meaning, limit}
use Rattle.keys.specs.Orders.{Orderly}
use Rattle.nodes.specs.Places.{Form, block_number}
use Rattle.nodes.specs.Nodes.{Entry, Node, entries, entry_at}
use Rattle.nodes.specs.Finds.{SplitAt, keys_in}
use Rattle.plain.specs.Plain.{Sorted}
use Rattle.tree.specs.Lists.{total, joined, onto, while, Place}
use Rattle.tree.specs.Tree.{Item, weight, pairs, Fit, over, under, starts, grown, mended, fused_mark, route, ins, ins_mark, del, del_mark}
use Rattle.tree.specs.Counts.{full, full_below}
use Rattle.tree.specs.Queries.{find_down, floor_down, rank_down, up_to_down, within_down}
use Rattle.tree.specs.Laws.{LastChild, At}
use Rattle.tree.specs.declared.mark.Mark.TheVariants.{Nothing, Split}
use Rattle.tree.proofs.Lists.{total_onto, total_append, length_onto}
use Rattle.tree.proofs.Units.{Units}
use Rattle.tree.proofs.Levels.{kids}
use Rattle.tree.proofs.Flat.{around}
use Rattle.tree.proofs.Words.{last_by_count, way_down}
use Rattle.balance.specs.declared.way.Way.{Way}
use Rattle.balance.specs.Ways.{Peopled, Led}
use Rattle.balance.proofs.Weights.{entries_length, entries_at}
use Rattle.held.specs.Held.{Kind, Lawful, item, node, foot, feet, Right, Whole, times, Sits}
use Rattle.held.proofs.Feet.{times_append, times_three, times_head}
use Rattle.held.proofs.Starts.{starts_key, keys_ascend}
use Rattle.held.proofs.Steps.{bit_true}

-- what the way down at place i of the node x amounts to, for all that goes down a tree
pub record Routed {K : Type 0} (order : K → K → Ordering) (unit : ℕ → ℕ) (l : ℕ) (k : K) (x : Item K (suc (suc l))) (i : ℕ) : Type 0 where
  pub ins_is : (h : ℕ) → ins order unit (suc l) k h x ≡ take i x ++ (grown K unit l (ins order unit l k h (get_or x i [])) ++ drop (i + 1) x)
  pub ins_mark_is : (j h : ℕ) → ins_mark order unit j (suc l) k h x ≡ cond (eqb j l) (cond (over K unit l (ins order unit l k h (get_or x i []))) Split Nothing) (ins_mark order unit j l k h (get_or x i []))
  pub full_is : full_below order unit (suc l) k x ≡ cond (full K unit l (get_or x i [])) 1 0 + full_below order unit l k (get_or x i [])
  pub find_is : find_down order (suc l) k x ≡ find_down order l k (get_or x i [])
  pub floor_is : floor_down order (suc l) k x ≡ floor_down order l k (get_or x i [])
  pub rank_is : rank_down order (suc l) k x ≡ total (weight K (suc l)) (take i x) + rank_down order l k (get_or x i [])
  pub up_to_is : up_to_down order (suc l) k x ≡ total (weight K (suc l)) (take i x) + up_to_down order l k (get_or x i [])
  pub within_is : (high : K) → within_down order (suc l) k high x ≡ joined (within_down order l k high) (get_or x i [] ∷ while (starts order (suc l) high) (drop (i + 1) x))
  -- for a deletion: the siblings to the left come nearest first
  pub p : Place (Item K (suc l))
  pub at : At p x i
  pub here_is : p.here ≡ get_or x i []
  pub after_is : p.after ≡ drop (i + 1) x
  pub before_is : (ys : List (Item K (suc l))) → onto p.before ys ≡ take i x ++ ys
  pub before_long : length p.before ≡ i
  pub del_is : del order unit (suc l) k x ≡ mended K unit l p.before (del order unit l k (get_or x i [])) (drop (i + 1) x)
  pub del_mark_is : (j : ℕ) → del_mark order unit j (suc l) k x ≡ cond (eqb j l) (cond (under K unit l (del order unit l k (get_or x i []))) (fused_mark K unit l p.before (del order unit l k (get_or x i [])) (drop (i + 1) x)) Nothing) (del_mark order unit j l k (get_or x i []))
  pub mid_asc : Sorted order (pairs K (suc l) (get_or x i []))

module _ {K : Type 0} {order : K → K → Ordering} (o : Orderly order) (unit : ℕ → ℕ) (units : Units unit) where
  -- by the number of the last child that starts at k or below
  pub routed_last : (l : ℕ) (k : K) (c : Item K (suc l)) (cs : List (Item K (suc l))) (i : ℕ) → AllByRecursion (Fit K unit (suc l)) (c ∷ cs) → Sorted order (pairs K (suc (suc l)) (c ∷ cs)) → LastChild order (suc l) k c cs i → Routed order unit l k (c ∷ cs) i
  routed_last l k c cs i f a last =
      let x : Item K (suc (suc l)) = c ∷ cs in
      let z = route order (suc l) k c cs in
      let n : At z x i = way_down o unit units (suc l) k c cs f a i last in
      let here : z.here ≡ get_or x i [] = sym (n.is_here []) in
      let after : z.after ≡ drop (i + 1) x = sym n.is_after ∙ ap (λ r. drop r x) (sym (add-one i)) in
      let w = weight K (suc l) in
      let passed : total w z.before ≡ total w (take i x) = omega (arith, total_onto w z.before [], ap (total w) (n.put_back []), total_append w (take i x) []) in
      record {
        ins_is = λ h. n.put_back _ ∙ ap₂ (λ y ys. take i x ++ (grown K unit l (ins order unit l k h y) ++ ys)) here after;
        ins_mark_is = λ j h. ap (λ y. cond (eqb j l) (cond (over K unit l (ins order unit l k h y)) Split Nothing) (ins_mark order unit j l k h y)) here;
        full_is = ap (λ y. cond (full K unit l y) 1 0 + full_below order unit l k y) here;
        find_is = ap (find_down order l k) here;
        floor_is = ap (floor_down order l k) here;
        rank_is = ap₂ (λ t y. t + rank_down order l k y) passed here;
        up_to_is = ap₂ (λ t y. t + up_to_down order l k y) passed here;
        within_is = λ high. ap₂ (λ y ys. joined (within_down order l k high) (y ∷ while (starts order (suc l) high) ys)) here after;
        p = z;
        at = n;
        here_is = here;
        after_is = after;
        before_is = n.put_back;
        before_long = omega (arith, length_onto z.before [], ap length (n.put_back []), length-append (take i x) [], length-take-le i x (omega (arith, last.within)));
        del_is = ap₂ (λ y ys. mended K unit l z.before (del order unit l k y) ys) here after;
        del_mark_is = λ j. ap₂ (λ y ys. cond (eqb j l) (cond (under K unit l (del order unit l k y)) (fused_mark K unit l z.before (del order unit l k y) ys) Nothing) (del_mark order unit j l k y)) here after;
        mid_asc = subst (λ y. Sorted order (pairs K (suc l) y)) here (around o unit units (suc l) k c cs f a).mid_asc;
      }

  -- by how many children start at k or below, where those are the first
  pub routed_count : (l : ℕ) (k : K) (x : Item K (suc (suc l))) (r : ℕ) → AllByRecursion (Fit K unit (suc l)) x → Sorted order (pairs K (suc (suc l)) x) → 1 ≤ length x → r ≤ length x →
      ((j : ℕ) (d : Item K (suc l)) → j < r → starts order (suc l) k (get_or x j d) ≡ true) → ((j : ℕ) (d : Item K (suc l)) → r ≤ j → j < length x → starts order (suc l) k (get_or x j d) ≡ false) → Routed order unit l k x (r - 1)
  routed_count l k [] r f a some h low high = absurd (omega arith)
  routed_count l k (c ∷ cs) r f a some h low high = routed_last l k c cs (r - 1) f a (last_by_count order (suc l) k c cs r h (λ j. low j c) (λ j. high j c))

-- an entry among the entries of a node
pub entries_split : (φ : Form) (β : ℕ → ℕ) (i : ℕ) → i < β 1 → entries φ β ≡ take i (entries φ β) ++ ((entry_at φ β i ∷ []) ++ drop (i + 1) (entries φ β))
entries_split φ β i h =
    let es = entries φ β in
    let e = entry_at φ β i in
    sym (take-append-drop i es) ∙ ap (λ z. take i es ++ z) (drop_more es i e (omega (arith, entries_length φ β)) ∙ ap (λ d. d ∷ drop (i + 1) es) (entries_at φ β i e h))

-- the blocks of one entry
pub times_one : (f : Entry → List ℕ) (c : ℕ) (e : Entry) → times c (joined f (e ∷ [])) ≡ times c (f e)
times_one f c e = omega (arith, times_append c (f e) [])

-- a stored block number that is one
pub block_number_is : (c : ℕ) → c ≤ limit → block_number c ≡ c
block_number_is c h = cond-true (leb c limit) c 0 (le-leb c limit h)

pub not_greater : (r : Ordering) → (r ≡ Greater → ⊥) → is_le r ≡ true
not_greater Less h = refl
not_greater Equal h = refl
not_greater Greater h = absurd (h refl)

-- what holds of all entries holds of the one at a place
pub all_at : (P : Entry → Type 0) (φ : Form) (β : ℕ → ℕ) (i : ℕ) → i < β 1 → AllByRecursion P (entries φ β) → P (entry_at φ β i)
all_at P φ β i h a = subst P (entries_at φ β i (entry_at φ β i) h) (All-get_or P (entries φ β) i (entry_at φ β i) (omega (arith, entries_length φ β)) a)

module _ {K : Type 0} (κ : Kind K) where
  -- as many items as entries
  pub node_length : (ω : ℕ → ℕ → ℕ) (l b : ℕ) → length (node κ ω l b) ≡ ω b 1
  node_length ω l b = length-map (entries κ.form (ω b)) (item κ ω l) ∙ entries_length κ.form (ω b)

  -- the item at a place is that of the entry there
  pub item_at : (ω : ℕ → ℕ → ℕ) (l b i : ℕ) (d : Item K l) → i < ω b 1 → get_or (node κ ω l b) i d ≡ item κ ω l (entry_at κ.form (ω b) i)
  item_at ω l b i d h =
      let e = entry_at κ.form (ω b) i in
      get_or-map (item κ ω l) (entries κ.form (ω b)) i e d (omega (arith, entries_length κ.form (ω b))) ∙ ap (item κ ω l) (entries_at κ.form (ω b) i e h)

  -- what holds of all items holds of the one of an entry
  pub all_items_at : (P : (l : ℕ) → Item K l → Type 0) (ω : ℕ → ℕ → ℕ) (l b i : ℕ) → i < ω b 1 → AllByRecursion (P l) (node κ ω l b) → P l (item κ ω l (entry_at κ.form (ω b) i))
  all_items_at P ω l b i h a =
      let y = item κ ω l (entry_at κ.form (ω b) i) in
      subst (P l) (item_at ω l b i y h) (All-get_or (P l) (node κ ω l b) i y (omega (arith, node_length ω l b)) a)

  -- a node that sits in a block is one
  pub node_of : (unit : ℕ → ℕ) (m : Meaning) (l b : ℕ) → Sits κ unit m l b → Node κ.form b m
  node_of unit m l b s = record {
    room = record { granted = bit_true (m.granted b) (omega (arith, times_head b (joined (foot κ m.words l) (entries κ.form (m.words b))), s.owned b)); wide = s.wide };
    few = s.whole.1;
  }

  -- and has entries, above the leaves
  pub peopled : (unit : ℕ → ℕ) (m : Meaning) (l b : ℕ) → Sits κ unit m (suc l) b → Peopled κ.form b m
  peopled unit m l b s = record { node = node_of unit m (suc l) b s; some = omega (arith, s.kids, node_length m.words (suc l) b) }

-- the child that the way of k leads to, named by the entry at its place
pub record Child {K : Type 0} (κ : Kind K) (unit : ℕ → ℕ) (m : Meaning) (l b : ℕ) (k : K) (w : Way) : Type 0 where
  pub within : w.place < m.words b 1
  pub names : w.child.block ≡ (entry_at κ.form (m.words b) w.place).child
  pub right : Right κ m.words (suc l) (entry_at κ.form (m.words b) w.place)
  pub routed : Routed κ.order unit l k (node κ m.words (suc l) b) w.place
  pub is : get_or (node κ m.words (suc l) b) w.place [] ≡ node κ m.words l w.child.block
  pub fit : Fit K unit (suc l) (node κ m.words l w.child.block)
  pub sits : Sits κ unit m l w.child.block
  pub parts : (c : ℕ) → times c (feet κ m.words (suc l) b)
      ≡ cond (eqb c b) 1 0 + (times c (joined (foot κ m.words (suc l)) (take w.place (entries κ.form (m.words b)))) + (times c (feet κ m.words l w.child.block) + times c (joined (foot κ m.words (suc l)) (drop (w.place + 1) (entries κ.form (m.words b))))))
  pub split : entries κ.form (m.words b) ≡ take w.place (entries κ.form (m.words b)) ++ ((entry_at κ.form (m.words b) w.place ∷ []) ++ drop (w.place + 1) (entries κ.form (m.words b)))

module _ {K : Type 0} (κ : Kind K) (law : Lawful κ) (unit : ℕ → ℕ) (units : Units unit) where
  -- where r of the keys of a node's entries are at most k, and they are the first
  pub routed_split : (m : Meaning) (l b r : ℕ) (k : K) → Sits κ unit m (suc l) b → SplitAt κ.order (keys_in κ.unpacked (entries κ.form (m.words b))) k r → Routed κ.order unit l k (node κ m.words (suc l) b) (r - 1)
  routed_split m l b r k s sp =
      let ω = m.words in
      let es = entries κ.form (ω b) in
      let e : ℕ → Entry = entry_at κ.form (ω b) in
      let keys = keys_in κ.unpacked es in
      let long : length keys ≡ ω b 1 = length-map es (λ (d : Entry). κ.unpacked d.key) ∙ entries_length κ.form (ω b) in
      let many = node_length κ ω (suc l) b in
      let key_at : (j : ℕ) → j < ω b 1 → get_or keys j k ≡ κ.unpacked (e j).key = λ j h.
      get_or-map (λ (d : Entry). κ.unpacked d.key) es j (e j) k (omega (arith, entries_length κ.form (ω b))) ∙ ap (λ (d : Entry). κ.unpacked d.key) (entries_at κ.form (ω b) j (e j) h) in
      let told : (j : ℕ) (d : Item K (suc l)) → j < ω b 1 → starts κ.order (suc l) k (get_or (node κ ω (suc l) b) j d) ≡ is_le (κ.order (get_or keys j k) k) = λ j d h.
      ap (starts κ.order (suc l) k) (item_at κ ω (suc l) b j d h)
      ∙ starts_key κ law unit units ω l k (e j) (all_at (Right κ ω (suc l)) κ.form (ω b) j h s.whole.2) (all_items_at κ (Fit K unit) ω (suc l) b j h s.fits)
      ∙ ap (λ q. is_le (κ.order q k)) (sym (key_at j h)) in
      routed_count law.ordered unit units l k (node κ ω (suc l) b) r s.fits s.ascending (omega (arith, s.kids)) (omega (arith, sp.within))
      (λ j d h.
      let low : κ.order (get_or (take r keys) j k) k ≡ Greater → ⊥ = All-get_or (λ q. κ.order q k ≡ Greater → ⊥) (take r keys) j k (omega (arith, length-take-le r keys sp.within)) sp.first in
      told j d (omega (arith, sp.within)) ∙ not_greater _ (λ g. low (ap (λ q. κ.order q k) (get_or-take r keys j k h) ∙ g)))
      (λ j d g h.
      let back : r + (j - r) ≡ j = omega arith in
      let high : κ.order (get_or (drop r keys) (j - r) k) k ≡ Greater = All-get_or (λ q. κ.order q k ≡ Greater) (drop r keys) (j - r) k (omega (arith, length-drop r keys)) sp.rest in
      told j d (omega arith) ∙ ap is_le (ap (λ q. κ.order q k) (sym (get_or-drop r keys (j - r) k ∙ ap (λ z. get_or keys z k) back)) ∙ high))

  pub child : (m n : Meaning) (l b : ℕ) (k : K) (w : Way) → Sits κ unit m (suc l) b → Led κ.form κ.order κ.unpacked b k m w n → Child κ unit m l b k w
  child m n l b k w s led =
      let ω = m.words in
      let es = entries κ.form (ω b) in
      let i = w.place in
      let e = entry_at κ.form (ω b) i in
      let f = foot κ ω (suc l) in
      let sp = led.found.split (keys_ascend κ law unit units ω l es s.whole.2 s.fits s.ascending) in
      let many = node_length κ ω (suc l) b in
      let long : length (keys_in κ.unpacked es) ≡ ω b 1 = length-map es (λ (d : Entry). κ.unpacked d.key) ∙ entries_length κ.form (ω b) in
      let within : i < ω b 1 = omega (arith, led.place, sp.within, s.kids) in
      let right : Right κ ω (suc l) e = all_at (Right κ ω (suc l)) κ.form (ω b) i within s.whole.2 in
      let names : w.child.block ≡ e.child = led.child ∙ block_number_is e.child right.2 in
      let routed : Routed κ.order unit l k (node κ ω (suc l) b) i = subst (Routed κ.order unit l k (node κ ω (suc l) b)) (sym led.place) (routed_split m l b led.upto k s sp) in
      let is : get_or (node κ ω (suc l) b) i [] ≡ node κ ω l w.child.block = item_at κ ω (suc l) b i [] within ∙ ap (node κ ω l) (sym names) in
      let fit : Fit K unit (suc l) (node κ ω l w.child.block) = subst (λ z. Fit K unit (suc l) (node κ ω l z)) (sym names) (all_items_at κ (Fit K unit) ω (suc l) b i within s.fits) in
      let split = entries_split κ.form (ω b) i within in
      let parts : (c : ℕ) → times c (feet κ ω (suc l) b) ≡ cond (eqb c b) 1 0 + (times c (joined f (take i es)) + (times c (feet κ ω l w.child.block) + times c (joined f (drop (i + 1) es)))) = λ c.
      omega (arith, ap (λ z. times c (joined f z)) split, times_three f c (take i es) (e ∷ []) (drop (i + 1) es), times_one f c e, ap (λ z. times c (feet κ ω l z)) names) in
      record {
        within = within;
        names = names;
        right = right;
        routed = routed;
        is = is;
        fit = fit;
        sits = record {
          wide = s.wide;
          whole = subst (Whole κ ω l) (sym names) (right.3, right.4, right.5);
          owned = λ c. omega (arith, parts c, s.owned c);
          kids = kids K unit units l (node κ ω l w.child.block) fit;
          fits = fit.2;
          light = fit.1;
          ascending = subst (λ y. Sorted κ.order (pairs K (suc l) y)) is routed.mid_asc;
        };
        parts = parts;
        split = split;
      }
