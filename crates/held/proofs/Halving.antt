-- A node's entries shared out over two blocks at the place where the node is cut.
use Rattle.std.proofs.Common.{◌≡◌, ℕ, zero, suc, ◌+◌, ◌*◌, ◌^◌, ◌<◌, ◌≤◌, cond, eqb, List, [], ◌∷◌, ◌++◌, map, length, get_or, take, drop, sym, refl, ap, ap₂, ◌∙◌, subst, arith, lit≤}
use Rattle.std.proofs.lemmas.List.{take-map, drop-map, length-take-le, length-drop, drop_more, take-append-drop}
use Rattle.std.proofs.ByRecursion.{All-get_or}
use Rattle.std.specs.List.{AllByRecursion}
use Rattle.store.specs.Meaning.{Meaning}
use Rattle.nodes.specs.Nodes.{Entry, Node, entries, entry_at}
use Rattle.plain.proofs.Alls.{all_front, all_back}
use Rattle.tree.specs.Lists.{total, joined}
use Rattle.tree.specs.Laws.{Largest}
use Rattle.tree.specs.Tree.{Item, index_unit, weight, Fit, left, right}
use Rattle.tree.proofs.Units.{unit_some}
use Rattle.tree.proofs.Levels.{cut}
use Rattle.tree.proofs.Words.{split_by_weights}
use Rattle.balance.specs.declared.cut.Halves.{Halves}
use Rattle.balance.specs.Cuts.{entry_weight, weights, sum, Heavy, Halved}
use Rattle.balance.proofs.Levels.{index_units}
use Rattle.balance.proofs.Weights.{entries_length, entries_at}
use Rattle.held.specs.Held.{Kind, Lawful, item, node, foot, feet, words_of, smallest_words, Right, Whole, times}
use Rattle.held.proofs.Feet.{times_joined}
use Rattle.held.proofs.Frames.{Agree, Sames, frames}
use Rattle.held.proofs.Starts.{first_of, key_first}

-- weights added one by one
pub total_map : {X : Type 0} (w : X → ℕ) (xs : List X) → sum (map w xs) ≡ total w xs
total_map w [] = refl
total_map w (x ∷ xs) = omega (arith, total_map w xs)

-- no weight is more than their sum
pub get_total : (ws : List ℕ) (i : ℕ) → get_or ws i 0 ≤ sum ws
get_total [] i = omega arith
get_total (w ∷ ws) zero = omega arith
get_total (w ∷ ws) (suc i) = omega (arith, get_total ws i)

-- no weight that a node can have, even one just merged, is too large to be added
pub limit_small : (l : ℕ) → l ≤ 4 → 10 * index_unit l ≤ 2 ^ 40
limit_small zero h = lit≤ tt
limit_small (suc zero) h = lit≤ tt
limit_small (suc (suc zero)) h = lit≤ tt
limit_small (suc (suc (suc zero))) h = lit≤ tt
limit_small (suc (suc (suc (suc zero)))) h = lit≤ tt
limit_small (suc (suc (suc (suc (suc l))))) h = absurd (omega arith)

module _ {K : Type 0} (κ : Kind K) where
  -- what the entries of a node add is what its items weigh
  pub weights_are : (ω : ℕ → ℕ → ℕ) (l : ℕ) (es : List Entry) → AllByRecursion (Right κ ω l) es → map (entry_weight l) es ≡ map (weight K l) (map (item κ ω l) es)
  weights_are ω l [] r = refl
  weights_are ω zero (e ∷ es) r = ap (λ z. 1 ∷ z) (weights_are ω zero es r.1)
  weights_are ω (suc l) (e ∷ es) r = ap₂ ◌∷◌ r.0.0 (weights_are ω (suc l) es r.1)

  -- and the sum of them what the node weighs
  pub sum_is : (m : Meaning) (l c : ℕ) → Whole κ m.words l c → sum (weights κ.form l (m.words c)) ≡ weight K (suc l) (node κ m.words l c)
  sum_is m l c w = ap sum (weights_are m.words l (entries κ.form (m.words c)) w.2) ∙ total_map (weight K l) (node κ m.words l c)

  -- such a node can be halved
  pub heavy_node : (m : Meaning) (l c : ℕ) → l ≤ 4 → Node κ.form c m → Whole κ m.words l c → 1 ≤ weight K (suc l) (node κ m.words l c) → weight K (suc l) (node κ m.words l c) ≤ 10 * index_unit l → Heavy κ.form c l m
  heavy_node m l c h r w some high = record {
    mild = record { node = r; each = λ i. omega (arith, get_total (weights κ.form l (m.words c)) i, sum_is m l c w, limit_small l h) };
    some = omega (arith, sum_is m l c w);
  }

  -- a part that comes first and isn't empty begins as the whole
  small_front : (l : ℕ) (xs ys zs : Item K (suc l)) → xs ++ ys ≡ zs → 1 ≤ weight K (suc l) xs → smallest_words κ (suc l) xs ≡ smallest_words κ (suc l) zs
  small_front l [] ys zs e h = absurd (omega arith)
  small_front l (x ∷ xs) ys zs e h = ap (smallest_words κ (suc l)) e

module _ {K : Type 0} (κ : Kind K) (law : Lawful κ) where
  -- the smallest key of an entry's item is the entry's
  pub entry_small : (ω : ℕ → ℕ → ℕ) (l : ℕ) (e : Entry) → Right κ ω l e → Fit K index_unit l (item κ ω l e) → smallest_words κ l (item κ ω l e) ≡ κ.packed (κ.unpacked e.key)
  entry_small ω zero e r f = refl
  entry_small ω (suc l) e r f = let b = first_of κ law index_unit index_units ω l e f in ap (words_of κ) b.least ∙ ap κ.packed (sym (key_first κ law index_unit index_units ω l e b r))

  -- the entries ds, shared out over the blocks a and c
  pub record HalvesIn (ω υ : ℕ → ℕ → ℕ) (l a c : ℕ) (h : Halves K) (ds : List Entry) : Type 0 where
    pub node_left : node κ υ l a ≡ left K index_unit l (map (item κ ω l) ds)
    pub node_right : node κ υ l c ≡ right K index_unit l (map (item κ ω l) ds)
    pub whole_left : Whole κ υ l a
    pub whole_right : Whole κ υ l c
    pub left_weighs : h.left ≡ weight K (suc l) (node κ υ l a)
    pub right_weighs : h.right ≡ weight K (suc l) (node κ υ l c)
    pub left_starts : smallest_words κ (suc l) (node κ υ l a) ≡ smallest_words κ (suc l) (map (item κ ω l) ds)
    pub right_starts : smallest_words κ (suc l) (node κ υ l c) ≡ κ.packed h.key
    pub feet_are : (d : ℕ) → times d (feet κ υ l a) + times d (feet κ υ l c) ≡ cond (eqb d a) 1 0 + (cond (eqb d c) 1 0 + times d (joined (foot κ ω l) ds))

  module _ (u x : Meaning) (ω υ : ℕ → ℕ → ℕ) (l b a c : ℕ) (h : Halves K) (ds : List Entry)
      (rights : AllByRecursion (Right κ ω l) ds) (fits : AllByRecursion (Fit K index_unit l) (map (item κ ω l) ds))
      (low : 7 * index_unit l ≤ weight K (suc l) (map (item κ ω l) ds)) (high : weight K (suc l) (map (item κ ω l) ds) ≤ 10 * index_unit l) (few : length ds ≤ κ.form.places)
      (read : entries κ.form (u.words b) ≡ ds) (half : Halved κ.form κ.unpacked b l u h x)
      (at_a : entries κ.form (υ a) ≡ take h.kept ds) (at_c : entries κ.form (υ c) ≡ drop h.kept ds) (level_a : υ a 0 ≡ l) (level_c : υ c 0 ≡ l)
      (agree : Agree κ ω υ (joined (foot κ ω l) ds)) where
    xs : Item K (suc l)
    xs = map (item κ ω l) ds

    f : Entry → List ℕ
    f = foot κ ω l

    parts : (d : ℕ) → times d (joined (foot κ ω l) ds) ≡ times d (joined (foot κ ω l) (take h.kept ds)) + times d (joined (foot κ ω l) (drop h.kept ds))
    parts d = ap (λ z. times d (joined (foot κ ω l) z)) (sym (take-append-drop h.kept ds)) ∙ times_joined (foot κ ω l) d (take h.kept ds) (drop h.kept ds)

    front : Sames κ ω υ l (take h.kept ds)
    front = frames κ ω υ l (take h.kept ds) (λ d g. agree d (omega (arith, parts d)))

    back : Sames κ ω υ l (drop h.kept ds)
    back = frames κ ω υ l (drop h.kept ds) (λ d g. agree d (omega (arith, parts d)))

    -- what was weighed is what the items weigh
    ws_are : weights κ.form l (u.words b) ≡ map (weight K l) (map (item κ ω l) ds)
    ws_are = ap (map (entry_weight l)) read ∙ weights_are κ ω l ds rights

    -- the node was cut where the tree cuts it
    halves : (left K index_unit l (map (item κ ω l) ds) ≡ take h.kept (map (item κ ω l) ds)) × (right K index_unit l (map (item κ ω l) ds) ≡ drop h.kept (map (item κ ω l) ds))
    halves = split_by_weights K index_unit l (map (item κ ω l) ds) h.kept (subst (λ z. Largest (λ (n : ℕ). n) z h.kept) ws_are half.largest)

    node_a : node κ υ l a ≡ left K index_unit l (map (item κ ω l) ds)
    node_a = ap (map (item κ υ l)) at_a ∙ front.items ∙ sym (take-map (item κ ω l) h.kept ds) ∙ sym halves.0

    node_c : node κ υ l c ≡ right K index_unit l (map (item κ ω l) ds)
    node_c = ap (map (item κ υ l)) at_c ∙ back.items ∙ sym (drop-map (item κ ω l) h.kept ds) ∙ sym halves.1

    within : h.kept < length ds
    within = omega (arith, half.within, entries_length κ.form (u.words b), ap length read)

    both : AllByRecursion (Right κ ω l) (take h.kept ds ++ drop h.kept ds)
    both = subst (AllByRecursion (Right κ ω l)) (sym (take-append-drop h.kept ds)) rights

    -- the first entry of the right half
    e : Entry
    e = entry_at κ.form (u.words b) h.kept

    e_is : get_or ds h.kept (entry_at κ.form (u.words b) h.kept) ≡ entry_at κ.form (u.words b) h.kept
    e_is = ap (λ z. get_or z h.kept (entry_at κ.form (u.words b) h.kept)) (sym read) ∙ entries_at κ.form (u.words b) h.kept (entry_at κ.form (u.words b) h.kept) half.within

    rest_is : right K index_unit l (map (item κ ω l) ds) ≡ item κ ω l (entry_at κ.form (u.words b) h.kept) ∷ map (item κ ω l) (drop (h.kept + 1) ds)
    rest_is = halves.1 ∙ drop-map (item κ ω l) h.kept ds ∙ ap (map (item κ ω l)) (drop_more ds h.kept (entry_at κ.form (u.words b) h.kept) within ∙ ap (λ d. d ∷ drop (h.kept + 1) ds) e_is)

    e_right : Right κ ω l (entry_at κ.form (u.words b) h.kept)
    e_right = subst (Right κ ω l) e_is (All-get_or (Right κ ω l) ds h.kept (entry_at κ.form (u.words b) h.kept) within rights)

    -- the two blocks hold the two halves
    pub halves_in : HalvesIn ω υ l a c h ds
    halves_in =
        let k = cut K index_unit index_units l (map (item κ ω l) ds) fits low high in
        let fit : Fit K index_unit l (item κ ω l (entry_at κ.form (u.words b) h.kept)) = (subst (AllByRecursion (Fit K index_unit l)) rest_is k.right_fits).0 in
        record {
          node_left = node_a;
          node_right = node_c;
          whole_left = (
            level_a,
            omega (arith, entries_length κ.form (υ a), ap length at_a, length-take-le h.kept ds (omega (arith, within)), few, within),
            subst (AllByRecursion (Right κ υ l)) (sym at_a) (front.right (all_front (Right κ ω l) (take h.kept ds) (drop h.kept ds) both)),
          );
          whole_right = (
            level_c,
            omega (arith, entries_length κ.form (υ c), ap length at_c, length-drop h.kept ds, few),
            subst (AllByRecursion (Right κ υ l)) (sym at_c) (back.right (all_back (Right κ ω l) (take h.kept ds) (drop h.kept ds) both)),
          );
          left_weighs = half.left ∙ ap (λ z. sum (take h.kept z)) ws_are ∙ ap sum (take-map (weight K l) h.kept (map (item κ ω l) ds)) ∙ total_map (weight K l) (take h.kept (map (item κ ω l) ds)) ∙ ap (weight K (suc l)) (sym halves.0 ∙ sym node_a);
          right_weighs = half.right ∙ ap (λ z. sum (drop h.kept z)) ws_are ∙ ap sum (drop-map (weight K l) h.kept (map (item κ ω l) ds)) ∙ total_map (weight K l) (drop h.kept (map (item κ ω l) ds)) ∙ ap (weight K (suc l)) (sym halves.1 ∙ sym node_c);
          left_starts = ap (smallest_words κ (suc l)) node_a ∙ small_front κ l (left K index_unit l (map (item κ ω l) ds)) (right K index_unit l (map (item κ ω l) ds)) (map (item κ ω l) ds) k.whole (omega (arith, k.left_low, unit_some index_unit index_units l));
          right_starts = ap (smallest_words κ (suc l)) (node_c ∙ rest_is) ∙ entry_small ω l (entry_at κ.form (u.words b) h.kept) e_right fit ∙ ap κ.packed (sym half.key);
          feet_are = λ d. omega (arith, parts d, ap (times d) (ap (joined (foot κ υ l)) at_a ∙ front.feet_are), ap (times d) (ap (joined (foot κ υ l)) at_c ∙ back.feet_are));
        }
