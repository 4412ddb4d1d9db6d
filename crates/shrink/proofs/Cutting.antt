-- A key taken out of a leaf.
use Rattle.std.proofs.Common.{◌≡◌, ℕ, zero, suc, ◌+◌, ◌<◌, Bool, true, false, cond, List, [], ◌∷◌, ◌++◌, map, length, take, drop, Some, is_some, Ordering, Less, Equal, Greater, sym, refl, ap, ap₂, ◌∙◌, subst, arith}
use Rattle.std.proofs.lemmas.List.{length-append, length-take-le, length-drop, take-map, drop-map, map-append}
use Rattle.std.proofs.lemmas.Bool.{false≢true}
use Rattle.std.specs.Ordering.{is_le, is_eq}
use Rattle.std.specs.List.{AllByRecursion}
use Rattle.store.specs.Meaning.{Meaning}
use Rattle.keys.specs.Orders.{Orderly}
use Rattle.nodes.specs.declared.node.Node.{Node}
use Rattle.nodes.specs.Finds.{Found}
use Rattle.nodes.specs.Nodes.{Entry, Node as IsNode, Has, Changed, entries, remove_at}
use Rattle.plain.specs.Plain.{Sorted, find, present, cut}
use Rattle.plain.specs.declared.pair.Pair.{Pair}
use Rattle.plain.proofs.Pairs.{find_before}
use Rattle.tree.specs.declared.mark.Mark.TheVariants.{Nothing}
use Rattle.tree.specs.Lists.{joined}
use Rattle.tree.specs.Tree.{index_unit}
use Rattle.tree.proofs.Lists.{all_unit}
use Rattle.balance.specs.declared.marks.Marks.{Marks}
use Rattle.balance.specs.Marks.{mark_at}
use Rattle.balance.proofs.Weights.{entries_length}
use Rattle.held.specs.Held.{Kind, Lawful, item, node, foot, feet, times}
use Rattle.held.proofs.Child.{node_of, node_length}
use Rattle.held.proofs.Feet.{step_wider}
use Rattle.held.proofs.Steps.{step_block}
use Rattle.ask.proofs.Leaves.{Parted, parted, leaf_pairs}
use Rattle.shrink.specs.Deletes.{Holding, Shrank}

module _ {K : Type 0} {order : K → K → Ordering} (o : Orderly order) where
  -- a key below another that is at most k isn't k
  below_other : (x y k : K) → order x y ≡ Less → is_le (order y k) ≡ true → is_eq (order x k) ≡ false
  below_other x y k less low = go (order x k) refl
    where
      go : (r : Ordering) → order x k ≡ r → is_eq r ≡ false
      go Less e = refl
      go Greater e = refl
      go Equal e = absurd (false≢true (sym (ap is_le (o.flips k y (ap (λ z. order z y) (sym (o.apart x k e)) ∙ less))) ∙ low))

  -- where the first pairs are those at most k, the key is the last one's
  pub cut_last : (k : K) (xs : List (Pair K)) (i : ℕ) → i < length xs → Sorted order xs → AllByRecursion (λ p. is_le (order p.key k) ≡ true) (take (suc i) xs) → AllByRecursion (λ p. order p.key k ≡ Greater) (drop (suc i) xs) → present order k xs ≡ true → cut order k xs ≡ take i xs ++ drop (suc i) xs
  cut_last k [] i h a low high e = absurd (omega arith)
  cut_last k (x ∷ xs) zero h a low high e = go (is_eq (order x.key k)) e
    where
      go : (b : Bool) → is_some (cond b (Some x.handle) (find order k xs)) ≡ true → cond b xs (x ∷ cut order k xs) ≡ xs
      go true e = refl
      go false e = absurd (false≢true (ap is_some (sym (find_before order k [] xs high)) ∙ e))
  cut_last k (x ∷ []) (suc i) h a low high e = absurd (omega arith)
  cut_last k (x ∷ y ∷ xs) (suc i) h a low high e =
      let other : is_eq (order x.key k) ≡ false = below_other x.key y.key k a.0.0 low.1.0 in
      let later : present order k (y ∷ xs) ≡ true = ap (λ b. is_some (cond b (Some x.handle) (find order k (y ∷ xs)))) (sym other) ∙ e in
      ap (λ b. cond b (y ∷ xs) (x ∷ cut order k (y ∷ xs))) other ∙ ap (λ z. x ∷ z) (cut_last k (y ∷ xs) i (omega arith) a.1 low.1 high later)

-- a leaf's items have no blocks of their own
no_feet : {K : Type 0} (κ : Kind K) (ω : ℕ → ℕ → ℕ) (c : ℕ) (es : List Entry) → times c (joined (foot κ ω 0) es) ≡ 0
no_feet κ ω c [] = refl
no_feet κ ω c (e ∷ es) = no_feet κ ω c es

-- nor do they hang on the words of any block
same_items : {K : Type 0} (κ : Kind K) (ω υ : ℕ → ℕ → ℕ) (es : List Entry) → map (item κ ω 0) es ≡ map (item κ υ 0) es
same_items κ ω υ [] = refl
same_items κ ω υ (e ∷ es) = ap (λ z. item κ ω 0 e ∷ z) (same_items κ ω υ es)

module _ {K : Type 0} (κ : Kind K) (law : Lawful κ) where
  -- a leaf, named by its level
  at_leaf : (b : Node) (k : K) (m : Meaning) → b.level ≡ 0 → Holding κ b k m → Holding κ (record { block = b.block; level = 0 }) k m
  at_leaf b k m e h = subst (λ z. Holding κ (record { block = b.block; level = z }) k m) e h

  pub leaf_is : (b : Node) (k : K) (m : Meaning) → b.level ≡ 0 → Holding κ b k m → IsNode κ.form b.block m
  leaf_is b k m e h = node_of κ index_unit m 0 b.block (at_leaf b k m e h).sits

  module _ (b : Node) (k : K) (m u : Meaning) (r : ℕ) (zero_level : b.level ≡ 0) (h : Holding κ b k m) (found : Found κ.form κ.order κ.unpacked b.block k m r u) where
    abbrev xs : List (Pair K)
    xs = node κ m.words 0 b.block

    parts : Parted κ m b.block k r
    parts = parted κ m u b.block k r (at_leaf b k m zero_level h).sits found

    ascends : Sorted κ.order xs
    ascends = subst (Sorted κ.order) (leaf_pairs κ m.words b.block) (at_leaf b k m zero_level h).sits.ascending

    -- the key is there, so that some keys are at most it
    pub not_none : r ≡ 0 → ⊥
    not_none e = false≢true (ap is_some (sym (find_before κ.order k [] xs (subst (λ z. AllByRecursion (λ (p : Pair K). κ.order p.key k ≡ Greater) (drop z xs)) e parts.high))) ∙ (at_leaf b k m zero_level h).has)

    module _ (i : ℕ) (last : r ≡ i + 1) where
      pub leaf_has : Has κ.form b.block i u
      leaf_has =
          let n = leaf_is b k m zero_level h in
          subst (Has κ.form b.block i) (sym found.same) (record { room = n.room; has = omega (arith, parts.within, last); few = n.few })

      pub leaf_shrank : (marks : Marks) (n : Meaning) → ((j : ℕ) → mark_at marks j ≡ Nothing) → Changed κ.form b.block (remove_at i) u tt n → Shrank κ b k m marks n
      leaf_shrank marks n none gone =
          let es = entries κ.form (m.words b.block) in
          let gone' : Changed κ.form b.block (remove_at i) m tt n = subst (λ z. Changed κ.form b.block (remove_at i) z tt n) found.same gone in
          let f = item κ m.words 0 in
          let next : i + 1 ≡ suc i = omega arith in
          let upto : r ≡ suc i = last ∙ next in
          let low = subst (λ z. AllByRecursion (λ (p : Pair K). is_le (κ.order p.key k) ≡ true) (take z xs)) upto parts.low in
          let high = subst (λ z. AllByRecursion (λ (p : Pair K). κ.order p.key k ≡ Greater) (drop z xs)) upto parts.high in
          let cut_is = cut_last law.ordered k xs i (omega (arith, parts.within, last, node_length κ m.words 0 b.block)) ascends low high (at_leaf b k m zero_level h).has in
          let one = step_block m n b.block (n.words b.block) gone'.frame in
          let leaf : Shrank κ (record { block = b.block; level = 0 }) k m marks n = record {
            node_is = ap (map (item κ n.words 0)) gone'.entries_are ∙ same_items κ n.words m.words (take i es ++ drop (i + 1) es) ∙ map-append f (take i es) (drop (i + 1) es)
                ∙ ap₂ ◌++◌ (sym (take-map f i es)) (sym (drop-map f (i + 1) es) ∙ ap (λ z. drop z xs) next) ∙ sym cut_is;
            whole = (
              gone'.level ∙ (at_leaf b k m zero_level h).sits.whole.0,
              omega (arith, entries_length κ.form (n.words b.block), ap length gone'.entries_are, length-append (take i es) (drop (i + 1) es), length-take-le i es (omega (arith, parts.within, last, entries_length κ.form (m.words b.block))), length-drop (i + 1) es, entries_length κ.form (m.words b.block), (at_leaf b k m zero_level h).sits.whole.1),
              all_unit (entries κ.form (n.words b.block)),
            );
            step = step_wider m n (b.block ∷ []) (b.block ∷ []) (feet κ m.words 0 b.block) (feet κ n.words 0 b.block) (λ c. omega (arith, no_feet κ m.words c (entries κ.form (m.words b.block)), no_feet κ n.words c (entries κ.form (n.words b.block)))) (λ c. omega arith) one;
            marked = none;
          } in
          subst (λ z. Shrank κ (record { block = b.block; level = z }) k m marks n) (sym zero_level) leaf
