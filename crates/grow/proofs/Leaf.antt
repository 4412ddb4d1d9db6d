-- A pair is put into a leaf.
use Rattle.std.proofs.Common.{◌≡◌, ℕ, ◌<◌, ◌≤◌, List, [], ◌∷◌, ◌++◌, length, take, drop, sym, refl, ap, ap₂, ◌∙◌, subst, arith}
use Rattle.std.proofs.lemmas.List.{take-map, drop-map, length-append, length-take-le, length-drop, take-append-drop}
use Rattle.store.specs.Meaning.{Meaning, free}
use Rattle.nodes.specs.declared.node.Node.{Node}
use Rattle.nodes.specs.Nodes.{Entry, Node as IsNode, Holds, Open, entries, insert_at}
use Rattle.nodes.specs.Finds.{Found}
use Rattle.plain.proofs.Pairs.{put_place}
use Rattle.tree.specs.Lists.{total}
use Rattle.tree.specs.Tree.{index_unit}
use Rattle.tree.specs.declared.mark.Mark.TheVariants.{Nothing}
use Rattle.balance.specs.declared.marks.Marks.{Marks}
use Rattle.balance.specs.Marks.{mark_at}
use Rattle.balance.proofs.Weights.{entries_length}
use Rattle.held.specs.Held.{Kind, Lawful, item, node, Step}
use Rattle.held.proofs.Frames.{node_is, whole_is, step_is}
use Rattle.held.proofs.Steps.{step_block}
use Rattle.held.proofs.Child.{node_of, node_length}
use Rattle.ask.proofs.Leaves.{Parted, parted}
use Rattle.grow.specs.Inserts.{Roomy, Grew}

-- a list of ones
pub total_ones : {X : Type 0} (xs : List X) → total (λ (x : X). 1) xs ≡ length xs
total_ones [] = refl
total_ones (x ∷ xs) = omega (arith, total_ones xs)

module _ {K : Type 0} (κ : Kind K) (law : Lawful κ) (wide : 80 ≤ κ.form.places) where
  -- a leaf that keeps the rules has a place left
  leaf_small : (m : Meaning) (b : ℕ) (k : K) → Roomy κ (record { block = b; level = 0 }) k m → m.words b 1 < κ.form.places
  leaf_small m b k r = omega (arith, r.sits.light, total_ones (node κ m.words 0 b), node_length κ m.words 0 b, wide)

  -- so that the pair's entry can be put in
  open_leaf : (m : Meaning) (b : ℕ) (k : K) (r : ℕ) → Roomy κ (record { block = b; level = 0 }) k m → Parted κ m b k r → Open κ.form b r m
  open_leaf m b k r p parted = record { room = (node_of κ _ m 0 b p.sits).room; upto = parted.within; free = leaf_small m b k p }

  -- and the leaf is the one that the list's insertion makes
  grew_leaf : (m n : Meaning) (b : ℕ) (k : K) (h r : ℕ) (e : Entry) (marks : Marks) → Roomy κ (record { block = b; level = 0 }) k m → Parted κ m b k r → e ≡ record { weight = 1; key = κ.packed k; child = h } →
      Holds κ.form b (insert_at r e (entries κ.form (m.words b))) m n → ((j : ℕ) → mark_at marks j ≡ Nothing) → Grew κ (record { block = b; level = 0 }) k h m marks n
  grew_leaf m n b k h r e marks p parted e_is done none =
      let es = entries κ.form (m.words b) in
      let f = item κ m.words 0 in
      let x = node κ m.words 0 b in
      let was : es ≡ take r es ++ ([] ++ drop r es) = sym (take-append-drop r es) in
      let one : Step m n (b ∷ []) (b ∷ []) = step_block m n b (n.words b) done.frame in
      let new : item κ n.words 0 e ≡ record { key = k; handle = h } = ap (item κ n.words 0) e_is ∙ (λ j. record { key = law.packing.back k j; handle = h }) in
      record {
        node_is = node_is κ m n 0 b (take r es) [] (e ∷ []) (drop r es) p.sits.owned was done.entries_are one
            ∙ ap₂ (λ u v. u ++ (item κ n.words 0 e ∷ v)) (sym (take-map f r es)) (sym (drop-map f r es))
            ∙ ap (λ z. take r x ++ (z ∷ drop r x)) new
            ∙ sym (put_place κ.order k h x r parted.low parted.high);
        whole = whole_is κ m n 0 b (take r es) [] (e ∷ []) (drop r es) p.sits.owned was done.entries_are one done.level
            (omega (arith, entries_length κ.form (n.words b), ap length done.entries_are, length-append (take r es) (e ∷ drop r es), length-take-le r es (omega (arith, parted.within, entries_length κ.form (m.words b))), length-drop r es, entries_length κ.form (m.words b), parted.within, leaf_small m b k p))
            (tt, tt) p.sits.whole;
        step = step_is κ m n 0 b (take r es) [] (e ∷ []) (drop r es) p.sits.owned was done.entries_are one;
        spent = omega (arith, ap free done.frame);
        marked = none;
      }

  -- the same of a node whose level turned out to be 0, after its keys were searched
  module _ (m : Meaning) (b : Node) (k : K) (at : b.level ≡ 0) (p : Roomy κ b k m) where
    leaf_roomy : Roomy κ (record { block = b.block; level = 0 }) k m
    leaf_roomy = subst (λ j. Roomy κ (record { block = b.block; level = j }) k m) at p

    pub leaf_node : IsNode κ.form b.block m
    leaf_node = node_of κ index_unit m 0 b.block leaf_roomy.sits

    module _ (v : Meaning) (r : ℕ) (found : Found κ.form κ.order κ.unpacked b.block k m r v) where
      pub leaf_open : Open κ.form b.block r v
      leaf_open = subst (Open κ.form b.block r) (sym found.same) (open_leaf m b.block k r leaf_roomy (parted κ m v b.block k r leaf_roomy.sits found))

      pub leaf_grew : (n : Meaning) (h : ℕ) (e : Entry) (marks : Marks) → e ≡ record { weight = 1; key = κ.packed k; child = h } →
          Holds κ.form b.block (insert_at r e (entries κ.form (v.words b.block))) v n → ((j : ℕ) → mark_at marks j ≡ Nothing) → Grew κ b k h m marks n
      leaf_grew n h e marks e_is done none =
          let here = grew_leaf m n b.block k h r e marks leaf_roomy (parted κ m v b.block k r leaf_roomy.sits found) e_is (subst (λ z. Holds κ.form b.block (insert_at r e (entries κ.form (z.words b.block))) z n) found.same done) none in
          subst (λ j. Grew κ (record { block = b.block; level = j }) k h m marks n) (sym at) here
