-- A tree is known by the words of its own blocks.
use Rattle.std.proofs.Common.{◌≡◌, ℕ, zero, suc, ◌+◌, ◌≤◌, cond, eqb, List, [], ◌∷◌, ◌++◌, map, sym, refl, ap, ◌∙◌, subst, ap₂, arith}
use Rattle.std.proofs.lemmas.List.{map-append}
use Rattle.std.specs.List.{AllByRecursion}
use Rattle.store.specs.Meaning.{Meaning}
use Rattle.nodes.specs.Nodes.{Entry, entries}
use Rattle.plain.proofs.Alls.{all_append, all_front, all_back}
use Rattle.tree.specs.Lists.{joined}
use Rattle.tree.specs.Tree.{weight}
use Rattle.held.specs.Held.{Kind, item, node, foot, feet, smallest_words, Right, Whole, times, Owned, Step}
use Rattle.held.proofs.Feet.{times_append, times_three, times_head, step_wider}

module _ {K : Type 0} (κ : Kind K) (ω υ : ℕ → ℕ → ℕ) where
  -- the same words in all blocks of F
  abbrev pub Agree : List ℕ → Type 0
  Agree F = (c : ℕ) → 1 ≤ times c F → υ c ≡ ω c

  -- the same item in the same blocks
  pub record Same (l : ℕ) (e : Entry) : Type 0 where
    pub items : item κ υ l e ≡ item κ ω l e
    pub feet_are : foot κ υ l e ≡ foot κ ω l e
    pub right : Right κ ω l e → Right κ υ l e

  pub record Sames (l : ℕ) (es : List Entry) : Type 0 where
    pub items : map (item κ υ l) es ≡ map (item κ ω l) es
    pub feet_are : joined (foot κ υ l) es ≡ joined (foot κ ω l) es
    pub right : AllByRecursion (Right κ ω l) es → AllByRecursion (Right κ υ l) es

  each : (l : ℕ) → ((e : Entry) → Agree (foot κ ω l e) → Same l e) → (es : List Entry) → Agree (joined (foot κ ω l) es) → Sames l es
  each l f [] h = record { items = refl; feet_are = refl; right = λ r. r }
  each l f (e ∷ es) h =
      let a = f e (λ c m. h c (omega (arith, times_append c (foot κ ω l e) (joined (foot κ ω l) es)))) in
      let b = each l f es (λ c m. h c (omega (arith, times_append c (foot κ ω l e) (joined (foot κ ω l) es)))) in
      record {
        items = ap₂ ◌∷◌ a.items b.items;
        feet_are = ap₂ ◌++◌ a.feet_are b.feet_are;
        right = λ r. (a.right r.0, b.right r.1);
      }

  within : (l b : ℕ) → υ b ≡ ω b → Sames l (entries κ.form (ω b)) → (node κ υ l b ≡ node κ ω l b) × (feet κ υ l b ≡ feet κ ω l b)
  within l b e s = (
    ap (λ β. map (item κ υ l) (entries κ.form β)) e ∙ s.items,
    ap (λ β. b ∷ joined (foot κ υ l) (entries κ.form β)) e ∙ ap (λ z. b ∷ z) s.feet_are,
  )

  -- an item whose blocks have the same words
  pub frame : (l : ℕ) (e : Entry) → Agree (foot κ ω l e) → Same l e
  frame zero e h = record { items = refl; feet_are = refl; right = λ r. tt }
  frame (suc l) e h =
      let b = e.child in
      let at : υ b ≡ ω b = h b (times_head b (joined (foot κ ω l) (entries κ.form (ω b)))) in
      let s = each l (frame l) (entries κ.form (ω b)) (λ c m. h c (omega arith)) in
      let n = within l b at s in
      record {
        items = n.0;
        feet_are = n.1;
        right = λ r. (
          r.0 ∙ ap (weight K (suc l)) (sym n.0),
          r.1 ∙ ap (smallest_words κ (suc l)) (sym n.0),
          r.2,
          ap (λ β. β 0) at ∙ r.3,
          subst (λ (β : ℕ → ℕ). β 1 ≤ κ.form.places) (sym at) r.4,
          subst (λ (β : ℕ → ℕ). AllByRecursion (Right κ υ l) (entries κ.form β)) (sym at) (s.right r.5),
        );
      }

  pub frames : (l : ℕ) (es : List Entry) → Agree (joined (foot κ ω l) es) → Sames l es
  frames l es h = each l (frame l) es h

  -- a node whose blocks have the same words
  pub frame_node : (l b : ℕ) → Agree (feet κ ω l b) → (node κ υ l b ≡ node κ ω l b) × (feet κ υ l b ≡ feet κ ω l b) × (Whole κ ω l b → Whole κ υ l b)
  frame_node l b h =
      let at : υ b ≡ ω b = h b (times_head b (joined (foot κ ω l) (entries κ.form (ω b)))) in
      let s = each l (frame l) (entries κ.form (ω b)) (λ c m. h c (omega arith)) in
      let n = within l b at s in
      (n.0, n.1, λ w. (ap (λ β. β 0) at ∙ w.0, subst (λ (β : ℕ → ℕ). β 1 ≤ κ.form.places) (sym at) w.1, subst (λ (β : ℕ → ℕ). AllByRecursion (Right κ υ l) (entries κ.form β)) (sym at) (s.right w.2)))

-- some entries of a node gave way to others
module _ {K : Type 0} (κ : Kind K) (m n : Meaning) (l b : ℕ) (A old new C : List Entry) (owned : Owned m (feet κ m.words l b))
    (was : entries κ.form (m.words b) ≡ A ++ (old ++ C)) (is : entries κ.form (n.words b) ≡ A ++ (new ++ C))
    (step : Step m n (b ∷ joined (foot κ m.words l) old) (b ∷ joined (foot κ n.words l) new)) where
  all_was : (c : ℕ) → times c (feet κ m.words l b) ≡ cond (eqb c b) 1 0 + (times c (joined (foot κ m.words l) A) + (times c (joined (foot κ m.words l) old) + times c (joined (foot κ m.words l) C)))
  all_was c = omega (arith, ap (λ z. times c (joined (foot κ m.words l) z)) was, times_three (foot κ m.words l) c A old C)

  all_is : (c : ℕ) → times c (feet κ n.words l b) ≡ cond (eqb c b) 1 0 + (times c (joined (foot κ n.words l) A) + (times c (joined (foot κ n.words l) new) + times c (joined (foot κ n.words l) C)))
  all_is c = omega (arith, ap (λ z. times c (joined (foot κ n.words l) z)) is, times_three (foot κ n.words l) c A new C)

  front : Sames κ m.words n.words l A
  front = frames κ m.words n.words l A (λ c h. step.kept c (omega (arith, owned c, all_was c)))

  back : Sames κ m.words n.words l C
  back = frames κ m.words n.words l C (λ c h. step.kept c (omega (arith, owned c, all_was c)))

  -- the node: its other items as they were
  pub node_is : node κ n.words l b ≡ map (item κ m.words l) A ++ (map (item κ n.words l) new ++ map (item κ m.words l) C)
  node_is =
      let f = item κ n.words l in
      ap (map f) is ∙ map-append f A (new ++ C) ∙ ap₂ ◌++◌ front.items (map-append f new C ∙ ap (λ z. map f new ++ z) back.items)

  pub whole_is : n.words b 0 ≡ m.words b 0 → n.words b 1 ≤ κ.form.places → AllByRecursion (Right κ n.words l) new → Whole κ m.words l b → Whole κ n.words l b
  whole_is e k r w =
      let R = Right κ m.words l in
      let all : AllByRecursion R (A ++ (old ++ C)) = subst (AllByRecursion R) was w.2 in (
        e ∙ w.0,
        k,
        subst (AllByRecursion (Right κ n.words l)) (sym is)
            (all_append (Right κ n.words l) A (new ++ C) (front.right (all_front R A (old ++ C) all))
            (all_append (Right κ n.words l) new C r (back.right (all_back R old C (all_back R A (old ++ C) all))))),
      )

  pub step_is : Step m n (feet κ m.words l b) (feet κ n.words l b)
  step_is =
      step_wider m n _ _ (feet κ m.words l b) (feet κ n.words l b)
      (λ c. omega (arith, all_was c, all_is c, ap (times c) front.feet_are, ap (times c) back.feet_are))
      (λ c. omega (arith, all_was c))
      step
