-- A deletion below an inner node: from its child's to its own.
use Rattle.std.proofs.Common.{◌≡◌, ℕ, suc, ◌+◌, ◌-◌, ◌<◌, ◌≤◌, true, cond, eqb, List, [], ◌∷◌, ◌++◌, map, get_or, take, drop, is_some, sym, ap, ap₂, ◌∙◌, subst, arith}
use Rattle.std.proofs.lemmas.List.{take-map, drop-map, take-append-drop}
use Rattle.std.specs.List.{AllByRecursion}
use Rattle.store.specs.Meaning.{Meaning, limit}
use Rattle.copies.proofs.Exits.{Kin}
use Rattle.nodes.specs.declared.node.Node.{Node}
use Rattle.nodes.specs.Nodes.{Entry, entries, entry_at}
use Rattle.plain.proofs.Alls.{all_front, all_back}
use Rattle.tree.specs.declared.mark.Mark.{Mark}
use Rattle.tree.specs.declared.mark.Mark.TheVariants.{Nothing}
use Rattle.tree.specs.Lists.{joined, onto}
use Rattle.tree.specs.Tree.{Item, index_unit, weight, Fit, under, fused_mark, mended, del, del_mark}
use Rattle.tree.specs.Queries.{find_down}
use Rattle.tree.proofs.Delete.{Deleted, deleted}
use Rattle.balance.specs.declared.way.Way.{Way}
use Rattle.balance.specs.declared.marks.Marks.{Marks}
use Rattle.balance.specs.Marks.{mark_at}
use Rattle.balance.specs.Ways.{Led, Peopled}
use Rattle.balance.proofs.Levels.{index_units}
use Rattle.held.specs.Held.{Kind, Lawful, item, node, foot, feet, Right, times, Owned, Step}
use Rattle.held.proofs.Child.{Child, child, peopled, node_length}
use Rattle.held.proofs.Feet.{times_three, times_append, times_head, owned_step, step_then, step_wider}
use Rattle.held.proofs.Frames.{Sames, frames}
use Rattle.held.proofs.Steps.{bit_true}
use Rattle.shrink.specs.Deletes.{Stale, Mended, Holding, Shrank, led, lefts}
use Rattle.shrink.proofs.Fusing.{onto_of}

module _ {K : Type 0} (κ : Kind K) (law : Lawful κ) where
  -- a node above the leaves, named by its child's level
  pub above : (b : Node) (l : ℕ) (k : K) (m : Meaning) → b.level ≡ suc l → Holding κ b k m → Holding κ (record { block = b.block; level = suc l }) k m
  above b l k m e h = subst (λ z. Holding κ (record { block = b.block; level = z }) k m) e h

  pub holding_peopled : (b : Node) (k : K) (m : Meaning) → 0 < b.level → Holding κ b k m → Peopled κ.form b.block m
  holding_peopled b k m more h = let e : b.level ≡ suc (b.level - 1) = omega arith in peopled κ index_unit m (b.level - 1) b.block (above b (b.level - 1) k m e h).sits

  -- the way of k from a node to its child
  module _ (m n : Meaning) (k : K) (w : Way) (h : Holding κ (record { block = w.parent; level = suc w.child.level }) k m) (way : Led κ.form κ.order κ.unpacked w.parent k m w n) where
    abbrev l : ℕ
    l = w.child.level

    abbrev p : ℕ
    p = w.parent

    abbrev es : List Entry
    es = entries κ.form (m.words w.parent)

    abbrev xs : Item K (suc (suc w.child.level))
    xs = node κ m.words (suc w.child.level) w.parent

    abbrev x : Item K (suc w.child.level)
    x = node κ m.words w.child.level w.child.block

    c : Child κ index_unit m l p k w
    c = child κ law index_unit index_units m n l p k w h.sits way

    has_below : is_some (find_down κ.order l k x) ≡ true
    has_below = ap is_some (sym (c.routed.find_is ∙ ap (find_down κ.order l k) c.is)) ∙ h.has

    -- the child has the key as well
    pub child_holds : Holding κ w.child k m
    child_holds = record { sits = c.sits; low = omega (arith, h.low); has = has_below }

    lost_one : Deleted κ.order index_unit index_units l k x
    lost_one = deleted κ.order index_unit index_units l k x c.sits.kids c.sits.fits has_below

    -- after the key was taken out below the child
    module _ (u : Meaning) (marks : Marks) (done : Shrank κ w.child k m marks u) where
      old : (d : ℕ) → times d (feet κ m.words (suc l) p) ≡ cond (eqb d p) 1 0 + (times d (joined (foot κ m.words (suc l)) (take w.place es)) + (times d (feet κ m.words l w.child.block) + times d (joined (foot κ m.words (suc l)) (drop (w.place + 1) es))))
      old = c.parts

      at_p : u.words p ≡ m.words p
      at_p = done.step.kept p (omega (arith, h.sits.owned p, old p, times_head p []))

      front : Sames κ m.words u.words (suc l) (take w.place es)
      front = frames κ m.words u.words (suc l) (take w.place es) (λ d g. done.step.kept d (omega (arith, h.sits.owned d, old d)))

      back : Sames κ m.words u.words (suc l) (drop (w.place + 1) es)
      back = frames κ m.words u.words (suc l) (drop (w.place + 1) es) (λ d g. done.step.kept d (omega (arith, h.sits.owned d, old d)))

      abbrev e : Entry
      e = entry_at κ.form (m.words w.parent) w.place

      now : entries κ.form (u.words p) ≡ take w.place es ++ ((e ∷ []) ++ drop (w.place + 1) es)
      now = ap (entries κ.form) at_p ∙ c.split

      new : (d : ℕ) → times d (feet κ u.words (suc l) p) ≡ cond (eqb d p) 1 0 + (times d (joined (foot κ m.words (suc l)) (take w.place es)) + (times d (feet κ u.words l w.child.block) + times d (joined (foot κ m.words (suc l)) (drop (w.place + 1) es))))
      new d =
          let f = foot κ u.words (suc l) in
          omega (
            arith,
            ap (λ z. times d (joined f z)) now,
            times_three f d (take w.place es) (e ∷ []) (drop (w.place + 1) es),
            times_append d (f e) [],
            ap (λ z. times d (feet κ u.words l z)) c.names,
            ap (times d) front.feet_are,
            ap (times d) back.feet_are,
          )

      pub step_up : Step m u (feet κ m.words (suc l) p) (feet κ u.words (suc l) p)
      step_up = step_wider m u (feet κ m.words l w.child.block) (feet κ u.words l w.child.block) (feet κ m.words (suc l) p) (feet κ u.words (suc l) p) (λ d. omega (arith, old d, new d)) (λ d. omega (arith, old d)) done.step

      owned_up : Owned u (feet κ u.words (suc l) p)
      owned_up = owned_step m u (feet κ m.words (suc l) p) (feet κ u.words (suc l) p) step_up h.sits.owned

      fits_split : AllByRecursion (Fit K index_unit (suc l)) (take w.place xs ++ drop w.place xs)
      fits_split = subst (AllByRecursion (Fit K index_unit (suc l))) (sym (take-append-drop w.place xs)) h.sits.fits

      fits_split_after : AllByRecursion (Fit K index_unit (suc l)) (take (w.place + 1) xs ++ drop (w.place + 1) xs)
      fits_split_after = subst (AllByRecursion (Fit K index_unit (suc l))) (sym (take-append-drop (w.place + 1) xs)) h.sits.fits

      rights_split : AllByRecursion (Right κ m.words (suc l)) (take w.place es ++ ((e ∷ []) ++ drop (w.place + 1) es))
      rights_split = subst (AllByRecursion (Right κ m.words (suc l))) c.split h.sits.whole.2

      -- the other children are as they were
      front_items : take w.place (node κ u.words (suc l) p) ≡ take w.place xs
      front_items =
          let f = item κ u.words (suc l) in
          let g = item κ m.words (suc l) in
          ap (λ z. take w.place (map f (entries κ.form z))) at_p ∙ take-map f w.place es ∙ front.items ∙ sym (take-map g w.place es)

      back_items : drop (w.place + 1) (node κ u.words (suc l) p) ≡ drop (w.place + 1) xs
      back_items =
          let f = item κ u.words (suc l) in
          let g = item κ m.words (suc l) in
          ap (λ z. drop (w.place + 1) (map f (entries κ.form z))) at_p ∙ drop-map f (w.place + 1) es ∙ back.items ∙ sym (drop-map g (w.place + 1) es)

      weighs_now : e.weight ≡ suc (weight K (suc l) (led κ w u))
      weighs_now = c.right.0 ∙ ap (λ z. weight K (suc l) (node κ m.words l z)) (sym c.names) ∙ sym lost_one.sum ∙ ap (λ z. suc (weight K (suc l) z)) (sym done.node_is)

      pub stale : Stale κ w u
      stale =
          let count = ap (λ β. β 1) at_p in
          let fit = c.fit in
          let lost = lost_one.sum in
          let less = ap (weight K (suc l)) done.node_is in
          let R = Right κ m.words (suc l) in
          record {
            parent = record {
              room = record { granted = bit_true (u.granted p) (omega (arith, owned_up p, times_head p (joined (foot κ u.words (suc l)) (entries κ.form (u.words p))))); wide = omega (arith, ap (λ z. z.width) done.step.same_shape, h.sits.wide) };
              few = omega (arith, count, h.sits.whole.1);
            };
            level = ap (λ β. β 0) at_p ∙ h.sits.whole.0;
            two = omega (arith, count, h.sits.kids, node_length κ m.words (suc l) p);
            within = omega (arith, count, c.within);
            names = ap (λ β. (entry_at κ.form β w.place).child) at_p ∙ sym c.names;
            number = subst (λ z. z ≤ limit) (sym c.names) c.right.2;
            low = omega (arith, h.low);
            before = subst (λ β. AllByRecursion (Right κ u.words (suc l)) (take w.place (entries κ.form β))) (sym at_p) (front.right (all_front R (take w.place es) ((e ∷ []) ++ drop (w.place + 1) es) rights_split));
            after = subst (λ β. AllByRecursion (Right κ u.words (suc l)) (drop (w.place + 1) (entries κ.form β))) (sym at_p) (back.right (all_back R (take w.place es) ((e ∷ []) ++ drop (w.place + 1) es) rights_split).1);
            fits_before = subst (AllByRecursion (Fit K index_unit (suc l))) (sym front_items) (all_front (Fit K index_unit (suc l)) (take w.place xs) (drop w.place xs) fits_split);
            fits_after = subst (AllByRecursion (Fit K index_unit (suc l))) (sym back_items) (all_back (Fit K index_unit (suc l)) (take (w.place + 1) xs) (drop (w.place + 1) xs) fits_split_after);
            weighs = ap (λ β. (entry_at κ.form β w.place).weight) at_p ∙ weighs_now;
            whole = done.whole;
            fits = subst (AllByRecursion (Fit K index_unit l)) (sym done.node_is) lost_one.fits;
            heavy = omega (arith, fit.0, lost, less);
            light = omega (arith, fit.1, lost, less);
            owned = owned_up;
          }

      here : led κ w u ≡ del κ.order index_unit l k (get_or xs w.place [])
      here = done.node_is ∙ ap (del κ.order index_unit l k) (sym c.is)

      before_is : lefts κ w u ≡ c.routed.p.before
      before_is = ap (λ z. onto z []) front_items ∙ sym (onto_of c.routed.p.before (take w.place xs) c.routed.before_is)

      -- and after the child was merged, where it had to be
      pub shrank : (v : Meaning) (mark : Mark) (all : Marks) → Mended κ w u mark v → ((j : ℕ) → mark_at all j ≡ cond (eqb j l) mark (mark_at marks j)) → Shrank κ (record { block = w.parent; level = suc w.child.level }) k m all v
      shrank v mark all fix told = record {
        node_is = fix.node_is ∙ (λ z. mended K index_unit l (before_is z) (here z) (back_items z)) ∙ sym c.routed.del_is;
        whole = fix.whole;
        step = step_then m u v _ _ _ step_up fix.step;
        marked = λ j.
            let y = get_or xs w.place [] in
            told j
            ∙ ap₂ (λ a b. cond (eqb j l) a b)
            (fix.marked ∙ (λ z. cond (under K index_unit l (here z)) (fused_mark K index_unit l (before_is z) (here z) (back_items z)) Nothing))
            (done.marked j ∙ ap (del_mark κ.order index_unit j l k) (sym c.is))
            ∙ sym (c.routed.del_mark_is j);
      }

-- the same of a node and the way to its child as the code has them
module _ {K : Type 0} (κ : Kind K) (law : Lawful κ) (b : Node) (k : K) (w : Way) (m n : Meaning) (more : 0 < b.level) (at : w.parent ≡ b.block) (one : w.child.level ≡ b.level - 1) (h : Holding κ b k m) (way : Led κ.form κ.order κ.unpacked b.block k m w n) where
  same_node : record { block = w.parent; level = suc w.child.level } ≡ b
  same_node = let up : suc w.child.level ≡ b.level = omega (arith, one) in (λ z. record { block = at z; level = up z })

  holds : Holding κ (record { block = w.parent; level = suc w.child.level }) k m
  holds = subst (λ z. Holding κ z k m) (sym same_node) h

  leads : Led κ.form κ.order κ.unpacked w.parent k m w n
  leads = subst (λ z. Led κ.form κ.order κ.unpacked z k m w n) (sym at) way

  pub next_holds : Holding κ w.child k n
  next_holds = subst (Holding κ w.child k) (sym way.found.same) (child_holds κ law m n k w holds leads)

  module _ (u : Meaning) (marks : Marks) (done : Shrank κ w.child k n marks u) where
    done_at : Shrank κ w.child k m marks u
    done_at = subst (λ z. Shrank κ w.child k z marks u) way.found.same done

    pub next_stale : Stale κ w u
    next_stale = stale κ law m n k w holds leads u marks done_at

    pub next_kin : Kin m u
    next_kin = let s = step_up κ law m n k w holds leads u marks done_at in record { shape = s.same_shape; below = s.same_below }

    pub all_shrank : (v : Meaning) (mark : Mark) (all : Marks) → Mended κ w u mark v → (w.child.level ≤ 4 → (j : ℕ) → mark_at all j ≡ cond (eqb j w.child.level) mark (mark_at marks j)) → Shrank κ b k m all v
    all_shrank v mark all fix told = subst (λ z. Shrank κ z k m all v) same_node (shrank κ law m n k w holds leads u marks done_at v mark all fix (told (omega (arith, holds.low))))
