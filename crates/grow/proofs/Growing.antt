-- An insertion goes on from a child to its parent.
use Rattle.std.proofs.Common.{◌≡◌, ℕ, suc, ◌+◌, ◌-◌, ◌*◌, ◌<◌, ◌≤◌, true, cond, eqb, [], ◌∷◌, ◌++◌, length, map, take, drop, sym, ap, ap₂, ◌∙◌, subst, pow-suc, arith}
use Rattle.std.specs.Bool.{if◌then◌else◌}
use Rattle.std.specs.Ordering.{ord_min}
use Rattle.std.proofs.lemmas.List.{take-map, drop-map, length-append, length-take-le, length-drop}
use Rattle.std.proofs.lemmas.Bool.{cond-true}
use Rattle.std.specs.List.{AllByRecursion}
use Rattle.store.specs.Meaning.{Meaning, limit}
use Rattle.copies.proofs.Exits.{Kin}
use Rattle.nodes.specs.declared.node.Node.{Node}
use Rattle.nodes.specs.Nodes.{Entry, entries, entry_at}
use Rattle.tree.specs.Lists.{joined}
use Rattle.tree.specs.Tree.{Item, index_unit, weight, Fit, Kids, over, grown, left, right, ins, ins_mark}
use Rattle.tree.specs.Counts.{full, full_below}
use Rattle.tree.specs.declared.mark.Mark.{Mark}
use Rattle.tree.specs.declared.mark.Mark.TheVariants.{Nothing, Split}
use Rattle.tree.proofs.Units.{unit_some}
use Rattle.tree.proofs.Insert.{Inserted, inserted}
use Rattle.tree.proofs.Counts.{over_full, places_suffice}
use Rattle.balance.specs.declared.way.Way.{Way}
use Rattle.balance.specs.declared.marks.Marks.{Marks}
use Rattle.balance.specs.Marks.{mark_at}
use Rattle.balance.specs.Ways.{Led, Peopled}
use Rattle.balance.proofs.Levels.{index_units}
use Rattle.held.specs.Held.{Kind, Lawful, item, node, foot, feet, smallest_words, times, Step}
use Rattle.held.proofs.Feet.{times_head, step_then, step_wider, owned_step}
use Rattle.held.proofs.Frames.{node_is, whole_is, step_is}
use Rattle.held.proofs.Steps.{bit_most, kin_step, room_step}
use Rattle.held.proofs.Child.{Child, child, peopled, node_of, node_length, times_one}
use Rattle.grow.specs.Inserts.{Roomy, Grew, Due, Settled}
use Rattle.grow.proofs.Smallest.{smallest_ins}

-- the unit of the next level
unit_next : (l : ℕ) → index_unit (suc l) ≡ index_unit l * 16
unit_next l = rw (pow-suc 16 l) (omega arith)

-- a node too heavy becomes two
grown_two : (K : Type 0) (l : ℕ) (y : Item K (suc l)) → over K index_unit l y ≡ true → length (grown K index_unit l y) ≡ 2
grown_two K l y e = ap length (cond-true (over K index_unit l y) (left K index_unit l y ∷ right K index_unit l y ∷ []) (y ∷ []) e)

-- a node has room for one more child when one of its children is split
places : {K : Type 0} (κ : Kind K) (l : ℕ) (k : K) (h i : ℕ) (x : Item K (suc (suc l))) (y : Item K (suc l)) → Kids K index_unit (suc l) x → AllByRecursion (Fit K index_unit (suc l)) x → weight K (suc (suc l)) x ≤ 8 * index_unit (suc l) → i < length x →
    ins κ.order index_unit (suc l) k h x ≡ take i x ++ (grown K index_unit l y ++ drop (i + 1) x) → over K index_unit l y ≡ true → length x < 80
places {K} κ l k h i x y two fits light within is o =
    let z = ins κ.order index_unit (suc l) k h x in
    let g = inserted κ.order index_unit index_units (suc l) k h x two fits in
    let most = places_suffice K index_unit index_units 16 l z (unit_next l) g.fits (omega (arith, g.sum, light, unit_some index_unit index_units (suc l))) in
    omega (arith, most, ap length is, length-append (take i x) (grown K index_unit l y ++ drop (i + 1) x), length-append (grown K index_unit l y) (drop (i + 1) x), grown_two K l y o, length-take-le i x (omega arith), length-drop (i + 1) x)

-- the node that a way begins at
abbrev pub above : Way → Node
above w = record { block = w.parent; level = suc w.child.level }

module _ {K : Type 0} (κ : Kind K) (law : Lawful κ) (wide : 80 ≤ κ.form.places) where
  -- it has a child
  pub roomy_peopled : (m : Meaning) (b : Node) (k : K) → 0 < b.level → Roomy κ b k m → Peopled κ.form b.block m
  roomy_peopled m b k h p =
      let more : b.level ≡ suc (b.level - 1) = omega arith in
      peopled κ index_unit m (b.level - 1) b.block (subst (λ j. Roomy κ (record { block = b.block; level = j }) k m) more p).sits

  module _ (m : Meaning) (w : Way) (k : K) (p : Roomy κ (above w) k m) (c : Child κ index_unit m w.child.level w.parent k w) where
    -- the child has its share of the free blocks
    pub child_roomy : Roomy κ w.child k m
    child_roomy =
        let l = w.child.level in
        record {
          sits = c.sits;
          low = omega (arith, p.low);
          room = omega (arith, p.room, c.routed.full_is, ap (full_below κ.order index_unit l k) c.is);
        }

    -- where the child grew
    module _ (u : Meaning) (h : ℕ) (marks : Marks) (grew : Grew κ w.child k h m marks u) where
      -- the parent's block is as it was
      at_parent : u.words w.parent ≡ m.words w.parent
      at_parent = grew.step.kept w.parent (omega (arith, c.parts w.parent, p.sits.owned w.parent, times_head w.parent []))

      -- the child has one pair more, and its items keep the rules
      more : Inserted κ.order index_unit index_units w.child.level k h (node κ m.words w.child.level w.child.block)
      more = inserted κ.order index_unit index_units w.child.level k h (node κ m.words w.child.level w.child.block) c.sits.kids c.fit.2

      weighs : weight K (suc w.child.level) (node κ u.words w.child.level w.child.block) ≡ suc (weight K (suc w.child.level) (node κ m.words w.child.level w.child.block))
      weighs = ap (weight K (suc w.child.level)) grew.node_is ∙ more.sum

      fits : AllByRecursion (Fit K index_unit w.child.level) (node κ u.words w.child.level w.child.block)
      fits = subst (AllByRecursion (Fit K index_unit w.child.level)) (sym grew.node_is) more.fits

      -- it weighs too much exactly where it was full
      over_is : over K index_unit w.child.level (node κ u.words w.child.level w.child.block) ≡ full K index_unit w.child.level (node κ m.words w.child.level w.child.block)
      over_is = rw weighs (over_full (weight K (suc w.child.level) (node κ m.words w.child.level w.child.block)) (8 * index_unit w.child.level) c.fit.1)

      -- what the tree's insertion makes of the parent
      ins_is : ins κ.order index_unit (suc w.child.level) k h (node κ m.words (suc w.child.level) w.parent)
          ≡ take w.place (node κ m.words (suc w.child.level) w.parent) ++ (grown K index_unit w.child.level (node κ u.words w.child.level w.child.block) ++ drop (w.place + 1) (node κ m.words (suc w.child.level) w.parent))
      ins_is =
          let X = node κ m.words (suc w.child.level) w.parent in
          c.routed.ins_is h ∙ ap (λ z. take w.place X ++ (grown K index_unit w.child.level z ++ drop (w.place + 1) X)) (ap (ins κ.order index_unit w.child.level k h) c.is ∙ sym grew.node_is)

      -- and how many blocks it takes
      room_below : full_below κ.order index_unit (suc w.child.level) k (node κ m.words (suc w.child.level) w.parent)
          ≡ cond (over K index_unit w.child.level (node κ u.words w.child.level w.child.block)) 1 0 + full_below κ.order index_unit w.child.level k (node κ m.words w.child.level w.child.block)
      room_below =
          let l = w.child.level in
          c.routed.full_is ∙ ap (λ z. cond (full K index_unit l z) 1 0 + full_below κ.order index_unit l k z) c.is ∙ ap (λ z. cond z 1 0 + full_below κ.order index_unit l k (node κ m.words l w.child.block)) (sym over_is)

      -- the insertion so far is one step
      both : Step m u (w.parent ∷ feet κ m.words w.child.level w.child.block) (w.parent ∷ feet κ u.words w.child.level w.child.block)
      both = step_wider m u _ _ (w.parent ∷ feet κ m.words w.child.level w.child.block) (w.parent ∷ feet κ u.words w.child.level w.child.block) (λ d. omega arith) (λ d. omega arith) grew.step

      -- the child's smallest key is the old one or the new
      starts : smallest_words κ (suc w.child.level) (node κ u.words w.child.level w.child.block) ≡ κ.packed (ord_min κ.order (κ.unpacked (entry_at κ.form (u.words w.parent) w.place).key) k)
      starts =
          let l = w.child.level in
          ap (smallest_words κ (suc l)) grew.node_is
          ∙ smallest_ins κ law l k h (node κ m.words l w.child.block) (entry_at κ.form (u.words w.parent) w.place).key c.sits.kids c.fit.2 c.sits.ascending (omega (arith, c.fit.0, unit_some index_unit index_units l))
          (ap (λ β. (entry_at κ.form β w.place).key) at_parent ∙ c.right.1 ∙ ap (λ z. smallest_words κ (suc l) (node κ m.words l z)) (sym c.names))

      -- its entry is to be corrected
      pub due : Due κ w k u
      due =
          let l = w.child.level in
          let count : u.words w.parent 1 ≡ m.words w.parent 1 = ap (λ β. β 1) at_parent in
          let same : entry_at κ.form (u.words w.parent) w.place ≡ entry_at κ.form (m.words w.parent) w.place = ap (λ β. entry_at κ.form β w.place) at_parent in
          record {
            child = record {
              parent = record {
                room = room_step κ.form w.parent m u _ _ both (omega (arith, c.parts w.parent, p.sits.owned w.parent, bit_most (m.granted w.parent), times_head w.parent [])) (node_of κ index_unit m (suc l) w.parent p.sits).room;
                few = omega (arith, count, p.sits.whole.1);
              };
              within = omega (arith, count, c.within);
              names = ap (λ (e : Entry). e.child) same ∙ sym c.names;
              number = subst (λ z. z ≤ limit) (sym c.names) c.right.2;
              low = omega (arith, p.low);
              whole = grew.whole;
              owned = owned_step m u _ _ both (λ d. omega (arith, c.parts d, p.sits.owned d));
              fits = fits;
              heavy = omega (arith, weighs, c.fit.0);
              light = omega (arith, weighs, c.fit.1);
              room = λ o. (
                omega (arith, p.room, room_below, cond-true {A = ℕ} (over K index_unit l (node κ u.words l w.child.block)) 1 0 o, grew.spent),
                omega (arith, count, wide, node_length κ m.words (suc l) w.parent, places κ l k h w.place (node κ m.words (suc l) w.parent) (node κ u.words l w.child.block) p.sits.kids p.sits.fits p.sits.light (omega (arith, c.within, node_length κ m.words (suc l) w.parent)) ins_is o),
              );
            };
            weighs = ap (λ (e : Entry). suc e.weight) same ∙ ap suc (c.right.0 ∙ ap (λ z. weight K (suc l) (node κ m.words l z)) (sym c.names)) ∙ sym weighs;
            starts = starts;
          }

      -- and once it was, the parent grew
      pub grew_on : (n : Meaning) (mark : Mark) (all : Marks) → Settled κ w u mark n → ((j : ℕ) → mark_at all j ≡ (if eqb j w.child.level then mark else mark_at marks j)) → Grew κ (above w) k h m all n
      grew_on n mark all d said =
          let l = w.child.level in
          let b = w.parent in
          let i = w.place in
          let es = entries κ.form (m.words b) in
          let e = entry_at κ.form (m.words b) i in
          let f = foot κ m.words (suc l) in
          let g = item κ m.words (suc l) in
          let first : Step m u (b ∷ joined f (e ∷ [])) (b ∷ feet κ u.words l w.child.block) =
          step_wider m u _ _ (b ∷ joined f (e ∷ [])) (b ∷ feet κ u.words l w.child.block) (λ z. omega (arith, times_one f z e, ap (λ r. times z (feet κ m.words l r)) c.names)) (λ z. omega (arith, times_one f z e, ap (λ r. times z (feet κ m.words l r)) c.names)) both in
          let step = step_then m u n _ _ _ first d.entry.step in
          let is : entries κ.form (n.words b) ≡ take i es ++ (d.entry.new ++ drop (i + 1) es) = d.entry.entries_are ∙ ap (λ β. take i (entries κ.form β) ++ (d.entry.new ++ drop (i + 1) (entries κ.form β))) at_parent in
          record {
            node_is = node_is κ m n (suc l) b (take i es) (e ∷ []) d.entry.new (drop (i + 1) es) p.sits.owned c.split is step
                ∙ ap₂ (λ u v. u ++ (map (item κ n.words (suc l)) d.entry.new ++ v)) (sym (take-map g i es)) (sym (drop-map g (i + 1) es))
                ∙ ap (λ z. take i (map g es) ++ (z ++ drop (i + 1) (map g es))) d.entry.items
                ∙ sym ins_is;
            whole = whole_is κ m n (suc l) b (take i es) (e ∷ []) d.entry.new (drop (i + 1) es) p.sits.owned c.split is step (d.entry.level ∙ ap (λ β. β 0) at_parent) d.entry.few d.entry.right p.sits.whole;
            step = step_is κ m n (suc l) b (take i es) (e ∷ []) d.entry.new (drop (i + 1) es) p.sits.owned c.split is step;
            spent = omega (arith, d.spent, grew.spent, room_below);
            marked = λ j. said j
                ∙ ap₂ (λ u v. cond (eqb j l) u v) (d.marked ∙ ap (λ z. cond (over K index_unit l z) Split Nothing) (grew.node_is ∙ ap (ins κ.order index_unit l k h) (sym c.is))) (grew.marked j ∙ ap (ins_mark κ.order index_unit j l k h) (sym c.is))
                ∙ sym (c.routed.ins_mark_is j h);
          }

  -- the same of a node, after its way was read
  module _ (m v : Meaning) (b : Node) (k : K) (w : Way) (high : 0 < b.level) (at : w.parent ≡ b.block) (one : w.child.level ≡ b.level - 1) (p : Roomy κ b k m) (led : Led κ.form κ.order κ.unpacked b.block k m w v) where
    -- the node is the one that its way begins at
    here : b ≡ above w
    here = let up : b.level ≡ suc w.child.level = omega (arith, one) in λ j. record { block = sym at j; level = up j }

    roomy : Roomy κ (above w) k m
    roomy = subst (λ z. Roomy κ z k m) here p

    -- and the child the one that it leads to
    kid : Child κ index_unit m w.child.level w.parent k w
    kid = child κ law index_unit index_units m v w.child.level w.parent k w roomy.sits (subst (λ z. Led κ.form κ.order κ.unpacked z k m w v) (sym at) led)

    pub below_roomy : Roomy κ w.child k v
    below_roomy = subst (Roomy κ w.child k) (sym led.found.same) (child_roomy m w k roomy kid)

    module _ (u : Meaning) (h : ℕ) (marks : Marks) (done : Grew κ w.child k h v marks u) where
      grew : Grew κ w.child k h m marks u
      grew = subst (λ z. Grew κ w.child k h z marks u) led.found.same done

      pub below_kin : Kin m u
      below_kin = kin_step m u _ _ grew.step

      pub below_due : Due κ w k u
      below_due = due m w k roomy kid u h marks grew

      pub below_grew : (n : Meaning) (mark : Mark) (all : Marks) → Settled κ w u mark n → (w.child.level ≤ 4 → (j : ℕ) → mark_at all j ≡ (if eqb j w.child.level then mark else mark_at marks j)) → Grew κ b k h m all n
      below_grew n mark all d said = subst (λ z. Grew κ z k h m all n) (sym here) (grew_on m w k roomy kid u h marks grew n mark all d (said (omega (arith, roomy.low))))
