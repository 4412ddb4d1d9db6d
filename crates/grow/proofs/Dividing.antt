-- A child is split, and its parent's entry gives way to those of the two halves.
use Rattle.std.proofs.Common.{◌≡◌, ℕ, suc, ◌+◌, ◌*◌, ◌<◌, true, eqb, List, [], ◌∷◌, ◌++◌, length, take, drop, sym, refl, ap, ap₂, ◌∙◌, subst, arith}
use Rattle.std.proofs.lemmas.List.{length-append, length-take-le, length-drop, take-append-le, take-take, drop_at}
use Rattle.std.proofs.lemmas.Bool.{eq-eqb, ltb-true, cond-true}
use Rattle.store.specs.Meaning.{Meaning, count, free, with_at, with_block}
use Rattle.store.specs.Calls.{TakeDone}
use Rattle.store.specs.Laws.Changes.{with_at_other}
use Rattle.copies.proofs.Exits.{Kin}
use Rattle.nodes.specs.Places.{Form}
use Rattle.nodes.specs.Nodes.{Entry, Has, Holds, Open, Partable, Parted, Room, entries, insert_at, replace_at}
use Rattle.tree.specs.declared.mark.Mark.TheVariants.{Nothing, Split}
use Rattle.tree.specs.Lists.{joined}
use Rattle.tree.specs.Tree.{index_unit, weight, over, left, right}
use Rattle.tree.proofs.Units.{unit_some}
use Rattle.balance.specs.declared.cut.Halves.{Halves}
use Rattle.balance.specs.declared.way.Way.{Way}
use Rattle.balance.specs.Cuts.{Heavy, Halved}
use Rattle.balance.proofs.Levels.{index_units}
use Rattle.balance.proofs.Weights.{entries_length}
use Rattle.held.specs.Held.{Kind, Lawful, foot, feet, bit, Step}
use Rattle.held.proofs.Feet.{times_append, times_head, step_then, step_wider}
use Rattle.held.proofs.Halving.{HalvesIn, halves_in, heavy_node}
use Rattle.held.proofs.Steps.{bit_true, bit_most, step_block, step_take, taken_free, taken_granted, kin_step, room_step}
use Rattle.grow.specs.Inserts.{TooHeavy, Settled, led}

-- two entries, where the first took the place of the one split
two_entries : (es : List Entry) (i : ℕ) (x y : Entry) → i < length es → replace_at i x (insert_at (i + 1) y es) ≡ take i es ++ ((x ∷ y ∷ []) ++ drop (i + 1) es)
two_entries es i x y h =
    let n = length-take-le (i + 1) es (omega arith) in
    ap₂ (λ p q. p ++ (x ∷ q)) (take-append-le i (take (i + 1) es) (y ∷ drop (i + 1) es) (omega arith) ∙ take-take i (i + 1) es (omega arith)) (drop_at (take (i + 1) es) (y ∷ drop (i + 1) es) (i + 1) n)

module _ {K : Type 0} {φ : Form} {unpacked : List ℕ → K} {b l : ℕ} {m x : Meaning} {h : Halves K} (half : Halved φ unpacked b l m h x) where
  -- after the node was only read
  pub half_here : Halved φ unpacked b l m h m
  half_here = subst (Halved φ unpacked b l m h) half.same half

  pub free_here : count m < m.shape.capacity → count x < x.shape.capacity
  free_here p = subst (λ z. count z < z.shape.capacity) (sym half.same) p

  pub took_here : {t : Meaning} {f : ℕ} → TakeDone x f t → TakeDone m f t
  took_here {t} {f} d = subst (λ z. TakeDone z f t) half.same d

module _ {K : Type 0} (κ : Kind K) (law : Lawful κ) (m : Meaning) (w : Way) (low : K) (due : TooHeavy κ w low m) where
  -- the child weighs too much
  heavy : 8 * index_unit w.child.level < weight K (suc w.child.level) (led κ m w)
  heavy = ltb-true (8 * index_unit w.child.level) (weight K (suc w.child.level) (led κ m w)) due.over

  -- its block is granted, and wide enough
  granted_child : m.granted w.child.block ≡ true
  granted_child = bit_true (m.granted w.child.block) (omega (arith, times_head w.child.block (joined (foot κ m.words w.child.level) (entries κ.form (m.words w.child.block))), due.child.owned w.child.block))

  room_child : Room κ.form w.child.block m
  room_child = record { granted = granted_child; wide = due.child.parent.room.wide }

  -- it can be halved
  pub divide_heavy : Heavy κ.form w.child.block w.child.level m
  divide_heavy =
      heavy_node κ m w.child.level w.child.block due.child.low (record { room = room_child; few = due.child.whole.1 }) due.child.whole
      (omega (arith, heavy)) (omega (arith, due.child.light, unit_some index_unit index_units w.child.level))

  -- a block is free
  pub divide_free : count m < m.shape.capacity
  divide_free = omega (arith, (due.child.room due.over).0)

  -- parent and child are two blocks
  parent_apart : w.parent ≡ w.child.block → ⊥
  parent_apart q = omega (arith, due.child.owned w.child.block, bit_most (m.granted w.child.block), cond-true {A = ℕ} (eqb w.child.block w.parent) 1 0 (eq-eqb w.child.block w.parent (sym q)), times_head w.child.block (joined (foot κ m.words w.child.level) (entries κ.form (m.words w.child.block))))

  -- a block was taken
  module _ (t : Meaning) (f : ℕ) (h : Halves K) (half : Halved κ.form κ.unpacked w.child.block w.child.level m h m) (took : TakeDone m f t) where
    -- another block than both
    parent_fresh : w.parent ≡ f → ⊥
    parent_fresh q = omega (arith, ap bit (sym (ap m.granted q) ∙ due.child.parent.room.granted), ap bit took.was_free)

    child_fresh : w.child.block ≡ f → ⊥
    child_fresh q = omega (arith, ap bit (sym (ap m.granted q) ∙ granted_child), ap bit took.was_free)

    -- which kept their words
    taken_other : (d : ℕ) → (d ≡ f → ⊥) → t.words d ≡ m.words d
    taken_other d ne = ap (λ z. z.words d) took.after ∙ with_at_other m.words f (λ _. 0) d ne

    -- so far it is one step
    first : Step m t [] (f ∷ [])
    first = step_take m t f took

    pub divide_kin : Kin m t
    divide_kin = kin_step m t _ _ first

    -- the child's last entries can move there
    pub divide_partable : Partable κ.form w.child.block f h.kept t
    divide_partable =
        let at : t.words w.child.block 1 ≡ m.words w.child.block 1 = ap (λ β. β 1) (taken_other w.child.block child_fresh) in
        record {
          rooms = record {
            one = room_step κ.form w.child.block m t _ _ first (omega arith) room_child;
            other = record { granted = taken_granted m t f took; wide = omega (arith, room_child.wide, ap (λ z. z.width) first.same_shape) };
          };
          apart = child_fresh;
          upto = omega (arith, half.within, at);
          few = omega (arith, due.child.whole.1, at);
        }

    -- they moved
    module _ (v : Meaning) (part : Parted κ.form w.child.block f h.kept t tt v) where
      -- all other blocks kept their words
      moved_other : (d : ℕ) → (d ≡ w.child.block → ⊥) → (d ≡ f → ⊥) → v.words d ≡ t.words d
      moved_other d n1 n2 =
          ap (λ z. z.words d) part.frame ∙ with_at_other (with_at t.words f (v.words f)) w.child.block (v.words w.child.block) d n1 ∙ with_at_other t.words f (v.words f) d n2

      at_parent : v.words w.parent ≡ m.words w.parent
      at_parent = moved_other w.parent parent_apart parent_fresh ∙ taken_other w.parent parent_fresh

      second : Step m v (w.parent ∷ w.child.block ∷ []) (w.parent ∷ w.child.block ∷ f ∷ [])
      second =
          let x = with_block t f (v.words f) in
          let s1 = step_wider m t _ _ (w.parent ∷ w.child.block ∷ []) (w.parent ∷ w.child.block ∷ f ∷ []) (λ d. omega arith) (λ d. omega arith) first in
          let s2 = step_wider t x _ _ (w.parent ∷ w.child.block ∷ f ∷ []) (w.parent ∷ w.child.block ∷ f ∷ []) (λ d. omega arith) (λ d. omega arith) (step_block t x f (v.words f) refl) in
          let s3 = step_wider x v _ _ (w.parent ∷ w.child.block ∷ f ∷ []) (w.parent ∷ w.child.block ∷ f ∷ []) (λ d. omega arith) (λ d. omega arith) (step_block x v w.child.block (v.words w.child.block) part.frame) in
          step_then m t v _ _ _ s1 (step_then t x v _ _ _ s2 s3)

      pub divide_kin_moved : Kin m v
      divide_kin_moved = kin_step m v _ _ second

      room_parent : Room κ.form w.parent v
      room_parent = room_step κ.form w.parent m v _ _ second (omega arith) due.child.parent.room

      -- the parent has room for one more entry
      pub divide_open : Open κ.form w.parent (w.place + 1) v
      divide_open =
          let at = ap (λ β. β 1) at_parent in
          record { room = room_parent; upto = omega (arith, due.child.within, at); free = omega (arith, (due.child.room due.over).1, at) }

      -- it got one
      module _ (q : Meaning) (e2 : Entry) (put : Holds κ.form w.parent (insert_at (w.place + 1) e2 (entries κ.form (v.words w.parent))) v q) where
        third : Step m q (w.parent ∷ w.child.block ∷ []) (w.parent ∷ w.child.block ∷ f ∷ [])
        third = step_then m v q _ _ _ second (step_wider v q _ _ (w.parent ∷ w.child.block ∷ f ∷ []) (w.parent ∷ w.child.block ∷ f ∷ []) (λ d. omega arith) (λ d. omega arith) (step_block v q w.parent (q.words w.parent) put.frame))

        pub divide_kin_put : Kin m q
        divide_kin_put = kin_step m q _ _ third

        -- so that it has one more
        put_is : entries κ.form (q.words w.parent) ≡ insert_at (w.place + 1) e2 (entries κ.form (m.words w.parent))
        put_is = put.entries_are ∙ ap (λ β. insert_at (w.place + 1) e2 (entries κ.form β)) at_parent

        one_more : q.words w.parent 1 ≡ m.words w.parent 1 + 1
        one_more =
            let es = entries κ.form (m.words w.parent) in
            omega (arith, entries_length κ.form (q.words w.parent), ap length put_is, length-append (take (w.place + 1) es) (e2 ∷ drop (w.place + 1) es), length-take-le (w.place + 1) es (omega (arith, due.child.within, entries_length κ.form (m.words w.parent))), length-drop (w.place + 1) es, entries_length κ.form (m.words w.parent), due.child.within)

        pub divide_has : Has κ.form w.parent w.place q
        divide_has = record {
          room = room_step κ.form w.parent m q _ _ third (omega arith) due.child.parent.room;
          has = omega (arith, one_more, due.child.within);
          few = omega (arith, one_more, (due.child.room due.over).1);
        }

        -- and the first one was corrected
        module _ (n : Meaning) (e1 : Entry) (done : Holds κ.form w.parent (replace_at w.place e1 (entries κ.form (q.words w.parent))) q n)
            (e1_is : e1 ≡ record { weight = h.left; key = κ.packed low; child = w.child.block }) (e2_is : e2 ≡ record { weight = h.right; key = κ.packed h.key; child = f }) where
          all : Step m n (w.parent ∷ w.child.block ∷ []) (w.parent ∷ w.child.block ∷ f ∷ [])
          all = step_then m q n _ _ _ third (step_wider q n _ _ (w.parent ∷ w.child.block ∷ f ∷ []) (w.parent ∷ w.child.block ∷ f ∷ []) (λ d. omega arith) (λ d. omega arith) (step_block q n w.parent (n.words w.parent) done.frame))

          -- the two halves are as they were parted
          keeps : (d : ℕ) → (d ≡ w.parent → ⊥) → n.words d ≡ v.words d
          keeps d ne = ap (λ z. z.words d) done.frame ∙ with_at_other q.words w.parent (n.words w.parent) d ne ∙ ap (λ z. z.words d) put.frame ∙ with_at_other v.words w.parent (q.words w.parent) d ne

          at_child : t.words w.child.block ≡ m.words w.child.block
          at_child = taken_other w.child.block child_fresh

          halves : HalvesIn κ law m.words n.words w.child.level w.child.block f h (entries κ.form (m.words w.child.block))
          halves =
              let ds = entries κ.form (m.words w.child.block) in
              let kc = keeps w.child.block (λ e. parent_apart (sym e)) in
              let kf = keeps f (λ e. parent_fresh (sym e)) in
              halves_in κ law m m m.words n.words w.child.level w.child.block w.child.block f h ds due.child.whole.2 due.child.fits
              (omega (arith, heavy)) (omega (arith, due.child.light, unit_some index_unit index_units w.child.level)) (omega (arith, due.child.whole.1, entries_length κ.form (m.words w.child.block))) refl half
              (ap (entries κ.form) kc ∙ part.entries_from ∙ ap (λ β. take h.kept (entries κ.form β)) at_child)
              (ap (entries κ.form) kf ∙ part.entries_to ∙ ap (λ β. drop h.kept (entries κ.form β)) at_child)
              (ap (λ β. β 0) kc ∙ part.level_from ∙ ap (λ β. β 0) at_child ∙ due.child.whole.0)
              (ap (λ β. β 0) kf ∙ part.level_to ∙ ap (λ β. β 0) at_child ∙ due.child.whole.0)
              (λ d g. all.kept d (omega (arith, due.child.owned d)))

          -- all is done
          pub divided : Settled κ w m Split n
          divided =
              let es = entries κ.form (m.words w.parent) in
              let e1' : Entry = record { weight = h.left; key = κ.packed low; child = w.child.block } in
              let e2' : Entry = record { weight = h.right; key = κ.packed h.key; child = f } in
              let F = foot κ n.words (suc w.child.level) in
              let xs = led κ m w in
              let ys = halves in
              let is : entries κ.form (n.words w.parent) ≡ take w.place es ++ ((e1' ∷ e2' ∷ []) ++ drop (w.place + 1) es) =
              done.entries_are ∙ ap (λ z. replace_at w.place z (entries κ.form (q.words w.parent))) e1_is ∙ ap (replace_at w.place e1') (put_is ∙ ap (λ z. insert_at (w.place + 1) z es) e2_is) ∙ two_entries es w.place e1' e2' (omega (arith, due.child.within, entries_length κ.form (m.words w.parent))) in
              record {
                entry = record {
                  new = e1' ∷ e2' ∷ [];
                  entries_are = is;
                  few = omega (arith, entries_length κ.form (n.words w.parent), ap length is, length-append (take w.place es) ((e1' ∷ e2' ∷ []) ++ drop (w.place + 1) es), length-take-le w.place es (omega (arith, due.child.within, entries_length κ.form (m.words w.parent))), length-drop (w.place + 1) es, entries_length κ.form (m.words w.parent), (due.child.room due.over).1, due.child.within);
                  level = done.level ∙ put.level ∙ ap (λ β. β 0) at_parent;
                  items = ap₂ (λ a b. a ∷ b ∷ []) ys.node_left ys.node_right ∙ sym (cond-true (over K index_unit w.child.level xs) (left K index_unit w.child.level xs ∷ right K index_unit w.child.level xs ∷ []) (xs ∷ []) due.over);
                  right = (
                    (ys.left_weighs, sym (ys.left_starts ∙ due.starts), due.child.number, ys.whole_left.0, ys.whole_left.1, ys.whole_left.2),
                    ((ys.right_weighs, sym ys.right_starts, took.high, ys.whole_right.0, ys.whole_right.1, ys.whole_right.2), tt),
                  );
                  step = step_wider m n _ _ (w.parent ∷ feet κ m.words w.child.level w.child.block) (w.parent ∷ joined F (e1' ∷ e2' ∷ []))
                      (λ d. omega (arith, times_append d (F e1') (F e2' ++ []), times_append d (F e2') [], ys.feet_are d)) (λ d. omega arith) all;
                };
                spent = omega (arith, ap free done.frame, ap free put.frame, ap free part.frame, taken_free m t f took, cond-true {A = ℕ} (over K index_unit w.child.level xs) 1 0 due.over);
                marked = sym (cond-true (over K index_unit w.child.level xs) Split Nothing due.over);
              }
