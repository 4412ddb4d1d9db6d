-- A root that weighs too much is split under a new one.
use Rattle.std.proofs.Common.{◌≡◌, ℕ, suc, ◌+◌, ◌*◌, ◌<◌, ◌≤◌, true, List, [], ◌∷◌, ◌++◌, length, get_or, map, take, drop, sym, ap, ◌∙◌, subst, append-nil, arith, lit≤}
use Rattle.std.proofs.lemmas.List.{nil_from_length}
use Rattle.std.proofs.lemmas.Bool.{lt-ltb, cond-true}
use Rattle.std.specs.List.{AllByRecursion}
use Rattle.store.specs.Meaning.{Meaning, count, free, with_at}
use Rattle.store.specs.Calls.{TakeDone, SetDone}
use Rattle.store.specs.Laws.Changes.{with_at_here, with_at_other}
use Rattle.copies.specs.Blocks.{Word}
use Rattle.copies.proofs.Exits.{Kin}
use Rattle.nodes.specs.declared.node.Node.{Node}
use Rattle.nodes.specs.Nodes.{Entry, Holds, Open, Room, entries, entry_at, insert_at}
use Rattle.nodes.proofs.Rooms.{room_place}
use Rattle.tree.specs.declared.mark.Mark.TheVariants.{Split}
use Rattle.tree.specs.Lists.{total, joined}
use Rattle.tree.specs.Tree.{Fit, index_unit, weight, over, left, right}
use Rattle.balance.specs.declared.way.Way.{Way}
use Rattle.balance.proofs.Weights.{entries_length, entries_at}
use Rattle.held.specs.Held.{Kind, Lawful, item, node, foot, feet, smallest_words, Right, Whole, times, Step}
use Rattle.held.proofs.Feet.{step_then, step_wider, owned_step}
use Rattle.held.proofs.Frames.{Agree, frame_node}
use Rattle.held.proofs.Halving.{entry_small}
use Rattle.held.proofs.Steps.{step_block, step_take, taken_blank, taken_free, taken_granted, kin_step, room_step}
use Rattle.held.proofs.Child.{all_at, all_items_at, entries_split, node_length}
use Rattle.grow.specs.Inserts.{TooHeavy, Settled, Tall, Raised}

-- what weighs something has something
some_of : {X : Type 0} (w : X → ℕ) (n : ℕ) (xs : List X) → total w xs ≡ suc n → 0 < length xs
some_of w n [] e = absurd (omega arith)
some_of w n (x ∷ xs) e = omega arith

-- the way from a new root to the old
abbrev pub way_of : ℕ → Node → Way
way_of f b = record { parent = f; place = 0; child = b; within = lit≤ tt }

-- a call after a read that changed nothing
pub free_before : (m u : Meaning) → u ≡ m → count m < m.shape.capacity → count u < u.shape.capacity
free_before m u e h = subst (λ z. count z < z.shape.capacity) (sym e) h

pub took_before : (m u t : Meaning) (f : ℕ) → u ≡ m → TakeDone u f t → TakeDone m f t
took_before m u t f e d = subst (λ z. TakeDone z f t) e d

module _ {K : Type 0} (κ : Kind K) (law : Lawful κ) (wide : 80 ≤ κ.form.places) (m : Meaning) (w : Way) (keys : ℕ) (tall : Tall κ w.child keys m) where
  -- the root has entries
  some : 0 < m.words w.child.block 1
  some = omega (arith, some_of (weight K w.child.level) keys (node κ m.words w.child.level w.child.block) tall.weighs, node_length κ m.words w.child.level w.child.block)

  -- two blocks are free
  pub raise_free : count m < m.shape.capacity
  raise_free = omega (arith, tall.free)

  -- the first entry's key is the smallest
  small_is : (low : K) → low ≡ κ.unpacked (entry_at κ.form (m.words w.child.block) 0).key → smallest_words κ (suc w.child.level) (node κ m.words w.child.level w.child.block) ≡ κ.packed low
  small_is low e =
      let ω = m.words in
      let l = w.child.level in
      let b = w.child.block in
      ap (λ es. smallest_words κ (suc l) (map (item κ ω l) es)) (entries_split κ.form (ω b) 0 some)
      ∙ entry_small κ law ω l (entry_at κ.form (ω b) 0) (all_at (Right κ ω l) κ.form (ω b) 0 some tall.whole.2) (all_items_at κ (Fit K index_unit) ω l b 0 some tall.fits)
      ∙ ap κ.packed (sym e)

  -- a block was taken
  module _ (t : Meaning) (took : TakeDone m w.parent t) where
    -- the new root's block
    fresh : Step m t [] (w.parent ∷ [])
    fresh = step_take m t w.parent took

    room_taken : Room κ.form w.parent t
    room_taken = record { granted = taken_granted m t w.parent took; wide = omega (arith, tall.room.room.wide, ap (λ z. z.width) fresh.same_shape) }

    pub raise_word : Word w.parent 0 t
    raise_word = room_place κ.form w.parent 0 t (omega (arith, wide)) room_taken

    pub raise_kin : Kin m t
    raise_kin = kin_step m t _ _ fresh

    -- its level was set
    module _ (s : Meaning) (level : ℕ) (set : SetDone t w.parent 0 level s) where
      -- so far it is one step
      headed : Step m s [] (w.parent ∷ [])
      headed = step_then m t s _ _ _ fresh (step_block t s w.parent (with_at (t.words w.parent) 0 level) set.after)

      words_are : s.words w.parent ≡ with_at (t.words w.parent) 0 level
      words_are = ap (λ z. z.words w.parent) set.after ∙ with_at_here t.words w.parent (with_at (t.words w.parent) 0 level)

      -- with no entry yet
      no_count : s.words w.parent 1 ≡ 0
      no_count = ap (λ β. β 1) words_are ∙ with_at_other (t.words w.parent) 0 level 1 (omega arith) ∙ taken_blank m t w.parent 1 took

      pub raise_kin_set : Kin m s
      raise_kin_set = kin_step m s _ _ headed

      -- the old root's entry can be put in
      pub raise_open : Open κ.form w.parent 0 s
      raise_open = record { room = room_step κ.form w.parent t s _ _ (step_block t s w.parent (with_at (t.words w.parent) 0 level) set.after) (omega arith) room_taken; upto = omega arith; free = omega (arith, no_count, wide) }

      -- and was
      module _ (q : Meaning) (e : Entry) (low : K) (zero : w.place ≡ 0) (up : level ≡ suc w.child.level) (low_is : low ≡ κ.unpacked (entry_at κ.form (m.words w.child.block) 0).key)
          (e_is : e ≡ record { weight = keys; key = κ.packed low; child = w.child.block }) (put : Holds κ.form w.parent (insert_at 0 e (entries κ.form (s.words w.parent))) s q) where
        base : Step m q [] (w.parent ∷ [])
        base = step_then m s q _ _ _ headed (step_block s q w.parent (q.words w.parent) put.frame)

        -- the new root has the old one for its only child
        one : entries κ.form (q.words w.parent) ≡ e ∷ []
        one = put.entries_are ∙ ap (insert_at 0 e) (nil_from_length (entries κ.form (s.words w.parent)) (entries_length κ.form (s.words w.parent) ∙ no_count))

        one_count : q.words w.parent 1 ≡ 1
        one_count = sym (entries_length κ.form (q.words w.parent)) ∙ ap length one

        level_is : q.words w.parent 0 ≡ suc w.child.level
        level_is = put.level ∙ ap (λ β. β 0) words_are ∙ with_at_here (t.words w.parent) 0 level ∙ up

        -- which is as it was
        agree : Agree κ m.words q.words (feet κ m.words w.child.level w.child.block)
        agree = λ d g. base.kept d (omega (arith, tall.owned d))

        same : (node κ q.words w.child.level w.child.block ≡ node κ m.words w.child.level w.child.block) × (feet κ q.words w.child.level w.child.block ≡ feet κ m.words w.child.level w.child.block) × (Whole κ m.words w.child.level w.child.block → Whole κ q.words w.child.level w.child.block)
        same = frame_node κ m.words q.words w.child.level w.child.block agree

        first : Step m q (feet κ m.words w.child.level w.child.block) (w.parent ∷ feet κ q.words w.child.level w.child.block)
        first = step_wider m q _ _ (feet κ m.words w.child.level w.child.block) (w.parent ∷ feet κ q.words w.child.level w.child.block) (λ d. omega (arith, ap (λ z. times d z) same.1)) (λ d. omega arith) base

        pub raise_kin_put : Kin m q
        raise_kin_put = kin_step m q _ _ first

        -- its weight is one too much
        weighs : weight K (suc w.child.level) (node κ q.words w.child.level w.child.block) ≡ suc (8 * index_unit w.child.level)
        weighs = ap (weight K (suc w.child.level)) same.0 ∙ tall.weighs ∙ ap suc tall.full

        over_is : over K index_unit w.child.level (node κ q.words w.child.level w.child.block) ≡ true
        over_is = lt-ltb (8 * index_unit w.child.level) (weight K (suc w.child.level) (node κ q.words w.child.level w.child.block)) (omega (arith, weighs))

        entry_is : entry_at κ.form (q.words w.parent) w.place ≡ record { weight = keys; key = κ.packed low; child = w.child.block }
        entry_is = ap (entry_at κ.form (q.words w.parent)) zero ∙ sym (entries_at κ.form (q.words w.parent) 0 e (omega (arith, one_count))) ∙ ap (λ es. get_or es 0 e) one ∙ e_is

        free_is : free q + 1 ≡ free m
        free_is = omega (arith, ap free put.frame, ap free set.after, taken_free m t w.parent took)

        -- it is too heavy
        pub raise_heavy : TooHeavy κ w low q
        raise_heavy = record {
          child = record {
            parent = record { room = room_step κ.form w.parent s q _ _ (step_block s q w.parent (q.words w.parent) put.frame) (omega arith) raise_open.room; few = omega (arith, one_count, wide) };
            within = omega (arith, one_count, zero);
            names = ap (λ (z : Entry). z.child) entry_is;
            number = tall.number;
            low = omega (arith, tall.low);
            whole = same.2 tall.whole;
            owned = owned_step m q _ _ first tall.owned;
            fits = subst (AllByRecursion (Fit K index_unit w.child.level)) (sym same.0) tall.fits;
            heavy = omega (arith, weighs);
            light = omega (arith, weighs);
            room = λ o. (omega (arith, free_is, tall.free), omega (arith, one_count, wide));
          };
          over = over_is;
          starts = ap (smallest_words κ (suc w.child.level)) same.0 ∙ small_is low low_is;
        }

        -- and its halves stand under the new root
        pub raised_by : (top : Node) (n : Meaning) → top.block ≡ w.parent → Settled κ w q Split n → Raised κ w.child m top n
        raised_by top n at d =
            let l = w.child.level in
            let f = w.parent in
            let x = node κ q.words l w.child.block in
            let all : entries κ.form (n.words f) ≡ d.entry.new =
            d.entry.entries_are ∙ ap (λ i. take i (entries κ.form (q.words f)) ++ (d.entry.new ++ drop (i + 1) (entries κ.form (q.words f)))) zero ∙ ap (λ es. take 0 es ++ (d.entry.new ++ drop 1 es)) one ∙ append-nil d.entry.new in
            let here : Raised κ w.child m (record { block = w.parent; level = top.level }) n = record {
              node_is = ap (map (item κ n.words (suc l))) all ∙ d.entry.items ∙ cond-true (over K index_unit l x) (left K index_unit l x ∷ right K index_unit l x ∷ []) (x ∷ []) over_is ∙ ap (λ r. left K index_unit l r ∷ right K index_unit l r ∷ []) same.0;
              whole = (d.entry.level ∙ level_is, d.entry.few, subst (AllByRecursion (Right κ n.words (suc l))) (sym all) d.entry.right);
              step = subst (λ es. Step m n (feet κ m.words l w.child.block) (f ∷ joined (foot κ n.words (suc l)) es)) (sym all) (step_then m q n _ _ _ first d.entry.step);
              spent = omega (arith, d.spent, free_is, cond-true {A = ℕ} (over K index_unit l x) 1 0 over_is);
            } in
            subst (λ z. Raised κ w.child m (record { block = z; level = top.level }) n) (sym at) here
