-- What the way of a key shows, one level after the other.
use Rattle.std.proofs.Common.{◌≡◌, ℕ, suc, ◌+◌, ◌-◌, ◌<◌, ◌≤◌, Bool, true, false, cond, eqb, None, Some, Option, is_some, sym, refl, ap, ap₂, ◌∙◌, subst, arith, unwrap_or, true≢false}
use Rattle.std.specs.Int.{from_bool}
use Rattle.store.specs.Meaning.{Meaning}
use Rattle.nodes.specs.declared.node.Node.{Node}
use Rattle.copies.specs.Blocks.{Word}
use Rattle.nodes.specs.Places.{weight_at}
use Rattle.nodes.specs.Nodes.{Weighs, Room, entry_at}
use Rattle.nodes.proofs.Rooms.{room_place}
use Rattle.plain.specs.Plain.{find, present}
use Rattle.tree.specs.Tree.{index_unit, weight}
use Rattle.tree.specs.Counts.{full, full_below}
use Rattle.tree.specs.Queries.{find_down}
use Rattle.tree.proofs.Flat.{flat_find}
use Rattle.balance.specs.declared.way.Way.{Way}
use Rattle.balance.specs.Limits.{limit_of}
use Rattle.balance.specs.Ways.{Led, Peopled}
use Rattle.balance.proofs.Levels.{index_units, limit_unit}
use Rattle.held.specs.Held.{Kind, Lawful, node, Sits}
use Rattle.held.specs.Roots.{pairs_in, Rooted, Tells}
use Rattle.held.proofs.Child.{Child, child, peopled, node_of}
use Rattle.grow.specs.Surveys.{surveyed, Lowly}

-- a test as a number
pub one_for : (b : Bool) → from_bool b ≡ cond b 1 0
one_for true = refl
one_for false = refl

-- what an answer of none, or of some, tells of the test
pub none_or : (b : Bool) (n : ℕ) → None ≡ cond b None (Some n) → b ≡ true
none_or true n e = refl
none_or false n e = absurd (true≢false (ap is_some (sym e)))

pub some_or : (b : Bool) (n f : ℕ) → Some f ≡ cond b None (Some n) → (b ≡ false) × (f ≡ n)
some_or true n f e = absurd (true≢false (ap is_some e))
some_or false n f e = (refl, ap (λ z. unwrap_or z 0) e)

module _ {K : Type 0} (κ : Kind K) (law : Lawful κ) where
  -- a key is in a tree where going down finds it
  pub find_whole : (m : Meaning) (l b : ℕ) (k : K) → Sits κ index_unit m l b → find_down κ.order l k (node κ m.words l b) ≡ find κ.order k (pairs_in κ m.words l b)
  find_whole m l b k s = flat_find law.ordered index_unit index_units l k (node κ m.words l b) s.kids s.fits s.ascending

  module _ (m : Meaning) (l b : ℕ) (k : K) (w : Way) (s : Sits κ index_unit m (suc l) b) (c : Child κ index_unit m l b k w) where
    -- the child has the key where the node does
    present_is : present κ.order k (pairs_in κ m.words (suc l) b) ≡ present κ.order k (pairs_in κ m.words l w.child.block)
    present_is = ap is_some (sym (find_whole m (suc l) b k s) ∙ c.routed.find_is ∙ ap (find_down κ.order l k) c.is ∙ find_whole m l w.child.block k c.sits)

    -- and the full nodes below the node are those below the child, and the child itself if it is full
    full_is : full_below κ.order index_unit (suc l) k (node κ m.words (suc l) b) ≡ cond (full K index_unit l (node κ m.words l w.child.block)) 1 0 + full_below κ.order index_unit l k (node κ m.words l w.child.block)
    full_is = c.routed.full_is ∙ ap (λ y. cond (full K index_unit l y) 1 0 + full_below κ.order index_unit l k y) c.is

    -- the key is there
    pub on_none : None ≡ surveyed κ (record { block = w.child.block; level = l }) k m → None ≡ surveyed κ (record { block = b; level = suc l }) k m
    on_none e = let t = none_or _ _ e in sym (ap (λ z. cond z None (Some (full_below κ.order index_unit (suc l) k (node κ m.words (suc l) b)))) (present_is ∙ t))

    -- it is not, and the child may be full
    pub on_some : (full' x one : ℕ) → l ≤ 4 → x ≡ weight K (suc l) (node κ m.words l w.child.block) → one ≡ cond (eqb x (limit_of l)) 1 0 → Some full' ≡ surveyed κ (record { block = w.child.block; level = l }) k m → Some (full' + one) ≡ surveyed κ (record { block = b; level = suc l }) k m
    on_some full' x one low ew eo e =
        let t = some_or _ _ _ e in
        let one_is : one ≡ cond (full K index_unit l (node κ m.words l w.child.block)) 1 0 = eo ∙ ap₂ (λ u v. cond (eqb u v) 1 0) ew (limit_unit l low) in
        let sum : full' + one ≡ full_below κ.order index_unit (suc l) k (node κ m.words (suc l) b) = omega (arith, t.1, one_is, full_is) in
        ap Some sum ∙ sym (ap (λ z. cond z None (Some (full_below κ.order index_unit (suc l) k (node κ m.words (suc l) b)))) (present_is ∙ t.0))

module _ {K : Type 0} (κ : Kind K) (law : Lawful κ) where
  -- a node above the leaves, named by the level below
  raise_level : (m : Meaning) (b : Node) → 0 < b.level → Lowly κ b m → Lowly κ (record { block = b.block; level = suc (b.level - 1) }) m
  raise_level m b h p = let more : b.level ≡ suc (b.level - 1) = omega arith in subst (λ j. Lowly κ (record { block = b.block; level = j }) m) more p

  -- it has a child
  pub lowly_peopled : (m : Meaning) (b : Node) → 0 < b.level → Lowly κ b m → Peopled κ.form b.block m
  lowly_peopled m b h p = peopled κ index_unit m (b.level - 1) b.block (raise_level m b h p).sits

  -- the one that the way leads to
  pub lowly_child : (m n : Meaning) (b : Node) (k : K) (w : Way) → 0 < b.level → Lowly κ b m → Led κ.form κ.order κ.unpacked b.block k m w n → Child κ index_unit m (b.level - 1) b.block k w
  lowly_child m n b k w h p led = child κ law index_unit index_units m n (b.level - 1) b.block k w (raise_level m b h p).sits led

  -- which keeps the rules as well
  pub child_lowly : (m n u : Meaning) (b : Node) (k : K) (w : Way) → 0 < b.level → w.child.level ≡ b.level - 1 → Lowly κ b m → Led κ.form κ.order κ.unpacked b.block k m w n → u ≡ n → Lowly κ w.child u
  child_lowly m n u b k w h one p led e =
      let c = lowly_child m n b k w h p led in
      let at : Lowly κ w.child m = record { sits = subst (λ j. Rooted κ (record { block = w.child.block; level = j }) m) (sym one) c.sits; low = omega (arith, p.low) } in
      subst (Lowly κ w.child) (sym (e ∙ led.found.same)) at

  -- the word of its weight is there
  pub weight_word : (m n : Meaning) (b : Node) (k : K) (w : Way) → 0 < b.level → w.parent ≡ b.block → Lowly κ b m → Led κ.form κ.order κ.unpacked b.block k m w n → Word w.parent (weight_at w.place) n
  weight_word m n b k w h at p led =
      let c = lowly_child m n b k w h p led in
      let r : Room κ.form b.block m = (node_of κ index_unit m (suc (b.level - 1)) b.block (raise_level m b h p).sits).room in
      subst (λ z. Word z (weight_at w.place) n) (sym at) (room_place κ.form b.block (weight_at w.place) n (omega (arith, c.within, (raise_level m b h p).sits.whole.1)) (subst (Room κ.form b.block) (sym led.found.same) r))

  -- what the child tells is what the node tells
  pub told_none : (m n u v : Meaning) (b : Node) (k : K) (w : Way) (x : ℕ) → 0 < b.level → w.parent ≡ b.block → w.child.level ≡ b.level - 1 → Lowly κ b m → Led κ.form κ.order κ.unpacked b.block k m w n → Weighs w.parent w.place n x u →
      (o : Option ℕ) → o ≡ None → (Lowly κ w.child u → Tells (surveyed κ w.child k) u o v) → Tells (surveyed κ b k) m None v
  told_none m n u v b k w x h at one p led weighs o eo below =
      let more : b.level ≡ suc (b.level - 1) = omega arith in
      let back : u ≡ m = weighs.same ∙ led.found.same in
      let d = below (child_lowly m n u b k w h one p led weighs.same) in
      let e : None ≡ surveyed κ (record { block = w.child.block; level = b.level - 1 }) k m = subst (λ j. None ≡ surveyed κ (record { block = w.child.block; level = j }) k m) one (sym eo ∙ d.value_is ∙ ap (surveyed κ w.child k) back) in
      record {
        value_is = subst (λ j. None ≡ surveyed κ (record { block = b.block; level = j }) k m) (sym more) (on_none κ law m (b.level - 1) b.block k w (raise_level m b h p).sits (lowly_child m n b k w h p led) e);
        same = d.same ∙ back;
      }

  pub told_some : (m n u v : Meaning) (b : Node) (k : K) (w : Way) (x f y : ℕ) → 0 < b.level → w.parent ≡ b.block → w.child.level ≡ b.level - 1 → Lowly κ b m → Led κ.form κ.order κ.unpacked b.block k m w n → Weighs w.parent w.place n x u →
      y ≡ cond (eqb x (limit_of w.child.level)) 1 0 → (o : Option ℕ) → o ≡ Some f → (Lowly κ w.child u → Tells (surveyed κ w.child k) u o v) → Tells (surveyed κ b k) m (Some (f + y)) v
  told_some m n u v b k w x f y h at one p led weighs ey o eo below =
      let more : b.level ≡ suc (b.level - 1) = omega arith in
      let back : u ≡ m = weighs.same ∙ led.found.same in
      let c = lowly_child m n b k w h p led in
      let d = below (child_lowly m n u b k w h one p led weighs.same) in
      let e : Some f ≡ surveyed κ (record { block = w.child.block; level = b.level - 1 }) k m = subst (λ j. Some f ≡ surveyed κ (record { block = w.child.block; level = j }) k m) one (sym eo ∙ d.value_is ∙ ap (surveyed κ w.child k) back) in
      let ew : x ≡ weight K (suc (b.level - 1)) (node κ m.words (b.level - 1) w.child.block) =
      weighs.value κ.form ∙ ap₂ (λ z q. (entry_at κ.form (z.words q) w.place).weight) led.found.same at ∙ c.right.0 ∙ ap (λ z. weight K (suc (b.level - 1)) (node κ m.words (b.level - 1) z)) (sym c.names) in
      record {
        value_is = subst (λ j. Some (f + y) ≡ surveyed κ (record { block = b.block; level = j }) k m) (sym more)
            (on_some κ law m (b.level - 1) b.block k w (raise_level m b h p).sits c f x y (omega (arith, p.low)) ew (ey ∙ ap (λ z. cond (eqb x (limit_of z)) 1 0) one) e);
        same = d.same ∙ back;
      }
