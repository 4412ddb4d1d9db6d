-- A child's entry is corrected in its parent.
use Rattle.std.proofs.Common.{◌≡◌, ℕ, suc, ◌+◌, ◌*◌, ◌<◌, ◌≤◌, false, [], ◌∷◌, length, take, drop, sym, ap, ◌∙◌, subst, arith}
use Rattle.std.proofs.lemmas.List.{length-append, length-take-le, length-drop}
use Rattle.std.proofs.lemmas.Bool.{lt-ltb, le-ltb, cond-false}
use Rattle.std.specs.Ordering.{ord_min}
use Rattle.store.specs.Meaning.{Meaning}
use Rattle.copies.specs.Blocks.{Word}
use Rattle.nodes.specs.declared.entry.Entry.{Entry as Coded}
use Rattle.nodes.specs.Places.{weight_at}
use Rattle.nodes.specs.Nodes.{Entry, Has, Holds, Weighs, Keyed, entry_at, entry_of, entries, replace_at}
use Rattle.nodes.proofs.Rooms.{room_place}
use Rattle.tree.specs.declared.mark.Mark.TheVariants.{Nothing, Split}
use Rattle.tree.specs.Lists.{joined}
use Rattle.tree.specs.Tree.{index_unit, weight, over, left, right}
use Rattle.balance.specs.declared.way.Way.{Way}
use Rattle.balance.specs.Limits.{limit_of}
use Rattle.balance.proofs.Levels.{limit_unit}
use Rattle.balance.proofs.Weights.{entries_length}
use Rattle.held.specs.Held.{Kind, foot, feet, smallest_words, Whole, times, Step}
use Rattle.held.proofs.Feet.{step_wider}
use Rattle.held.proofs.Frames.{frame_node}
use Rattle.held.proofs.Steps.{step_block}
use Rattle.held.proofs.Child.{times_one}
use Rattle.held.proofs.Wholes.{free_block}
use Rattle.grow.specs.Inserts.{Heavier, Due, TooHeavy, Settled, led}

module _ {K : Type 0} (κ : Kind K) where
  -- an entry of the code, part by part
  pub coded : (e : Coded K) (v c : ℕ) (low : K) → e.weight ≡ v → e.key ≡ low → e.child ≡ c → entry_of κ.packed e ≡ record { weight = v; key = κ.packed low; child = c }
  coded e v c low ew ek ec = λ j. record { weight = ew j; key = κ.packed (ek j); child = ec j }

  module _ (m : Meaning) (w : Way) where
    -- the word of the entry's weight is there
    pub heavier_word : Heavier κ w m → Word w.parent (weight_at w.place) m
    heavier_word d = room_place κ.form w.parent (weight_at w.place) m (omega (arith, d.within, d.parent.few)) d.parent.room

    -- and the entry
    pub heavier_has : Heavier κ w m → Has κ.form w.parent w.place m
    heavier_has d = record { room = d.parent.room; has = d.within; few = d.parent.few }

  module _ (m : Meaning) (w : Way) (k low : K) (v : ℕ) (due : Due κ w k m)
      (ev : v ≡ (entry_at κ.form (m.words w.parent) w.place).weight) (el : low ≡ ord_min κ.order (κ.unpacked (entry_at κ.form (m.words w.parent) w.place).key) k) where
    -- a child whose entry says as much as it may weigh now weighs too much
    pub too_heavy : 8 * index_unit w.child.level ≤ v → TooHeavy κ w low m
    too_heavy h = record {
      child = due.child;
      over = lt-ltb (8 * index_unit w.child.level) (weight K (suc w.child.level) (led κ m w)) (omega (arith, due.weighs, ev));
      starts = due.starts ∙ ap κ.packed (sym el);
    }

    -- one whose entry says less is right with one more and the smaller key
    pub settled_plain : (n : Meaning) (e : Coded K) → v < 8 * index_unit w.child.level → e.weight ≡ v + 1 → e.key ≡ low → e.child ≡ w.child.block →
        Holds κ.form w.parent (replace_at w.place (entry_of κ.packed e) (entries κ.form (m.words w.parent))) m n → Settled κ w m Nothing n
    settled_plain n e light ew ek ec was =
        let p = w.parent in
        let i = w.place in
        let l = w.child.level in
        let c = w.child.block in
        let y = led κ m w in
        let es = entries κ.form (m.words p) in
        let e0 : Entry = record { weight = v + 1; key = κ.packed low; child = c } in
        let done : Holds κ.form p (replace_at i e0 es) m n = subst (λ z. Holds κ.form p (replace_at i z es) m n) (coded e (v + 1) c low ew ek ec) was in
        let one : Step m n (p ∷ []) (p ∷ []) = step_block m n p (n.words p) done.frame in
        let same = frame_node κ m.words n.words l c (λ d g. one.kept d (omega (arith, due.child.owned d))) in
        let weighs : v + 1 ≡ weight K (suc l) y = omega (arith, due.weighs, ev) in
        let starts : κ.packed low ≡ smallest_words κ (suc l) y = ap κ.packed el ∙ sym due.starts in
        let no_over : over K index_unit l y ≡ false = le-ltb (8 * index_unit l) (weight K (suc l) y) (omega arith) in
        let whole : Whole κ n.words l c = same.2 due.child.whole in
        let f = foot κ n.words (suc l) in
        record {
          entry = record {
            new = e0 ∷ [];
            entries_are = done.entries_are;
            few = omega (arith, entries_length κ.form (n.words p), ap length done.entries_are, length-append (take i es) (e0 ∷ drop (i + 1) es), length-take-le i es (omega (arith, due.child.within, entries_length κ.form (m.words p))), length-drop (i + 1) es, entries_length κ.form (m.words p), due.child.parent.few, due.child.within);
            level = done.level;
            items = ap (λ z. z ∷ []) same.0 ∙ sym (cond-false (over K index_unit l y) (left K index_unit l y ∷ right K index_unit l y ∷ []) (y ∷ []) no_over);
            right = ((weighs ∙ ap (weight K (suc l)) (sym same.0), starts ∙ ap (smallest_words κ (suc l)) (sym same.0), due.child.number, whole.0, whole.1, whole.2), tt);
            step = step_wider m n _ _ (p ∷ feet κ m.words l c) (p ∷ joined f (e0 ∷ [])) (λ d. omega (arith, times_one f d e0, ap (times d) same.1)) (λ d. omega arith) one;
          };
          spent = omega (arith, free_block m n p (n.words p) done.frame, cond-false {A = ℕ} (over K index_unit l y) 1 0 no_over);
          marked = sym (cond-false (over K index_unit l y) Split Nothing no_over);
        }

  -- the same after the entry's weight and key were read
  module _ (m u v : Meaning) (w : Way) (k x low : K) (val lim : ℕ) (a : Weighs w.parent w.place m val u) (b : Keyed κ.form κ.unpacked w.parent w.place u x v) (el : low ≡ ord_min κ.order x k) (el' : lim ≡ limit_of w.child.level) (due : Due κ w k m) where
    -- the smaller key is that of the entry and k
    low_is : low ≡ ord_min κ.order (κ.unpacked (entry_at κ.form (m.words w.parent) w.place).key) k
    low_is = el ∙ ap (λ z. ord_min κ.order z k) (b.value ∙ ap (λ z. κ.unpacked (entry_at κ.form (z.words w.parent) w.place).key) a.same)

    -- the limit is the W of its level
    limit_is : lim ≡ 8 * index_unit w.child.level
    limit_is = el' ∙ limit_unit w.child.level due.child.low

    -- where it weighs too much
    pub read_heavy : lim ≤ val → TooHeavy κ w low v
    read_heavy h = subst (TooHeavy κ w low) (sym (b.same ∙ a.same)) (too_heavy m w k low val due (a.value κ.form) low_is (omega (arith, limit_is)))

    -- and where it doesn't
    pub read_plain : (n : Meaning) (e : Coded K) → val < lim → e.weight ≡ val + 1 → e.key ≡ low → e.child ≡ w.child.block →
        Holds κ.form w.parent (replace_at w.place (entry_of κ.packed e) (entries κ.form (v.words w.parent))) v n → Settled κ w m Nothing n
    read_plain n e h ew ek ec done =
        settled_plain m w k low val due (a.value κ.form) low_is n e (omega (arith, limit_is)) ew ek ec
        (subst (λ z. Holds κ.form w.parent (replace_at w.place (entry_of κ.packed e) (entries κ.form (z.words w.parent))) z n) (b.same ∙ a.same) done)

    -- and the child was split
    pub read_split : (n : Meaning) → Settled κ w v Split n → Settled κ w m Split n
    read_split n d = subst (λ z. Settled κ w z Split n) (b.same ∙ a.same) d
