-- A whole insertion: what it makes of the tree below a header.
use Rattle.std.proofs.Common.{◌≡◌, ℕ, suc, ◌+◌, ◌*◌, ◌<◌, ◌≤◌, Bool, true, false, cond, eqb, None, [], ◌∷◌, sym, refl, ap, ap₂, ◌∙◌, ⊎_elim, subst, arith}
use Rattle.std.specs.Bool.{if◌then◌else◌}
use Rattle.std.proofs.lemmas.Bool.{cases_lt, lt-ltb, le-ltb, eqb-true, eq-eqb, cond-true, cond-false}
use Rattle.std.specs.List.{AllByRecursion}
use Rattle.store.specs.Meaning.{Meaning, limit}
use Rattle.nodes.specs.declared.header.Header.{Header}
use Rattle.tree.specs.Tree.{Fit, adds, index_unit, ins, ins_mark, left, right, over, weight}
use Rattle.tree.specs.Counts.{full}
use Rattle.tree.specs.declared.mark.Mark.{Mark}
use Rattle.tree.specs.declared.mark.Mark.TheVariants.{Nothing, Split}
use Rattle.tree.proofs.Units.{unit_some}
use Rattle.tree.proofs.Insert.{Inserted, inserted}
use Rattle.tree.proofs.Levels.{halved}
use Rattle.tree.proofs.Counts.{ins_high}
use Rattle.balance.specs.declared.marks.Marks.{Marks}
use Rattle.balance.specs.declared.update.Updated.{Updated}
use Rattle.balance.specs.Limits.{limit_of}
use Rattle.balance.specs.Marks.{mark_at}
use Rattle.balance.proofs.Levels.{index_units, limit_unit}
use Rattle.held.specs.Held.{Kind, Lawful, node, feet, Whole, Step}
use Rattle.held.specs.Roots.{Stands, Becomes}
use Rattle.held.proofs.Feet.{owned_step, step_then, times_head}
use Rattle.held.proofs.Steps.{bit_most, room_step}
use Rattle.held.proofs.Child.{node_of}
use Rattle.held.proofs.Wholes.{stands_on}
use Rattle.grow.specs.Surveys.{refusal}
use Rattle.grow.specs.Inserts.{Roomy, Grew, Tall, Raised}
use Rattle.grow.proofs.Admitting.{blocks_enough, keys_fewer, taken_up}

-- where a root isn't split, its level has no mark
root_unmarked : (j l : ℕ) (x : Mark) → (l ≤ j → x ≡ Nothing) → x ≡ cond (eqb j l) Nothing x
root_unmarked j l x f = go (eqb j l) refl
  where
    go : (b : Bool) → eqb j l ≡ b → x ≡ cond b Nothing x
    go true e = let q = eqb-true j l e in f (omega arith)
    go false e = refl

-- a root's block number, as its header bounds it
pub number_low : (b : ℕ) → b ≤ 1_048_575 → b ≤ limit
unfolding limit
number_low b h = h

module _ {K : Type 0} (κ : Kind K) (law : Lawful κ) (m : Meaning) (h : Header) (k : K) (s : Stands κ h m) (none : refusal κ h k m ≡ None) where
  -- the store has the blocks for the splits below the root
  insert_roomy : Roomy κ h.root k m
  insert_roomy = record { sits = s.sits; low = s.low; room = omega (arith, blocks_enough κ m h k s none) }

  -- the tree that an insertion leaves keeps the rules
  pub inserted_stands : (handle : ℕ) (r : Updated) (n : Meaning) → Becomes κ h (adds k handle) m r n → Stands κ r.tree.header n
  inserted_stands handle r n b = stands_on κ law h (adds k handle) m r n s (taken_up κ m h k s none handle) b

  -- the same after calls that changed nothing
  pub roomy_at : (v : Meaning) → v ≡ m → Roomy κ h.root k v
  roomy_at v e = subst (Roomy κ h.root k) (sym e) insert_roomy

  pub grew_at : (handle : ℕ) (v u : Meaning) (marks : Marks) → v ≡ m → Grew κ h.root k handle v marks u → Grew κ h.root k handle m marks u
  grew_at handle v u marks e grew = subst (λ z. Grew κ h.root k handle z marks u) e grew

  module _ (handle : ℕ) (u : Meaning) (marks : Marks) (grew : Grew κ h.root k handle m marks u) (lim : ℕ) (lim_is : lim ≡ limit_of h.root.level) where
    -- one pair more
    more : Inserted κ.order index_unit index_units h.root.level k handle (node κ m.words h.root.level h.root.block)
    more = inserted κ.order index_unit index_units h.root.level k handle (node κ m.words h.root.level h.root.block) s.sits.kids s.sits.fits

    weighs : weight K (suc h.root.level) (node κ u.words h.root.level h.root.block) ≡ suc h.keys
    weighs = ap (weight K (suc h.root.level)) grew.node_is ∙ more.sum ∙ ap suc (sym s.keys)

    ins_weighs : weight K (suc h.root.level) (ins κ.order index_unit h.root.level k handle (node κ m.words h.root.level h.root.block)) ≡ suc h.keys
    ins_weighs = more.sum ∙ ap suc (sym s.keys)

    -- the limit is the W of its level
    limit_is : lim ≡ 8 * index_unit h.root.level
    limit_is = lim_is ∙ limit_unit h.root.level s.low

    -- the root isn't too heavy
    pub becomes_low : (r : Updated) → h.keys < lim → r.tree.header.root ≡ h.root → r.tree.header.keys ≡ h.keys + 1 → r.marks ≡ marks → Becomes κ h (adds k handle) m r u
    becomes_low r q root_is keys_is marks_is =
        let l = h.root.level in
        let x = node κ m.words l h.root.block in
        let y = ins κ.order index_unit l k handle x in
        let light : over K index_unit l y ≡ false = le-ltb (8 * index_unit l) (weight K (suc l) y) (omega (arith, ins_weighs, limit_is)) in
        record {
          tree_is = ap (λ z. record { level = z.level; root = node κ u.words z.level z.block }) root_is ∙ ap (λ z. record { level = l; root = z }) grew.node_is
              ∙ sym (cond-false (over K index_unit l y) (record { level = suc l; root = left K index_unit l y ∷ right K index_unit l y ∷ [] }) (record { level = l; root = y }) light);
          whole = subst (λ z. Whole κ u.words z.level z.block) (sym root_is) grew.whole;
          step = subst (λ z. Step m u (feet κ m.words l h.root.block) (feet κ u.words z.level z.block)) (sym root_is) grew.step;
          keys = keys_is ∙ omega (arith, weighs) ∙ ap (λ z. weight K (suc z.level) (node κ u.words z.level z.block)) (sym root_is);
          marks = λ j. ap (λ z. mark_at z j) marks_is ∙ grew.marked j
              ∙ root_unmarked j l (ins_mark κ.order index_unit j l k handle x) (ins_high κ.order index_unit j l k handle x)
              ∙ ap (λ z. cond (eqb j l) z (ins_mark κ.order index_unit j l k handle x)) (sym (cond-false (over K index_unit l y) Split Nothing light));
        }

    -- it is, and there is a level above
    module _ (high : lim ≤ h.keys) where
      -- it was full
      keys_are : h.keys ≡ 8 * index_unit h.root.level
      keys_are = omega (arith, s.keys, s.sits.light, limit_is)

      -- a root at the top isn't full, or the insertion were refused
      pub level_low : h.root.level < 4
      level_low = ⊎_elim (λ (q : h.root.level < 4). q) (λ (q : 4 ≤ h.root.level). let e : h.root.level ≡ 4 = omega (arith, s.low) in absurd (omega (arith, keys_fewer κ m h k s none, keys_are, ap index_unit e))) (cases_lt h.root.level 4)

      -- it can be split
      pub insert_tall : h.root.block ≤ limit → Tall κ h.root h.keys u
      insert_tall number =
          let l = h.root.level in
          let b = h.root.block in
          let x = node κ m.words l b in
          record {
            room = record { room = room_step κ.form b m u _ _ grew.step (omega (arith, s.sits.owned b, bit_most (m.granted b), times_head b [])) (node_of κ index_unit m l b s.sits).room; few = grew.whole.1 };
            number = number;
            whole = grew.whole;
            owned = owned_step m u _ _ grew.step s.sits.owned;
            fits = subst (AllByRecursion (Fit K index_unit l)) (sym grew.node_is) more.fits;
            weighs = weighs;
            full = keys_are;
            low = level_low;
            free = omega (arith, grew.spent, blocks_enough κ m h k s none, cond-true {A = ℕ} (full K index_unit l x) 1 0 (eq-eqb (weight K (suc l) x) (8 * index_unit l) (sym s.keys ∙ keys_are)));
          }

      -- and was
      pub becomes_high : (n : Meaning) (r : Updated) (all : Marks) → Raised κ h.root u r.tree.header.root n → r.tree.header.root.level ≡ h.root.level + 1 → r.tree.header.keys ≡ h.keys + 1 → r.marks ≡ all →
          (h.root.level ≤ 4 → (j : ℕ) → mark_at all j ≡ (if eqb j h.root.level then Split else mark_at marks j)) → Becomes κ h (adds k handle) m r n
      becomes_high n r all rose up keys_is marks_is said =
          let l = h.root.level in
          let top = r.tree.header.root in
          let x = node κ m.words l h.root.block in
          let y = ins κ.order index_unit l k handle x in
          let heavy : over K index_unit l y ≡ true = lt-ltb (8 * index_unit l) (weight K (suc l) y) (omega (arith, ins_weighs, keys_are)) in
          let one : top.level ≡ suc l = omega (arith, up) in
          let halves : node κ n.words (suc l) top.block ≡ left K index_unit l y ∷ right K index_unit l y ∷ [] = rose.node_is ∙ ap (λ z. left K index_unit l z ∷ right K index_unit l z ∷ []) grew.node_is in
          let sums = halved K index_unit index_units l y more.fits (omega (arith, ins_weighs, keys_are)) (omega (arith, ins_weighs, keys_are, unit_some index_unit index_units l)) in
          record {
            tree_is = ap (λ j. record { level = j; root = node κ n.words j top.block }) one ∙ ap (λ z. record { level = suc l; root = z }) halves
                ∙ sym (cond-true (over K index_unit l y) (record { level = suc l; root = left K index_unit l y ∷ right K index_unit l y ∷ [] }) (record { level = l; root = y }) heavy);
            whole = subst (λ j. Whole κ n.words j top.block) (sym one) rose.whole;
            step = subst (λ j. Step m n (feet κ m.words l h.root.block) (feet κ n.words j top.block)) (sym one) (step_then m u n _ _ _ grew.step rose.step);
            keys = keys_is ∙ omega (arith, ap (weight K (suc (suc l))) halves, sums.sum, ins_weighs) ∙ ap (λ j. weight K (suc j) (node κ n.words j top.block)) (sym one);
            marks = λ j. ap (λ z. mark_at z j) marks_is ∙ said s.low j ∙ ap₂ (λ a b. cond (eqb j l) a b) (sym (cond-true (over K index_unit l y) Split Nothing heavy)) (grew.marked j);
          }
