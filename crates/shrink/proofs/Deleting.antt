-- A whole deletion.
use Rattle.std.proofs.Common.{◌≡◌, ℕ, suc, ◌-◌, Bool, true, false, not, cond, None, Some, Option, is_some, sym, ap, ◌∙◌, subst, arith}
use Rattle.std.specs.List.{AllByRecursion}
use Rattle.store.specs.Meaning.{Meaning}
use Rattle.copies.proofs.Exits.{Kin}
use Rattle.nodes.specs.declared.header.Header.{Header}
use Rattle.plain.specs.Plain.{find}
use Rattle.tree.specs.Lists.{joined}
use Rattle.tree.specs.Tree.{index_unit, weight, drops, Fit, lowered}
use Rattle.tree.proofs.Delete.{Deleted, deleted}
use Rattle.tree.proofs.Flat.{flat_find}
use Rattle.balance.specs.declared.marks.Marks.{Marks}
use Rattle.balance.specs.declared.update.Tree.{Tree}
use Rattle.balance.proofs.Levels.{index_units}
use Rattle.nodes.specs.Nodes.{entries}
use Rattle.held.specs.Held.{Kind, Lawful, node, foot, feet, Owned}
use Rattle.held.specs.Roots.{Stands, Becomes, Tells, pairs_below}
use Rattle.held.proofs.Feet.{times_head, owned_step, step_then}
use Rattle.held.proofs.Steps.{bit_true}
use Rattle.shrink.specs.Deletes.{Holding, Shrank, Topped, Lowered, refusal}

module _ {K : Type 0} (κ : Kind K) (law : Lawful κ) (h : Header) (k : K) (m n : Meaning) (o : Option ℕ) (none : Bool) (some : is_some o ≡ not none) (no : none ≡ false) (s : Stands κ h m) (found : Tells (λ z. find κ.order k (pairs_below κ h.root z)) m o n) where
  present : is_some (find κ.order k (pairs_below κ h.root m)) ≡ true
  present = ap is_some (sym found.value_is) ∙ some ∙ ap not no

  pub accepted : refusal κ h k m ≡ None
  accepted = ap (λ b. cond b None (Some 4)) present

  held : Holding κ h.root k m
  held = record { sits = s.sits; low = s.low; has = ap is_some (flat_find law.ordered index_unit index_units h.root.level k (node κ m.words h.root.level h.root.block) s.sits.kids s.sits.fits s.sits.ascending) ∙ present }

  pub root_holds : Holding κ h.root k n
  root_holds = subst (Holding κ h.root k) (sym found.same) held

  one_less : Deleted κ.order index_unit index_units h.root.level k (node κ m.words h.root.level h.root.block)
  one_less = deleted κ.order index_unit index_units h.root.level k (node κ m.words h.root.level h.root.block) s.sits.kids s.sits.fits held.has

  -- after the tree below the root was rebalanced
  module _ (u : Meaning) (marks : Marks) (shrank : Shrank κ h.root k n marks u) (less : ℕ) (less_is : less ≡ h.keys - 1) where
    done : Shrank κ h.root k m marks u
    done = subst (λ z. Shrank κ h.root k z marks u) found.same shrank

    pub root_kin : Kin m u
    root_kin = record { shape = done.step.same_shape; below = done.step.same_below }

    owned : Owned u (feet κ u.words h.root.level h.root.block)
    owned = owned_step m u (feet κ m.words h.root.level h.root.block) (feet κ u.words h.root.level h.root.block) done.step s.sits.owned

    pub topped : Topped κ (record { root = h.root; keys = less }) u
    topped = record {
      room = record {
        room = record { granted = bit_true (u.granted h.root.block) (omega (arith, owned h.root.block, times_head h.root.block (joined (foot κ u.words h.root.level) (entries κ.form (u.words h.root.block))))); wide = omega (arith, ap (λ z. z.width) done.step.same_shape, s.sits.wide) };
        few = done.whole.1;
      };
      whole = done.whole;
      owned = owned;
      fits = subst (AllByRecursion (Fit K index_unit h.root.level)) (sym done.node_is) one_less.fits;
      keys = omega (arith, less_is, s.keys, one_less.sum, ap (weight K (suc h.root.level)) done.node_is);
      low = s.low;
    }

    pub becomes : (t : Tree) (v : Meaning) → Lowered κ (record { root = h.root; keys = less }) u t v → Becomes κ h (drops k) m (record { tree = t; marks = marks }) v
    becomes t v low = record {
      tree_is = low.tree_is ∙ ap (lowered K h.root.level) done.node_is;
      whole = low.whole;
      step = step_then m u v (feet κ m.words h.root.level h.root.block) (feet κ u.words h.root.level h.root.block) (feet κ v.words t.header.root.level t.header.root.block) done.step low.step;
      keys = low.keys;
      marks = done.marked;
    }
