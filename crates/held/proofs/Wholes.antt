-- A tree in blocks keeps the rules, and goes on doing so.
use Rattle.std.proofs.Common.{◌≡◌, ℕ, true, sym, ap, subst, arith}
use Rattle.store.specs.Meaning.{Meaning, free, with_block}
use Rattle.nodes.specs.declared.header.Header.{Header}
use Rattle.tree.specs.Tree.{Update, Rules, index_shape, index_unit}
use Rattle.tree.specs.Runs.{takes_up}
use Rattle.tree.proofs.Runs.{makes}
use Rattle.balance.specs.declared.update.Updated.{Updated}
use Rattle.balance.proofs.Levels.{index_units}
use Rattle.held.specs.Held.{Kind, Lawful}
use Rattle.held.specs.Roots.{Stands, Becomes, tree_of}
use Rattle.held.proofs.Feet.{owned_step}

-- other words in a block leave as many free
pub free_block : (m n : Meaning) (b : ℕ) (β : ℕ → ℕ) → n ≡ with_block m b β → free n ≡ free m
free_block m n b β e = ap free e

-- the tree below a header keeps the rules
pub rules_of : {K : Type 0} (κ : Kind K) (h : Header) (m : Meaning) → Stands κ h m → Rules κ.order index_unit index_shape.top (tree_of κ m.words h)
rules_of κ h m s = record { weighed = record { limit = s.sits.light; two = s.sits.kids; fits = s.sits.fits }; ascending = s.sits.ascending; low = s.low }

-- so it does after an update that the rules accept
pub stands_on : {K : Type 0} (κ : Kind K) (law : Lawful κ) (h : Header) (u : Update K) (m : Meaning) (r : Updated) (n : Meaning) → Stands κ h m → takes_up κ.order index_unit index_shape.top (tree_of κ m.words h) u ≡ true → Becomes κ h u m r n → Stands κ r.tree.header n
stands_on {K} κ law h u m r n s e b =
    let made = makes law.ordered index_unit index_units index_shape.top (tree_of κ m.words h) u (rules_of κ h m s) e in
    let rules : Rules κ.order index_unit index_shape.top (tree_of κ n.words r.tree.header) = subst (Rules κ.order index_unit index_shape.top) (sym b.tree_is) made.rules in
    record {
      sits = record {
        wide = omega (arith, ap (λ z. z.width) b.step.same_shape, s.sits.wide);
        whole = b.whole;
        owned = owned_step m n _ _ b.step s.sits.owned;
        kids = rules.weighed.two;
        fits = rules.weighed.fits;
        light = rules.weighed.limit;
        ascending = rules.ascending;
      };
      keys = b.keys;
      low = rules.low;
    }
