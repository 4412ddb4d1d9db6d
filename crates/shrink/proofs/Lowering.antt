-- A root with one child left gives way to it.
use Rattle.std.proofs.Common.{◌≡◌, ℕ, zero, suc, ◌+◌, ◌-◌, ◌≤◌, Bool, true, false, cond, ◌&&◌, eqb, [], ◌∷◌, map, length, sym, refl, ap, ap₂, ◌∙◌, subst, arith, true≢false}
use Rattle.std.proofs.lemmas.Bool.{both_ways}
use Rattle.std.proofs.lemmas.Grind.{common_steps}
use Rattle.std.proofs.lemmas.List.{drop_all}
use Rattle.std.specs.Ordering.{is_le, is_lt, nat_cmp}
use Rattle.std.specs.List.{AllByRecursion}
use Rattle.store.specs.Meaning.{Meaning, limit}
use Rattle.store.specs.Calls.{GiveDone}
use Rattle.nodes.specs.declared.header.Header.{Header}
use Rattle.nodes.specs.Places.{block_number}
use Rattle.nodes.specs.Nodes.{Entry, LeadsTo, entries, entry_at}
use Rattle.tree.specs.Lists.{joined}
use Rattle.tree.specs.Tree.{Item, index_unit, weight, size, Fit, lowered}
use Rattle.balance.specs.declared.update.Tree.{Tree as Held}
use Rattle.balance.specs.Limits.{limit_of}
use Rattle.balance.proofs.Levels.{limit_unit}
use Rattle.balance.proofs.Weights.{entries_length}
use Rattle.held.specs.Held.{Kind, item, node, foot, feet, Right, Whole, times, Step}
use Rattle.held.specs.Roots.{tree_of}
use Rattle.held.proofs.Child.{entries_split, all_at, block_number_is, node_length}
use Rattle.held.proofs.Feet.{times_append, times_head, step_none, step_wider}
use Rattle.held.proofs.Frames.{frame_node}
use Rattle.held.proofs.Steps.{bit_true, step_give}
use Rattle.shrink.specs.Deletes.{Topped, Lowered}

le_is : (a b : ℕ) → a ≤ b → is_le (nat_cmp a b) ≡ true
le_is a b h = grind (arith, common_steps)

pub limit_is : limit ≡ 1_048_575
unfolding limit
limit_is = refl

-- `contains`, at these bounds
pub in_range : (s e x : ℕ) (spent r : Bool) → r ≡ (is_le (nat_cmp s x) && cond spent (is_lt (nat_cmp x e)) (is_le (nat_cmp x e))) → s ≡ 1 → e ≡ limit → spent ≡ false → 1 ≤ x → x ≤ limit → r ≡ true
in_range s e x true r h p q n low high = absurd (true≢false n)
in_range s e x false r h p q n low high = h ∙ ap₂ ◌&&◌ (le_is s x (omega arith)) (le_is x e (omega arith))

-- no block is 0
not_zero : (m : Meaning) (c : ℕ) → m.granted c ≡ true → m.granted 0 ≡ false → 1 ≤ c
not_zero m zero g n = absurd (both_ways _ n g)
not_zero m (suc c) g n = omega arith

module _ {K : Type 0} (κ : Kind K) where
  -- a root that stays
  stays_leaf : (l : ℕ) (x : Item K (suc l)) → l ≡ 0 → lowered K l x ≡ record { level = l; root = x }
  stays_leaf zero x e = refl
  stays_leaf (suc l) x e = absurd (omega (arith, e))

  stays_more : (l : ℕ) (x : Item K (suc l)) → (length x ≡ 1 → ⊥) → lowered K l x ≡ record { level = l; root = x }
  stays_more zero x h = refl
  stays_more (suc l) [] h = refl
  stays_more (suc l) (c ∷ []) h = absurd (h refl)
  stays_more (suc l) (c ∷ d ∷ cs) h = refl

  stays : (t : Held) (m n : Meaning) → Topped κ t.header m → n ≡ m → lowered K t.header.root.level (node κ m.words t.header.root.level t.header.root.block) ≡ record { level = t.header.root.level; root = node κ m.words t.header.root.level t.header.root.block } → Lowered κ t.header m t n
  stays t m n p e low = rw e (record { tree_is = sym low; whole = p.whole; step = step_none m (feet κ m.words t.header.root.level t.header.root.block); keys = p.keys })

  pub low_leaf : (t : Held) (m n : Meaning) → t.header.root.level ≡ 0 → n ≡ m → Topped κ t.header m → Lowered κ t.header m t n
  low_leaf t m n z e p = stays t m n p e (stays_leaf t.header.root.level (node κ m.words t.header.root.level t.header.root.block) z)

  pub low_more : (t : Held) (m n : Meaning) (c : ℕ) → c ≡ m.words t.header.root.block 1 → (c ≡ 1 → ⊥) → n ≡ m → Topped κ t.header m → Lowered κ t.header m t n
  low_more t m n c e one same p = stays t m n p same (stays_more t.header.root.level (node κ m.words t.header.root.level t.header.root.block) (λ q. one (e ∙ sym (node_length κ m.words t.header.root.level t.header.root.block) ∙ q)))

  -- an inner root with one entry
  module _ (h : Header) (m : Meaning) (inner : h.root.level ≡ 0 → ⊥) (one : m.words h.root.block 1 ≡ 1) (t : Topped κ h m) where
    abbrev l : ℕ
    l = h.root.level - 1

    abbrev b : ℕ
    b = h.root.block

    up : h.root.level ≡ suc (h.root.level - 1)
    up = omega (arith, inner)

    lifted : Topped κ (record { root = record { block = h.root.block; level = suc (h.root.level - 1) }; keys = h.keys }) m
    lifted = subst (λ z. Topped κ (record { root = record { block = h.root.block; level = z }; keys = h.keys }) m) up t

    abbrev e : Entry
    e = entry_at κ.form (m.words h.root.block) 0

    alone : entries κ.form (m.words b) ≡ e ∷ []
    alone = entries_split κ.form (m.words b) 0 (omega (arith, one)) ∙ ap (λ z. e ∷ z) (drop_all 1 (entries κ.form (m.words b)) (omega (arith, entries_length κ.form (m.words b), one)))

    right : Right κ m.words (suc l) e
    right = all_at (Right κ m.words (suc l)) κ.form (m.words b) 0 (omega (arith, one)) lifted.whole.2

    only : node κ m.words (suc l) b ≡ node κ m.words l e.child ∷ []
    only = ap (map (item κ m.words (suc l))) alone

    parts : (c : ℕ) → times c (feet κ m.words (suc l) b) ≡ cond (eqb c b) 1 0 + times c (feet κ m.words l e.child)
    parts c = let f = foot κ m.words (suc l) in omega (arith, ap (λ z. times c (joined f z)) alone, times_append c (f e) [])

    fit : Fit K index_unit (suc l) (node κ m.words l e.child)
    fit = (subst (AllByRecursion (Fit K index_unit (suc l))) only lifted.fits).0

    pub one_high : e.child ≤ limit
    one_high = right.2

    pub one_low : m.granted 0 ≡ false → 1 ≤ e.child
    one_low n = not_zero m e.child (bit_true (m.granted e.child) (omega (arith, lifted.owned e.child, parts e.child, times_head e.child (joined (foot κ m.words l) (entries κ.form (m.words e.child)))))) n

    weighs : h.keys ≡ weight K (suc l) (node κ m.words l e.child)
    weighs = lifted.keys ∙ omega (arith, ap (weight K (suc (suc l))) only)

    pub one_few : h.keys ≤ limit_of (h.root.level - 1)
    one_few = omega (arith, weighs, fit.1, limit_unit (h.root.level - 1) (omega (arith, t.low)))

    pub gives_way : (r : Held) (n : Meaning) → r.header ≡ record { root = record { block = (entry_at κ.form (m.words h.root.block) 0).child; level = h.root.level - 1 }; keys = h.keys } → GiveDone m h.root.block n → Lowered κ h m r n
    gives_way r n is back =
        let c = e.child in
        let give = step_give m n b back in
        let kid = frame_node κ m.words n.words l c (λ d g. give.kept d (omega (arith, lifted.owned d, parts d))) in
        let new : Header = record { root = record { block = c; level = h.root.level - 1 }; keys = h.keys } in
        let low : lowered K h.root.level (node κ m.words h.root.level b) ≡ record { level = l; root = node κ m.words l c } = (λ z. lowered K (up z) (node κ m.words (up z) b)) ∙ ap (lowered K (suc l)) only in
        let tree : tree_of κ n.words new ≡ lowered K h.root.level (node κ m.words h.root.level b) = (λ z. record { level = l; root = kid.0 z }) ∙ sym low in
        let whole : Whole κ n.words l c = kid.2 (right.3, right.4, right.5) in
        let step : Step m n (feet κ m.words h.root.level b) (feet κ n.words l c) = subst (λ z. Step m n (feet κ m.words z b) (feet κ n.words l c)) (sym up)
        (step_wider m n (b ∷ []) [] (feet κ m.words (suc l) b) (feet κ n.words l c) (λ d. omega (arith, parts d, ap (times d) kid.1)) (λ d. omega (arith, parts d)) give) in
        record {
          tree_is = ap (tree_of κ n.words) is ∙ tree;
          whole = subst (λ z. Whole κ n.words z.root.level z.root.block) (sym is) whole;
          step = subst (λ z. Step m n (feet κ m.words h.root.level b) (feet κ n.words z.root.level z.root.block)) (sym is) step;
          keys = ap (λ z. z.keys) is ∙ weighs ∙ ap (weight K (suc l)) (sym kid.0) ∙ ap (λ z. size K (tree_of κ n.words z)) (sym is);
        }

    -- the block that was read, and the one given back
    pub one_block : (u v : Meaning) (c : ℕ) → u ≡ m → LeadsTo κ.form h.root.block 0 u c v → c ≡ (entry_at κ.form (m.words h.root.block) 0).child
    one_block u v c e f = f.value ∙ ap (λ z. block_number (entry_at κ.form (z.words b) 0).child) e ∙ block_number_is (entry_at κ.form (m.words h.root.block) 0).child right.2

    pub way_given : (u v n : Meaning) (c : ℕ) (r : Held) → u ≡ m → LeadsTo κ.form h.root.block 0 u c v → r.header ≡ record { root = record { block = c; level = h.root.level - 1 }; keys = h.keys } → GiveDone v h.root.block n → Lowered κ h m r n
    way_given u v n c r e f is back =
        gives_way r n (is ∙ ap (λ z. record { root = record { block = z; level = h.root.level - 1 }; keys = h.keys }) (one_block u v c e f)) (subst (λ z. GiveDone z h.root.block n) (f.same ∙ e) back)
