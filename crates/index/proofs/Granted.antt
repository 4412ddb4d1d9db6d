-- The blocks granted where blocks hold a tree, counted by the nodes.
use Rattle.std.proofs.Common.{◌≡◌, ◌≢◌, ℕ, zero, suc, ◌+◌, ◌*◌, ◌<◌, ◌≤◌, Bool, true, ◌==◌, List, [], ◌∷◌, map, length, sym, refl, ap, ap₂, ◌∙◌, subst, ⊎_elim, arith}
use Rattle.std.proofs.lemmas.Bool.{both_ways, cases_eq, cases_lt, lt-leb, lt-ltb, eq-eqb, ne_eqb, cond-true, cond-false}
use Rattle.std.proofs.lemmas.List.{length-append}
use Rattle.store.specs.Meaning.{Meaning, Sound, limit, count, count_to, free}
use Rattle.store.specs.Laws.Counts.{count_none, count_suc}
use Rattle.nodes.specs.Nodes.{Entry, entries}
use Rattle.nodes.specs.declared.header.Header.{Header}
use Rattle.tree.specs.Lists.{joined, total}
use Rattle.tree.specs.Tree.{Item, Tree, Rules, index_shape, index_unit, weight, size, content}
use Rattle.tree.specs.Counts.{nodes, blocks, full, taken}
use Rattle.tree.proofs.Flat.{count_pairs}
use Rattle.tree.proofs.Counts.{takes_right}
use Rattle.balance.proofs.Levels.{index_units}
use Rattle.held.specs.Held.{Kind, item, foot, feet, times, bit}
use Rattle.held.proofs.Feet.{times_head}
use Rattle.held.proofs.Steps.{bit_true}
use Rattle.held.proofs.Wholes.{rules_of}
use Rattle.index.specs.Holds.{HoldsTree}
use Rattle.index.specs.Open.{Open}
use Rattle.index.specs.Laws.{TwoToFour}
use Rattle.index.proofs.Updates.{times_here}
use Rattle.index.specs.declared.index.Index.{Index}

-- how often the numbers 1 to n occur, together
abbrev occurs : ℕ → List ℕ → ℕ
occurs zero F = 0
occurs (suc n) F = times (suc n) F + occurs n F

times_other : (c d : ℕ) (ds : List ℕ) → c ≢ d → times c (d ∷ ds) ≡ times c ds
times_other c d ds ne = omega (arith, cond-false {A = ℕ} (c == d) 1 0 (ne_eqb c d ne))

times_more : (c d : ℕ) (ds : List ℕ) → times c ds ≤ times c (d ∷ ds)
times_more c d ds = omega arith

occurs_none : (n : ℕ) → occurs n [] ≡ 0
occurs_none zero = refl
occurs_none (suc n) = omega (arith, occurs_none n)

-- a number past n in front
occurs_past : (n d : ℕ) (ds : List ℕ) → n < d → occurs n (d ∷ ds) ≡ occurs n ds
occurs_past zero d ds l = refl
occurs_past (suc n) d ds l = ap₂ (λ x y. x + y) (times_other (suc n) d ds (λ q. absurd (omega (arith, q)))) (occurs_past n d ds (omega arith))

-- one of 1 to n in front
occurs_more : (n d : ℕ) (ds : List ℕ) → 1 ≤ d → d ≤ n → occurs n (d ∷ ds) ≡ 1 + occurs n ds
occurs_more zero d ds l h = absurd (omega arith)
occurs_more (suc n) d ds l h =
    ⊎_elim
    (λ (q : suc n ≡ d). omega (arith, subst (λ c. times c (d ∷ ds) ≡ 1 + times c ds) (sym q) (times_here d ds), occurs_past n d ds (omega arith)))
    (λ (ne : suc n ≢ d). omega (arith, times_other (suc n) d ds ne, occurs_more n d ds l (omega arith)))
    (cases_eq (suc n) d)

-- where all are of 1 to n, they occur as often as they are many
occurs_all : (n : ℕ) (F : List ℕ) → ((c : ℕ) → 1 ≤ times c F → (1 ≤ c) × (c ≤ n)) → occurs n F ≡ length F
occurs_all n [] h = occurs_none n
occurs_all n (d ∷ ds) h =
    let here = h d (times_head d ds) in
    omega (arith, occurs_more n d ds here.0 here.1, occurs_all n ds (λ c l. h c (omega (arith, l, times_more c d ds))))

-- grants that agree with how often each number occurs
counted : (g : ℕ → Bool) (F : List ℕ) (n : ℕ) → ((c : ℕ) → times c F ≡ bit (g c)) → count_to g n ≡ occurs n F
counted g F zero e = count_none g
counted g F (suc n) e = omega (arith, count_suc g n, e (suc n), counted g F n e)

-- the blocks of entries are as many as the nodes of their items
footed : {K : Type 0} (κ : Kind K) (ω : ℕ → ℕ → ℕ) (l : ℕ) (es : List Entry) → length (joined (foot κ ω l) es) ≡ total (nodes K l) (map (item κ ω l) es)
footed κ ω l [] = refl
footed κ ω zero (e ∷ es) = omega (arith, footed κ ω zero es)
footed κ ω (suc l) (e ∷ es) =
    omega (arith, length-append (foot κ ω (suc l) e) (joined (foot κ ω (suc l)) es), footed κ ω l (entries κ.form (ω e.child)), footed κ ω (suc l) es)

-- no number is granted but those from 1 to the largest
in_range : (m : Meaning) (c : ℕ) → Sound m → m.granted c ≡ true → (1 ≤ c) × (c ≤ limit)
in_range m zero law e = absurd (both_ways (m.granted 0) law.none_at_zero e)
in_range m (suc c) law e =
    (omega arith, ⊎_elim (λ (h : limit < suc c). absurd (both_ways (m.granted (suc c)) (law.none_past (suc c) h) e)) (λ (h : suc c ≤ limit). h) (cases_lt limit (suc c)))

-- the blocks granted are the header's and the nodes'
pub granted_nodes : {K : Type 0} (κ : Kind K) (b : ℕ) (h : Header) (t : Tree K) (m : Meaning) → Sound m → HoldsTree κ b h t m → count m ≡ blocks K t
granted_nodes {K} κ b h t m law holds =
    let F = b ∷ feet κ m.words h.root.level h.root.block in
    let all = occurs_all limit F (λ c l. in_range m c law (bit_true (m.granted c) (omega (arith, l, holds.exact c)))) in
    omega (arith, counted m.granted F limit holds.exact, all, footed κ m.words h.root.level (entries κ.form (m.words h.root.block)), ap (blocks K) holds.tree_is)

-- a pair is no node
no_nodes : (K : Type 0) (xs : Item K 1) → total (nodes K 0) xs ≡ 0
no_nodes K [] = refl
no_nodes K (x ∷ xs) = omega (arith, no_nodes K xs)

-- a leaf is one
leaf_alone : (K : Type 0) (l : ℕ) (x : Item K (suc l)) → l ≡ 0 → nodes K (suc l) x ≡ 1
leaf_alone K zero x e = ap suc (no_nodes K x)
leaf_alone K (suc l) x e = absurd (omega (arith, e))

-- the leaf and a new root
leaf_takes : {K : Type 0} (κ : Kind K) (l : ℕ) (k : K) (x : Item K (suc l)) → l ≡ 0 → weight K (suc l) x ≡ 64 → taken κ.order index_unit k (record { level = l; root = x }) ≡ 2
leaf_takes {K} κ zero k x e w = omega (arith, cond-true {A = ℕ} (full K index_unit 0 x) 1 0 (eq-eqb (weight K 1 x) 64 w))
leaf_takes κ (suc l) k x e w = absurd (omega (arith, e))

module _ {K S : Type 0} (κ : Kind K) (meaning : S → Meaning) (ready : S → Type 0) (sound : (s : S) → ready s → Sound (meaning s)) where
  -- the same of an open index
  pub granted_open : (i : Index K S) (t : Tree K) → Open κ meaning ready i t → count (meaning i.store) ≡ blocks K t
  granted_open i t o = granted_nodes κ i.header i.tree.header t (meaning i.store) (sound i.store o.is_ready) o.holds

  -- a full leaf root
  pub full_leaf : (i : Index K S) (t : Tree K) → Open κ meaning ready i t → t.level ≡ 0 → size K t ≡ 64 → TwoToFour κ meaning ready i t
  full_leaf i t o low most =
      let rules = subst (Rules κ.order index_unit index_shape.top) o.holds.tree_is (rules_of κ i.tree.header (meaning i.store) o.holds.stands) in
      let one : nodes K (suc t.level) t.root ≡ 1 = leaf_alone K t.level t.root low in
      let two : (k : K) → taken κ.order index_unit k t ≡ 2 = λ k. leaf_takes κ t.level k t.root low most in
      let few : length (content K t) ≡ 64 = count_pairs K (suc t.level) t.root ∙ most in
      record {
        two = granted_open i t o ∙ ap suc one;
        four = λ k h marks j a. omega (arith, granted_open j _ a.holds_new, takes_right κ.order index_unit index_units t k h rules.weighed, one, two k);
        six = λ k h absent free_one.
            let fits = lt-leb (8 * index_unit 4) (length (content K t)) (omega (arith, few)) in
            let short = lt-ltb (free (meaning i.store)) (taken κ.order index_unit k t) (omega (arith, free_one, two k)) in
            rw absent (rw fits (rw short refl));
      }
