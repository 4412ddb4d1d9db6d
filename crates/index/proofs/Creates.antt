-- An empty index laid out in a store.
use Rattle.std.proofs.Common.{◌≡◌, ◌≢◌, ℕ, zero, suc, ◌+◌, ◌-◌, ◌<◌, ◌≤◌, ◌&&◌, nat_le, nat_lt, Bool, true, false, cond, ◌==◌, Some, None, List, [], ◌∷◌, map, get_or, sym, ap, ◌∙◌, subst, ⊎_elim, arith}
use Rattle.std.specs.List.{AllByRecursion}
use Rattle.std.proofs.lemmas.Bool.{both_ways, cases_Bool, cases_lt, and_from, le-leb, lt-ltb, le-ltb, eq-eqb, cond-true, cond-false}
use Rattle.store.specs.Meaning.{Meaning, Sound, limit, count, count_to, free}
use Rattle.store.specs.Calls.{TakeDone}
use Rattle.store.specs.Laws.Counts.{count_suc}
use Rattle.store.specs.Laws.Changes.{with_at_other}
use Rattle.copies.specs.Blocks.{edit, splice, filled}
use Rattle.copies.proofs.Exits.{Kin}
use Rattle.copies.proofs.Edits.{edit_here, edit_other, edit_granted, edit_frame}
use Rattle.nodes.specs.declared.header.Header.{Header}
use Rattle.nodes.specs.Headers.{Headroom, header_words}
use Rattle.nodes.specs.Nodes.{entries, entry_at, upto}
use Rattle.nodes.specs.Places.{Form, breadth}
use Rattle.plain.specs.Plain.{Sorted}
use Rattle.tree.specs.Lists.{joined}
use Rattle.tree.specs.Tree.{empty, index_unit, weight, pairs, Fit}
use Rattle.held.specs.Held.{Kind, item, node, Right, foot, feet, times, bit}
use Rattle.held.proofs.Steps.{step_take, step_block, taken_blank, taken_granted, taken_free}
use Rattle.index.specs.Holds.{HoldsTree}
use Rattle.index.specs.Created.{refuses_create}

-- where none is counted, none up to there is granted
none_to : (g : ℕ → Bool) (n c : ℕ) → count_to g n ≡ 0 → 1 ≤ c → c ≤ n → g c ≡ false
none_to g zero c e l h = absurd (omega arith)
none_to g (suc n) c e l h =
    let s = count_suc g n in
    ⊎_elim
    (λ (t : g (suc n) ≡ true). let o : bit (g (suc n)) ≡ 1 = ap bit t in absurd (omega (arith, s, o, e)))
    (λ (f : g (suc n) ≡ false).
    let z : bit (g (suc n)) ≡ 0 = ap bit f in
    ⊎_elim
    (λ (i : c < suc n). none_to g n c (omega (arith, s, z, e)) l (omega arith))
    (λ (i : suc n ≤ c). let same : suc n ≡ c = omega arith in subst (λ k. g k ≡ false) same f)
    (cases_lt c (suc n)))
    (cases_Bool (g (suc n)))

-- where none is counted, none is granted
none_granted : (m : Meaning) → Sound m → count m ≡ 0 → (c : ℕ) → m.granted c ≡ false
none_granted m law e c =
    ⊎_elim
    (λ (h : limit < c). law.none_past c h)
    (λ (h : c ≤ limit).
    ⊎_elim
    (λ (l : c < 1). let z : 0 ≡ c = omega arith in subst (λ k. m.granted k ≡ false) z law.none_at_zero)
    (λ (l : 1 ≤ c). none_to m.granted limit c e l h)
    (cases_lt c 1))
    (cases_lt limit c)

-- a block with the count 0 has no entries
no_entries : (φ : Form) (β : ℕ → ℕ) → β 1 ≡ 0 → entries φ β ≡ []
unfolding entries
no_entries φ β z = ap (λ k. upto k (entry_at φ β)) z

-- the first words of a block that was filled from its start
pub filled_at : (ws : List ℕ) (n j : ℕ) (β : ℕ → ℕ) → j < n → filled 0 ws n β j ≡ get_or ws j 0
unfolding filled splice
filled_at ws n j β l =
    let k : j - 0 ≡ j = omega arith in
    cond-true (nat_le 0 j && nat_lt j (0 + n)) (get_or ws (j - 0) 0) (β j) (and_from _ _ (le-leb 0 j (omega arith)) (lt-ltb j (0 + n) (omega arith))) ∙ ap (λ p. get_or ws p 0) k

module _ {K : Type 0} (κ : Kind K) (at r : ℕ) where
  -- the header of an empty leaf in the second
  abbrev pub head : Header
  head = record { root = record { block = r; level = 0 }; keys = 0 }

  -- two blocks taken of a store without grants, and the header of an empty leaf written into the first
  pub laid : (m u v n : Meaning) → Sound m → breadth κ.form ≤ m.shape.width → count m ≡ 0 → TakeDone m at u → TakeDone u r v → n ≡ edit v at (filled 0 (header_words κ.form.words head) 4) → HoldsTree κ at head (empty K) n × (n.down ≡ m.down) × (n.shape ≡ m.shape) × (n.below ≡ m.below)
  laid m u v n law wide none one two e =
      let F = filled 0 (header_words κ.form.words head) 4 in
      let first = step_take m u at one in
      let second = step_take u v r two in
      let third = step_block v n at (n.words at) (edit_frame v n at F e) in
      let apart : r ≢ at = λ q. both_ways (u.granted at) (ap u.granted (sym q) ∙ two.was_free) (taken_granted m u at one) in
      let blank : (p : ℕ) → n.words r p ≡ 0 = λ p. ap (λ β. β p) (edit_other v n at r F apart e) ∙ taken_blank u v r p two in
      let es : entries κ.form (n.words r) ≡ [] = no_entries κ.form (n.words r) (blank 1) in
      let feet_are : feet κ n.words 0 r ≡ r ∷ [] = ap (λ xs. r ∷ joined (foot κ n.words 0) xs) es in
      let root_is : node κ n.words 0 r ≡ [] = ap (map (item κ n.words 0)) es in
      let exact : (c : ℕ) → times c (at ∷ feet κ n.words 0 r) ≡ bit (n.granted c) = λ c.
      let z = ap bit (none_granted m law none c) in
      omega (arith, first.moved c, second.moved c, ap (λ g. bit (g c)) (edit_granted v n at F e), z, ap (times c) feet_are) in
      let holds : HoldsTree κ at head (empty K) n = record {
        stands = record {
          sits = record {
            wide = omega (arith, wide, ap (λ s. s.width) (third.same_shape ∙ second.same_shape ∙ first.same_shape));
            whole = (blank 0, omega (arith, blank 1), subst (AllByRecursion (Right κ n.words 0)) (sym es) tt);
            owned = λ c. omega (arith, exact c);
            kids = tt;
            fits = subst (AllByRecursion (Fit K index_unit 0)) (sym root_is) tt;
            light = omega (arith, ap (weight K 1) root_is);
            ascending = subst (λ x. Sorted κ.order (pairs K 1 x)) (sym root_is) tt;
          };
          keys = sym (ap (weight K 1) root_is);
          low = omega arith;
        };
        tree_is = ap (λ x. record { level = 0; root = x }) root_is;
        headed = λ j l. ap (λ β. β j) (edit_here v n at F e) ∙ filled_at (header_words κ.form.words head) 4 j (v.words at) l;
        exact = exact;
      } in
      (holds, third.same_down ∙ second.same_down ∙ first.same_down, third.same_shape ∙ second.same_shape ∙ first.same_shape, third.same_below ∙ second.same_below ∙ first.same_below)

  -- with two blocks free there is one after the first is taken
  pub room_left : (m u : Meaning) → TakeDone m at u → 2 ≤ free m → count u < u.shape.capacity
  room_left m u one two = omega (arith, taken_free m u at one, two)

  -- the first has room for the header
  pub headroom : (m u v : Meaning) → 4 ≤ m.shape.width → TakeDone m at u → TakeDone u r v → Headroom at v
  headroom m u v wide one two =
      let second = step_take u v r two in
      let first = step_take m u at one in
      let apart : at ≢ r = λ q. both_ways (u.granted at) (ap u.granted q ∙ two.was_free) (taken_granted m u at one) in
      record {
        granted = ap (λ z. z.granted at) two.after ∙ with_at_other u.granted r true at apart ∙ taken_granted m u at one;
        wide = omega (arith, wide, ap (λ s. s.width) (second.same_shape ∙ first.same_shape));
      }

  -- a store from which both were taken has the shapes that it had
  pub kin_two : (m u v : Meaning) → TakeDone m at u → TakeDone u r v → Kin m v
  kin_two m u v one two =
      let second = step_take u v r two in
      let first = step_take m u at one in
      record { shape = second.same_shape ∙ first.same_shape; below = second.same_below ∙ first.same_below }

-- no reason to refuse
pub no_reason : {K : Type 0} (κ : Kind K) (m : Meaning) → m.shape.width ≡ breadth κ.form → count m ≡ 0 → 2 ≤ free m → refuses_create κ m ≡ None
no_reason κ m w n f =
    cond-true (m.shape.width == breadth κ.form && count m == 0) (cond (nat_lt (free m) 2) (Some 6) None) (Some 10) (and_from _ _ (eq-eqb _ _ w) (eq-eqb _ _ n))
    ∙ cond-false (nat_lt (free m) 2) (Some 6) None (le-ltb (free m) 2 f)
