-- Whether an insertion is refused, as the survey and the header tell it.
use Rattle.std.proofs.Common.{◌≡◌, ℕ, zero, suc, ◌+◌, ◌-◌, ◌*◌, ◌<◌, ◌≤◌, Bool, true, false, cond, leb, ltb, None, Some, Option, is_some, length, sym, refl, ap, ◌∙◌, ⊎_elim, true≢false, arith, lit≤}
use Rattle.std.proofs.lemmas.Bool.{cases_lt, le-leb, lt-leb, leb-false, lt-ltb, le-ltb, ltb-false, eq-eqb, ne_eqb, cond-true, cond-false}
use Rattle.store.specs.Meaning.{Meaning, free}
use Rattle.store.specs.Calls.{StockDone}
use Rattle.store.specs.Faults.{number_of}
use Rattle.store.specs.declared.blocks.Stock.{Stock}
use Rattle.store.specs.declared.fault.Fault.{Fault}
use Rattle.store.specs.declared.fault.Refusal.{Refusal}
use Rattle.nodes.specs.declared.header.Header.{Header}
use Rattle.plain.specs.Plain.{present}
use Rattle.tree.specs.Tree.{index_unit, content, weight, adds, index_shape}
use Rattle.tree.specs.Counts.{full, full_below, taken}
use Rattle.tree.specs.Runs.{takes_up}
use Rattle.tree.proofs.Flat.{count_pairs}
use Rattle.balance.specs.Limits.{limit_of}
use Rattle.balance.specs.Updates.{RefusedFor, own_refusal}
use Rattle.balance.proofs.Levels.{limit_unit}
use Rattle.held.specs.Held.{Kind, node}
use Rattle.held.specs.Roots.{Stands, pairs_below, tree_of}
use Rattle.grow.specs.Surveys.{Lowly, surveyed, refusal}
use Rattle.grow.proofs.Looks.{none_or, some_or}

-- a refusal of the index itself, after calls that changed nothing
pub refused_for : (why : Option ℕ) (m n : Meaning) (r : Refusal) (f : Fault) → f ≡ own_refusal r → why ≡ Some (number_of r) → n ≡ m → RefusedFor why m f n
refused_for why m n r f e w s = record {
  reason = w ∙ ap (λ z. Some (number_of z.refusal)) (sym e);
  own = e ∙ ap (λ z. own_refusal z.refusal) (sym e);
  same = s;
}

-- the stock that was told
pub stock_free : (m n u : Meaning) (t : Stock) (r : ℕ) → u ≡ m → StockDone u t n → r ≡ t.capacity - t.granted → r ≡ free m
stock_free m n u t r e d h = omega (arith, h, d.granted, d.capacity, ap free e)

-- below the top less is carried
unit_below : (l : ℕ) → l < 4 → index_unit l < index_unit 4
unit_below zero h = lit≤ tt
unit_below (suc zero) h = lit≤ tt
unit_below (suc (suc zero)) h = lit≤ tt
unit_below (suc (suc (suc zero))) h = lit≤ tt
unit_below (suc (suc (suc (suc l)))) h = absurd (omega arith)

-- and nowhere more
unit_top : (l : ℕ) → l ≤ 4 → index_unit l ≤ index_unit 4
unit_top l h = ⊎_elim (λ (q : l < 4). omega (arith, unit_below l q)) (λ (q : 4 ≤ l). let e : l ≡ 4 = omega arith in omega (arith, ap index_unit e)) (cases_lt l 4)

-- no reason at all
none_of : (b : Bool) (n : ℕ) (x : Option ℕ) → cond b (Some n) x ≡ None → (b ≡ false) × (x ≡ None)
none_of true n x e = absurd (true≢false (ap is_some e))
none_of false n x e = (refl, e)

module _ {K : Type 0} (κ : Kind K) (m : Meaning) (h : Header) (k : K) (s : Stands κ h m) where
  -- what a survey needs
  pub lowly : Lowly κ h.root m
  lowly = record { sits = s.sits; low = s.low }

  -- as many pairs as keys in the header
  many : length (content K (tree_of κ m.words h)) ≡ h.keys
  many = count_pairs K (suc h.root.level) (node κ m.words h.root.level h.root.block) ∙ sym s.keys

  -- no more than the root's level carries
  light : h.keys ≤ 8 * index_unit h.root.level
  light = omega (arith, s.keys, s.sits.light)

  -- the key is there
  pub present_why : None ≡ surveyed κ h.root k m → refusal κ h k m ≡ Some 3
  present_why e = rw (none_or _ _ e) refl

  -- it isn't, and so many nodes below the root are full
  module _ (f lim : ℕ) (found : Some f ≡ surveyed κ h.root k m) (lim_is : lim ≡ limit_of h.root.level) where
    -- so the survey says
    absent : present κ.order k (pairs_below κ h.root m) ≡ false
    absent = (some_or _ _ f found).0

    below : f ≡ full_below κ.order index_unit h.root.level k (node κ m.words h.root.level h.root.block)
    below = (some_or (present κ.order k (pairs_below κ h.root m)) _ f found).1

    -- the limit is the W of the root's level
    limit_is : lim ≡ 8 * index_unit h.root.level
    limit_is = lim_is ∙ limit_unit h.root.level s.low

    -- the tree carries as many keys as it can
    pub full_why : lim ≤ h.keys → h.root.level ≡ 4 → refusal κ h k m ≡ Some 5
    full_why a b =
        let most : 8 * index_unit 4 ≤ length (content K (tree_of κ m.words h)) = omega (arith, many, limit_is, ap index_unit b) in
        rw absent (rw (le-leb (8 * index_unit 4) (length (content K (tree_of κ m.words h))) most) refl)

    -- it doesn't
    module _ (can : lim ≤ h.keys → h.root.level < 4) where
      -- the tree carries fewer keys than it can
      fewer : length (content K (tree_of κ m.words h)) < 8 * index_unit 4
      fewer =
          ⊎_elim (λ (q : h.keys < lim). omega (arith, many, limit_is, unit_top h.root.level s.low)) (λ (q : lim ≤ h.keys). omega (arith, many, light, unit_below h.root.level (can q))) (cases_lt h.keys lim)

      fits : leb (8 * index_unit 4) (length (content K (tree_of κ m.words h))) ≡ false
      fits = lt-leb (8 * index_unit 4) (length (content K (tree_of κ m.words h))) fewer

      -- the store has too few blocks, or enough
      pub room_why : (wanted : ℕ) → wanted ≡ taken κ.order index_unit k (tree_of κ m.words h) → free m < wanted → refusal κ h k m ≡ Some 6
      room_why wanted e q = rw absent (rw fits (rw (lt-ltb (free m) (taken κ.order index_unit k (tree_of κ m.words h)) (omega (arith, e))) refl))

      pub no_why : (wanted : ℕ) → wanted ≡ taken κ.order index_unit k (tree_of κ m.words h) → wanted ≤ free m → refusal κ h k m ≡ None
      no_why wanted e q = rw absent (rw fits (rw (le-ltb (free m) (taken κ.order index_unit k (tree_of κ m.words h)) (omega (arith, e))) refl))

    -- what is wanted where the root is full, and where it isn't
    pub wanted_full : lim ≤ h.keys → f + 2 ≡ taken κ.order index_unit k (tree_of κ m.words h)
    wanted_full q =
        let x = node κ m.words h.root.level h.root.block in
        omega (arith, below, cond-true {A = ℕ} (full K index_unit h.root.level x) 1 0 (eq-eqb (weight K (suc h.root.level) x) (8 * index_unit h.root.level) (omega (arith, s.keys, light, limit_is))))

    pub wanted_less : h.keys < lim → f ≡ taken κ.order index_unit k (tree_of κ m.words h)
    wanted_less q =
        let x = node κ m.words h.root.level h.root.block in
        omega (arith, below, cond-false {A = ℕ} (full K index_unit h.root.level x) 1 0 (ne_eqb (weight K (suc h.root.level) x) (8 * index_unit h.root.level) (λ e. omega (arith, s.keys, limit_is))))

  -- an insertion that isn't refused
  module _ (none : refusal κ h k m ≡ None) where
    -- the key isn't there
    not_present : present κ.order k (pairs_below κ h.root m) ≡ false
    not_present = (none_of (present κ.order k (pairs_below κ h.root m)) 3 _ none).0

    -- no later reason
    second : cond {A = Option ℕ} (leb (8 * index_unit 4) (length (content K (tree_of κ m.words h)))) (Some 5) (cond {A = Option ℕ} (ltb (free m) (taken κ.order index_unit k (tree_of κ m.words h))) (Some 6) None) ≡ None
    second = (none_of (present κ.order k (pairs_below κ h.root m)) 3 _ none).1

    -- there are fewer keys than the top carries
    most_not : leb (8 * index_unit 4) (length (content K (tree_of κ m.words h))) ≡ false
    most_not = (none_of (leb (8 * index_unit 4) (length (content K (tree_of κ m.words h)))) 5 _ second).0

    pub keys_fewer : h.keys < 8 * index_unit 4
    keys_fewer = omega (arith, many, leb-false (8 * index_unit 4) (length (content K (tree_of κ m.words h))) most_not)

    -- the rules accept it as well
    pub taken_up : (handle : ℕ) → takes_up κ.order index_unit index_shape.top (tree_of κ m.words h) (adds k handle) ≡ true
    taken_up handle = rw not_present (rw most_not refl)

    -- and there are blocks enough
    pub blocks_enough : taken κ.order index_unit k (tree_of κ m.words h) ≤ free m
    blocks_enough = ltb-false (free m) (taken κ.order index_unit k (tree_of κ m.words h)) (none_of (ltb (free m) (taken κ.order index_unit k (tree_of κ m.words h))) 6 None (none_of (leb (8 * index_unit 4) (length (content K (tree_of κ m.words h)))) 5 _ second).1).0
