-- Two siblings shared out anew over their two blocks.
use Rattle.std.proofs.Common.{◌≡◌, ℕ, suc, ◌+◌, ◌*◌, ◌<◌, ◌≤◌, cond, eqb, List, [], ◌∷◌, ◌++◌, map, Ok, Err, Result, length, take, drop, sym, refl, ap, ap₂, ◌∙◌, subst, arith}
use Rattle.std.proofs.lemmas.List.{length-append, length-take-le, length-drop, take_at, drop_at, drop-drop, append_assoc, map-append}
use Rattle.std.specs.List.{AllByRecursion}
use Rattle.store.specs.Meaning.{Meaning, with_block}
use Rattle.store.specs.declared.fault.Fault.{Fault}
use Rattle.store.specs.Laws.Changes.{with_at_other}
use Rattle.copies.specs.Work.{Work}
use Rattle.copies.proofs.Exits.{Kin, kin_same, lost_later}
use Rattle.nodes.specs.Places.{Form}
use Rattle.nodes.specs.declared.entry.Entry.{Entry as Coded}
use Rattle.nodes.specs.Nodes.{Entry, Room, Has, Joined, Partable, Parted, Changed, entry_of, entries, entry_at, replace_at}
use Rattle.plain.proofs.Alls.{all_append}
use Rattle.tree.specs.Lists.{joined}
use Rattle.tree.specs.Tree.{index_unit, weight, Fit, left, right}
use Rattle.balance.specs.declared.cut.Halves.{Halves}
use Rattle.balance.specs.Cuts.{Heavy, Halved}
use Rattle.balance.proofs.Levels.{index_units}
use Rattle.balance.proofs.Weights.{entries_length}
use Rattle.tree.proofs.Units.{unit_some}
use Rattle.held.specs.Held.{Kind, Lawful, item, node, foot, feet, smallest_words, Right, Whole, times, Step}
use Rattle.held.specs.Exchange.{Exchanged}
use Rattle.held.proofs.Feet.{times_append, times_joined, step_then, step_wider}
use Rattle.held.proofs.Steps.{step_block}
use Rattle.held.proofs.Frames.{Sames, frames}
use Rattle.held.proofs.Halving.{HalvesIn, halves_in, heavy_node}
use Rattle.shrink.specs.declared.merge.Siblings.{Siblings}
use Rattle.shrink.specs.Merges.{Neighbours, Shareable, Shared, pooled, pooled_feet}
use Rattle.shrink.proofs.Back.{kin_holds, kin_then}
use Rattle.shrink.proofs.Merging.{other_holds, room_holds, apart_ac, apart_ap, apart_cp, room_a, room_c, few_both, low_words, left_is, right_is, join_at}

-- two entries over two
two_over : (es : List Entry) (i : ℕ) (x y : Entry) → i + 1 < length es → take (i + 1) (take i es ++ (x ∷ drop (i + 1) es)) ++ (y ∷ drop (i + 1 + 1) (take i es ++ (x ∷ drop (i + 1) es))) ≡ take i es ++ ((x ∷ y ∷ []) ++ drop (i + 2) es)
two_over es i x y h =
    let n = length-take-le i es (omega arith) in
    let m = length-append (take i es) (x ∷ []) in
    let e : take i es ++ (x ∷ drop (i + 1) es) ≡ (take i es ++ (x ∷ [])) ++ drop (i + 1) es = sym (append_assoc (take i es) (x ∷ []) (drop (i + 1) es)) in
    let q : drop (i + 1 + 1) (take i es ++ (x ∷ drop (i + 1) es)) ≡ drop (i + 2) es =
    let z : i + 1 + 1 ≡ i + 2 = omega arith in
    ap (drop (i + 1 + 1)) e ∙ sym (drop-drop 1 (i + 1) ((take i es ++ (x ∷ [])) ++ drop (i + 1) es)) ∙ ap (drop 1) (drop_at (take i es ++ (x ∷ [])) (drop (i + 1) es) (i + 1) (omega arith)) ∙ drop-drop 1 (i + 1) es ∙ ap (λ r. drop r es) z in
    ap₂ (λ a b. a ++ (y ∷ b)) (ap (take (i + 1)) e ∙ take_at (take i es ++ (x ∷ [])) (drop (i + 1) es) (i + 1) (omega arith)) q ∙ append_assoc (take i es) (x ∷ []) (y ∷ drop (i + 2) es)

-- the entries of one block parted over two
pub parted_other : (φ : Form) (m n : Meaning) (f t k y : ℕ) → Parted φ f t k m tt n → (y ≡ f → ⊥) → (y ≡ t → ⊥) → n.words y ≡ m.words y
parted_other φ m n f t k y h nf nt = ap (λ z. z.words y) h.frame ∙ with_at_other (with_block m t (n.words t)).words f (n.words f) y nf ∙ with_at_other m.words t (n.words t) y nt

pub parted_room : (φ : Form) (m n : Meaning) (f t k y : ℕ) → Parted φ f t k m tt n → Room φ y m → Room φ y n
parted_room φ m n f t k y h r = record { granted = ap (λ z. z.granted y) h.frame ∙ r.granted; wide = omega (arith, ap (λ z. z.shape.width) h.frame, r.wide) }

pub parted_kin : {φ : Form} {m n : Meaning} {f t k : ℕ} → Parted φ f t k m tt n → Kin m n
parted_kin h = record { shape = ap (λ z. z.shape) h.frame; below = ap (λ z. z.below) h.frame }

parted_step : (φ : Form) (m n : Meaning) (f t k : ℕ) → Parted φ f t k m tt n → Step m n (f ∷ t ∷ []) (f ∷ t ∷ [])
parted_step φ m n f t k h =
    let F = f ∷ t ∷ [] in
    let x = with_block m t (n.words t) in
    let one = step_wider m x (t ∷ []) (t ∷ []) F F (λ c. omega arith) (λ c. omega arith) (step_block m x t (n.words t) refl) in
    let two = step_wider x n (f ∷ []) (f ∷ []) F F (λ c. omega arith) (λ c. omega arith) (step_block x n f (n.words f) h.frame) in
    step_then m x n F F F one two

module _ {K : Type 0} (κ : Kind K) (many : 80 ≤ κ.form.places) (p i l : ℕ) (m u : Meaning) (near : Neighbours κ p i l m)
    (join : Joined κ.form (entry_at κ.form (m.words p) (i + 1)).child (entry_at κ.form (m.words p) i).child m tt u) where
  abbrev fst : ℕ
  fst = (entry_at κ.form (m.words p) i).child

  abbrev snd : ℕ
  snd = (entry_at κ.form (m.words p) (i + 1)).child

  abbrev ds : List Entry
  ds = entries κ.form (m.words (entry_at κ.form (m.words p) i).child) ++ entries κ.form (m.words (entry_at κ.form (m.words p) (i + 1)).child)

  pub rights : AllByRecursion (Right κ m.words l) ds
  rights = all_append (Right κ m.words l) (entries κ.form (m.words fst)) (entries κ.form (m.words snd)) near.left.5 near.right.5

  pub pooled_is : map (item κ m.words l) ds ≡ pooled κ p i l m
  pooled_is = map-append (item κ m.words l) (entries κ.form (m.words fst)) (entries κ.form (m.words snd))

  -- the blocks below both nodes are others than theirs
  pub below : (x : ℕ) → cond (eqb x p) 1 0 + (cond (eqb x fst) 1 0 + (cond (eqb x snd) 1 0 + times x (joined (foot κ m.words l) ds))) ≡ times x (p ∷ pooled_feet κ p i l m)
  below x = omega (arith, times_append x (feet κ m.words l fst) (feet κ m.words l snd), times_joined (foot κ m.words l) x (entries κ.form (m.words fst)) (entries κ.form (m.words snd)))

  few_ds : length ds ≤ κ.form.places
  few_ds = omega (arith, length-append (entries κ.form (m.words fst)) (entries κ.form (m.words snd)), entries_length κ.form (m.words fst), entries_length κ.form (m.words snd), few_both κ p i l m near many)

  kids : Sames κ m.words u.words l ds
  kids = frames κ m.words u.words l ds (λ x h. (step_block m u fst _ join.frame).kept x (omega (arith, near.owned x, below x)))

  -- the left block holds both nodes
  pub whole_joined : Whole κ u.words l fst
  whole_joined = (
    join.level ∙ near.left.3,
    omega (arith, entries_length κ.form (u.words fst), ap length join.entries_are, few_ds),
    subst (AllByRecursion (Right κ u.words l)) (sym join.entries_are) (kids.right rights),
  )

  pub node_joined : node κ u.words l fst ≡ pooled κ p i l m
  node_joined = ap (map (item κ u.words l)) join.entries_are ∙ kids.items ∙ pooled_is

  pub heavy_joined : 7 * index_unit l ≤ weight K (suc l) (pooled κ p i l m) → Heavy κ.form fst l u
  heavy_joined h =
      let e = ap (weight K (suc l)) node_joined in
      heavy_node κ u l fst near.low (record { room = room_holds κ.form m u fst fst _ join (room_a κ p i l m near); few = whole_joined.1 }) whole_joined (omega (arith, e, h, unit_some index_unit index_units l)) (omega (arith, e, near.light))

  -- after the node of both was halved
  module _ (v : Meaning) (k : ℕ) (part : Parted κ.form fst snd k u tt v) where
    parent_parted : v.words p ≡ m.words p
    parent_parted = parted_other κ.form u v fst snd k p part (λ q. apart_ap κ p i l m near (sym q)) (λ q. apart_cp κ p i l m near (sym q)) ∙ other_holds κ.form m u fst p _ join (λ q. apart_ap κ p i l m near (sym q))

    pub has_first : Has κ.form p i v
    has_first =
        let e = ap (λ β. β 1) parent_parted in
        record { room = parted_room κ.form u v fst snd k p part (room_holds κ.form m u fst p _ join near.parent.room); has = omega (arith, e, near.within); few = omega (arith, e, near.parent.few) }

    pub has_second : (w : Meaning) (e : Entry) → Changed κ.form p (replace_at i e) v tt w → Has κ.form p (i + 1) w
    has_second w e h =
        let es = entries κ.form (v.words p) in
        let same : w.words p 1 ≡ v.words p 1 =
        omega (arith, entries_length κ.form (w.words p), ap length h.entries_are, length-append (take i es) (e ∷ drop (i + 1) es), length-take-le i es (omega (arith, has_first.has, entries_length κ.form (v.words p))), length-drop (i + 1) es, entries_length κ.form (v.words p), has_first.has) in
        let at = ap (λ β. β 1) parent_parted in
        record { room = room_holds κ.form v w p p _ h has_first.room; has = omega (arith, same, at, near.within); few = omega (arith, same, has_first.few) }

  pub partable : (k : ℕ) → k < u.words fst 1 → Partable κ.form fst snd k u
  partable k h = record {
    rooms = record { one = room_holds κ.form m u fst fst _ join (room_a κ p i l m near); other = room_holds κ.form m u fst snd _ join (room_c κ p i l m near) };
    apart = apart_ac κ p i l m near;
    upto = omega (arith, h);
    few = whole_joined.1;
  }

module _ {K : Type 0} (κ : Kind K) (law : Lawful κ) (many : 80 ≤ κ.form.places) (p i l : ℕ) (key : List ℕ) (h : Halves K) (m u x v w t : Meaning) (near : Neighbours κ p i l m)
    (heavy : 7 * index_unit l ≤ weight K (suc l) (pooled κ p i l m)) (key_is : key ≡ smallest_words κ (suc l) (pooled κ p i l m))
    (join : Joined κ.form (entry_at κ.form (m.words p) (i + 1)).child (entry_at κ.form (m.words p) i).child m tt u)
    (half : Halved κ.form κ.unpacked (entry_at κ.form (m.words p) i).child l u h x)
    (part : Parted κ.form (entry_at κ.form (m.words p) i).child (entry_at κ.form (m.words p) (i + 1)).child h.kept u tt v)
    (one : Changed κ.form p (replace_at i (record { weight = h.left; key = key; child = (entry_at κ.form (m.words p) i).child })) v tt w)
    (two : Changed κ.form p (replace_at (i + 1) (record { weight = h.right; key = κ.packed h.key; child = (entry_at κ.form (m.words p) (i + 1)).child })) w tt t) where
  abbrev a : ℕ
  a = (entry_at κ.form (m.words p) i).child

  abbrev c : ℕ
  c = (entry_at κ.form (m.words p) (i + 1)).child

  abbrev e1 : Entry
  e1 = record { weight = h.left; key = key; child = (entry_at κ.form (m.words p) i).child }

  abbrev e2 : Entry
  e2 = record { weight = h.right; key = κ.packed h.key; child = (entry_at κ.form (m.words p) (i + 1)).child }

  abbrev es : List Entry
  es = entries κ.form (m.words (entry_at κ.form (m.words p) i).child) ++ entries κ.form (m.words (entry_at κ.form (m.words p) (i + 1)).child)

  all : Step m t (p ∷ a ∷ c ∷ []) (p ∷ a ∷ c ∷ [])
  all =
      let F = p ∷ a ∷ c ∷ [] in
      let s1 = step_wider m u (a ∷ []) (a ∷ []) F F (λ d. omega arith) (λ d. omega arith) (step_block m u a _ join.frame) in
      let s2 = step_wider u v (a ∷ c ∷ []) (a ∷ c ∷ []) F F (λ d. omega arith) (λ d. omega arith) (parted_step κ.form u v a c h.kept part) in
      let s3 = step_wider v w (p ∷ []) (p ∷ []) F F (λ d. omega arith) (λ d. omega arith) (step_block v w p _ one.frame) in
      let s4 = step_wider w t (p ∷ []) (p ∷ []) F F (λ d. omega arith) (λ d. omega arith) (step_block w t p _ two.frame) in
      step_then m w t F F F (step_then m v w F F F (step_then m u v F F F s1 s2) s3) s4

  at_p : v.words p ≡ m.words p
  at_p = parted_other κ.form u v a c h.kept p part (λ q. apart_ap κ p i l m near (sym q)) (λ q. apart_cp κ p i l m near (sym q)) ∙ other_holds κ.form m u a p _ join (λ q. apart_ap κ p i l m near (sym q))

  keeps : (y : ℕ) → (y ≡ p → ⊥) → t.words y ≡ v.words y
  keeps y ne = other_holds κ.form w t p y _ two ne ∙ other_holds κ.form v w p y _ one ne

  a_is : entries κ.form (t.words a) ≡ take h.kept es
  a_is = ap (entries κ.form) (keeps a (apart_ap κ p i l m near)) ∙ part.entries_from ∙ ap (take h.kept) join.entries_are

  c_is : entries κ.form (t.words c) ≡ drop h.kept es
  c_is = ap (entries κ.form) (keeps c (apart_cp κ p i l m near)) ∙ part.entries_to ∙ ap (drop h.kept) join.entries_are

  z_is : map (item κ m.words l) es ≡ pooled κ p i l m
  z_is = pooled_is κ many p i l m u near join

  parts : HalvesIn κ law m.words t.words l a c h es
  parts =
      let heavy' = subst (λ z. 7 * index_unit l ≤ weight K (suc l) z) (sym z_is) heavy in
      let light' = subst (λ z. weight K (suc l) z ≤ 10 * index_unit l) (sym z_is) near.light in
      let fits' = subst (AllByRecursion (Fit K index_unit l)) (sym z_is) near.fits in
      halves_in κ law u x m.words t.words l a a c h es (rights κ many p i l m u near join) fits' heavy' light' (few_ds κ many p i l m u near join)
      join.entries_are half a_is c_is
      (ap (λ β. β 0) (keeps a (apart_ap κ p i l m near)) ∙ part.level_from ∙ join.level ∙ near.left.3)
      (ap (λ β. β 0) (keeps c (apart_cp κ p i l m near)) ∙ part.level_to ∙ join.level ∙ near.left.3)
      (λ d g. all.kept d (omega (arith, near.owned d, below κ many p i l m u near join d)))

  right_a : Right κ t.words (suc l) e1
  right_a = (
    parts.left_weighs,
    key_is ∙ sym (parts.left_starts ∙ ap (smallest_words κ (suc l)) z_is),
    near.left.2,
    parts.whole_left.0,
    parts.whole_left.1,
    parts.whole_left.2,
  )

  right_c : Right κ t.words (suc l) e2
  right_c = (
    parts.right_weighs,
    sym parts.right_starts,
    near.right.2,
    parts.whole_right.0,
    parts.whole_right.1,
    parts.whole_right.2,
  )

  p_is : entries κ.form (t.words p) ≡ take i (entries κ.form (m.words p)) ++ ((e1 ∷ e2 ∷ []) ++ drop (i + 2) (entries κ.form (m.words p)))
  p_is =
      two.entries_are
      ∙ ap (λ r. take (i + 1) r ++ (e2 ∷ drop (i + 1 + 1) r)) (one.entries_are ∙ ap (λ β. take i (entries κ.form β) ++ (e1 ∷ drop (i + 1) (entries κ.form β))) at_p)
      ∙ two_over (entries κ.form (m.words p)) i e1 e2 (omega (arith, near.within, entries_length κ.form (m.words p)))

  feet_now : (d : ℕ) → times d (joined (foot κ t.words (suc l)) (e1 ∷ e2 ∷ [])) ≡ times d (feet κ t.words l a) + times d (feet κ t.words l c)
  feet_now d = omega (arith, times_append d (feet κ t.words l a) (feet κ t.words l c ++ []), times_append d (feet κ t.words l c) [])

  pub shared : Exchanged κ p i 2 l (pooled_feet κ p i l m) (left K index_unit l (pooled κ p i l m) ∷ right K index_unit l (pooled κ p i l m) ∷ []) m t
  shared =
      let os = entries κ.form (m.words p) in
      record {
        new = e1 ∷ e2 ∷ [];
        entries_are = p_is;
        few = omega (arith, entries_length κ.form (t.words p), ap length p_is, length-append (take i os) ((e1 ∷ e2 ∷ []) ++ drop (i + 2) os), length-take-le i os (omega (arith, near.within, entries_length κ.form (m.words p))), length-drop (i + 2) os, entries_length κ.form (m.words p), near.parent.few, near.within);
        level = two.level ∙ one.level ∙ ap (λ β. β 0) at_p;
        items = ap₂ (λ y z. y ∷ z ∷ []) (parts.node_left ∙ ap (left K index_unit l) z_is) (parts.node_right ∙ ap (right K index_unit l) z_is);
        right = (right_a, (right_c, tt));
        step = step_wider m t (p ∷ a ∷ c ∷ []) (p ∷ a ∷ c ∷ []) _ (p ∷ joined (foot κ t.words (suc l)) (e1 ∷ e2 ∷ []))
            (λ d. omega (arith, feet_now d, parts.feet_are d, below κ many p i l m u near join d))
            (λ d. omega (arith, below κ many p i l m u near join d))
            all;
      }

-- what was done before the right one's entry is written
pub record Spread {K : Type 0} (κ : Kind K) (s : Siblings K) (h : Halves K) (e : Coded K) (m u x v w : Meaning) : Type 0 where
  pub join : Joined κ.form s.right.child.block s.left.child.block m tt u
  pub half : Halved κ.form κ.unpacked s.left.child.block s.left.child.level u h x
  pub part : Parted κ.form s.left.child.block s.right.child.block h.kept x tt v
  pub put : Changed κ.form s.left.parent (replace_at s.left.place (entry_of κ.packed e)) v tt w

-- the same of a pair of siblings as the code has it
module _ {K : Type 0} (κ : Kind K) (law : Lawful κ) (many : 80 ≤ κ.form.places) (s : Siblings K) (m : Meaning) (d : Shareable κ s m) (u : Meaning) (join : Joined κ.form s.right.child.block s.left.child.block m tt u) where
  abbrev at : ℕ
  at = s.left.parent

  abbrev pl : ℕ
  pl = s.left.place

  abbrev lv : ℕ
  lv = s.left.child.level

  abbrev near : Neighbours κ s.left.parent s.left.place s.left.child.level m
  near = d.pair.near

  joins : Joined κ.form (entry_at κ.form (m.words at) (pl + 1)).child (entry_at κ.form (m.words at) pl).child m tt u
  joins = join_at κ law many s m d.pair u join

  lefts : s.left.child.block ≡ (entry_at κ.form (m.words at) pl).child
  lefts = left_is κ law many s m d.pair

  sides : s.right.child.block ≡ (entry_at κ.form (m.words at) (pl + 1)).child
  sides = right_is κ law many s m d.pair

  pub pair_heavy : Heavy κ.form s.left.child.block s.left.child.level u
  pair_heavy = subst (λ z. Heavy κ.form z lv u) (sym lefts) (heavy_joined κ many at pl lv m u near joins d.heavy)

  module _ (x : Meaning) (h : Halves K) (half : Halved κ.form κ.unpacked s.left.child.block s.left.child.level u h x) where
    pub pair_partable : Partable κ.form s.left.child.block s.right.child.block h.kept x
    pair_partable =
        let less : h.kept < u.words (entry_at κ.form (m.words at) pl).child 1 = subst (λ z. h.kept < u.words z 1) lefts half.within in
        let q = partable κ many at pl lv m u near joins h.kept less in
        subst (Partable κ.form s.left.child.block s.right.child.block h.kept) (sym half.same)
        (subst (λ z. Partable κ.form z s.right.child.block h.kept u) (sym lefts) (subst (λ z. Partable κ.form (entry_at κ.form (m.words at) pl).child z h.kept u) (sym sides) q))

    part_at : (v : Meaning) → Parted κ.form s.left.child.block s.right.child.block h.kept x tt v → Parted κ.form (entry_at κ.form (m.words at) pl).child (entry_at κ.form (m.words at) (pl + 1)).child h.kept u tt v
    part_at v p =
        let q = subst (λ z. Parted κ.form s.left.child.block s.right.child.block h.kept z tt v) half.same p in
        subst (λ z. Parted κ.form z (entry_at κ.form (m.words at) (pl + 1)).child h.kept u tt v) lefts (subst (λ z. Parted κ.form s.left.child.block z h.kept u tt v) sides q)

    pub pair_has_first : (v : Meaning) → Parted κ.form s.left.child.block s.right.child.block h.kept x tt v → Has κ.form s.left.parent s.left.place v
    pair_has_first v p = has_first κ many at pl lv m u near joins v h.kept (part_at v p)

    pub pair_has_second : (v w : Meaning) (e : Entry) → Parted κ.form s.left.child.block s.right.child.block h.kept x tt v → Changed κ.form s.left.parent (replace_at s.left.place e) v tt w → Has κ.form s.right.parent s.right.place w
    pair_has_second v w e p put =
        let q = has_second κ many at pl lv m u near joins v h.kept (part_at v p) w e put in
        subst (λ z. Has κ.form z s.right.place w) (sym d.pair.pair.right_parent) (subst (λ z. Has κ.form at z w) (sym d.pair.pair.right_place) q)

    pub pair_shared : (v w t : Meaning) (e f : Coded K) → e.weight ≡ h.left → e.key ≡ s.low → e.child ≡ s.left.child.block → f.weight ≡ h.right → f.key ≡ h.key → f.child ≡ s.right.child.block →
        Parted κ.form s.left.child.block s.right.child.block h.kept x tt v → Changed κ.form s.left.parent (replace_at s.left.place (entry_of κ.packed e)) v tt w →
        Changed κ.form s.right.parent (replace_at s.right.place (entry_of κ.packed f)) w tt t → Shared κ s m tt t
    pair_shared v w t e f ew ek ec fw fk fc part one two =
        let e_is : entry_of κ.packed e ≡ record { weight = h.left; key = κ.packed s.low; child = (entry_at κ.form (m.words at) pl).child } = (λ z. record { weight = ew z; key = κ.packed (ek z); child = (ec ∙ lefts) z }) in
        let f_is : entry_of κ.packed f ≡ record { weight = h.right; key = κ.packed h.key; child = (entry_at κ.form (m.words at) (pl + 1)).child } = (λ z. record { weight = fw z; key = κ.packed (fk z); child = (fc ∙ sides) z }) in
        let q = subst (λ z. Changed κ.form at (replace_at z (entry_of κ.packed f)) w tt t) d.pair.pair.right_place (subst (λ z. Changed κ.form z (replace_at s.right.place (entry_of κ.packed f)) w tt t) d.pair.pair.right_parent two) in
        shared κ law many at pl lv (κ.packed s.low) h m u x v w t near d.heavy (ap κ.packed d.pair.pair.low ∙ low_words κ law at pl lv m near)
        joins (subst (λ z. Halved κ.form κ.unpacked z lv u h x) lefts half) (part_at v part)
        (subst (λ z. Changed κ.form at (replace_at pl z) v tt w) e_is one) (subst (λ z. Changed κ.form at (replace_at (pl + 1) z) w tt t) f_is q)

module _ {K : Type 0} (κ : Kind K) (law : Lawful κ) (many : 80 ≤ κ.form.places) where
  pub share_ends : (s : Siblings K) (h : Halves K) (m u x v w t : Meaning) (e f : Coded K) (r : Result (Unit {0}) Fault) →
      e.weight ≡ h.left → e.key ≡ s.low → e.child ≡ s.left.child.block → f.weight ≡ h.right → f.key ≡ h.key → f.child ≡ s.right.child.block →
      (Shareable κ s m → Spread κ s h e m u x v w) → Work (Has κ.form s.right.parent s.right.place) (Changed κ.form s.right.parent (replace_at s.right.place (entry_of κ.packed f))) w r t → Work (Shareable κ s) (Shared κ s) m r t
  share_ends s h m u x v w t e f (Ok y) ew ek ec fw fk fc before last = λ d.
      let z = before d in
      pair_shared κ law many s m d u z.join x h z.half v w t e f ew ek ec fw fk fc z.part z.put (last (pair_has_second κ law many s m d u z.join x h z.half v w _ z.part z.put))
  share_ends s h m u x v w t e f (Err y) ew ek ec fw fk fc before last = λ d.
      let z = before d in
      lost_later (kin_then (kin_then (kin_then (kin_holds z.join) (kin_same z.half.same)) (parted_kin z.part)) (kin_holds z.put)) (last (pair_has_second κ law many s m d u z.join x h z.half v w _ z.part z.put))
