-- Two siblings merged in their parent.
use Rattle.std.proofs.Common.{◌≡◌, ℕ, zero, suc, ◌+◌, ◌*◌, ◌<◌, ◌≤◌, true, cond, eqb, List, [], ◌∷◌, ◌++◌, map, Ok, Err, Result, length, take, drop, sym, refl, ap, ap₂, ◌∙◌, subst, pow-suc, arith, lit≤}
use Rattle.std.proofs.lemmas.List.{length-map, length-append, length-take-le, length-drop, take-append-le, take-take, drop_at, map-append}
use Rattle.std.proofs.lemmas.Bool.{eq-eqb, cond-true}
use Rattle.std.specs.List.{AllByRecursion}
use Rattle.store.specs.Meaning.{Meaning}
use Rattle.store.specs.declared.fault.Fault.{Fault}
use Rattle.store.specs.Calls.{GiveDone, Give, Deep}
use Rattle.copies.specs.Work.{Work}
use Rattle.copies.proofs.Exits.{lost_later}
use Rattle.store.specs.Laws.Changes.{with_at_other}
use Rattle.nodes.specs.Places.{Form}
use Rattle.nodes.specs.declared.entry.Entry.{Entry as Coded}
use Rattle.nodes.specs.Nodes.{Entry, Room, Has, Holds, entry_of, Joinable, Joined, Changed, entries, entry_at, remove_at, replace_at}
use Rattle.plain.proofs.Alls.{all_append, all_front}
use Rattle.tree.specs.Lists.{joined}
use Rattle.tree.specs.Tree.{Item, index_unit, weight, Fit}
use Rattle.tree.proofs.Lists.{total_one}
use Rattle.tree.proofs.Counts.{places_suffice}
use Rattle.balance.proofs.Levels.{index_units}
use Rattle.balance.proofs.Weights.{entries_length}
use Rattle.held.specs.Held.{Kind, Lawful, item, node, foot, feet, smallest_words, Right, times, Step}
use Rattle.held.specs.Exchange.{Exchanged}
use Rattle.held.proofs.Feet.{times_append, times_joined, times_head, step_then, step_wider}
use Rattle.held.proofs.Frames.{Sames, frames}
use Rattle.held.proofs.Halving.{entry_small}
use Rattle.held.proofs.Steps.{bit_true, bit_most, step_block, step_give}
use Rattle.shrink.specs.declared.merge.Siblings.{Siblings}
use Rattle.shrink.specs.Merges.{Neighbours, Mergeable, Merged, pooled, pooled_feet}
use Rattle.shrink.proofs.Back.{give_work, kin_holds, kin_then}
use Rattle.shrink.proofs.Pairing.{pooled_weight}

-- a change of one block, in another block's words, and in what is granted
pub other_holds : (φ : Form) (m n : Meaning) (x y : ℕ) (xs : List Entry) → Holds φ x xs m n → (y ≡ x → ⊥) → n.words y ≡ m.words y
other_holds φ m n x y xs h ne = ap (λ z. z.words y) h.frame ∙ with_at_other m.words x (n.words x) y ne

pub room_holds : (φ : Form) (m n : Meaning) (x y : ℕ) (xs : List Entry) → Holds φ x xs m n → Room φ y m → Room φ y n
room_holds φ m n x y xs h r = record { granted = ap (λ z. z.granted y) h.frame ∙ r.granted; wide = omega (arith, ap (λ z. z.shape.width) h.frame, r.wide) }

-- two entries out, one in
one_entry : (es : List Entry) (i : ℕ) (e : Entry) → i + 1 < length es → take i (take (i + 1) es ++ drop (i + 1 + 1) es) ++ (e ∷ drop (i + 1) (take (i + 1) es ++ drop (i + 1 + 1) es)) ≡ take i es ++ ((e ∷ []) ++ drop (i + 2) es)
one_entry es i e h =
    let n = length-take-le (i + 1) es (omega arith) in
    let two : i + 1 + 1 ≡ i + 2 = omega arith in
    ap₂ (λ p q. p ++ (e ∷ q)) (take-append-le i (take (i + 1) es) (drop (i + 1 + 1) es) (omega arith) ∙ take-take i (i + 1) es (omega arith)) (drop_at (take (i + 1) es) (drop (i + 1 + 1) es) (i + 1) n ∙ ap (λ z. drop z es) two)

-- no node that two were merged into has more entries than there are places
few_items : (K : Type 0) (l : ℕ) (x : Item K (suc l)) → AllByRecursion (Fit K index_unit l) x → weight K (suc l) x ≤ 10 * index_unit l → length x ≤ 80
few_items K zero x f h = let top : 10 * index_unit 0 ≤ 80 = lit≤ tt in omega (arith, total_one x)
few_items K (suc l) x f h = places_suffice K index_unit index_units 16 l x (omega (arith, pow-suc 16 l)) f h

-- the blocks of two neighbours
module _ {K : Type 0} (κ : Kind K) (p i l : ℕ) (m : Meaning) (near : Neighbours κ p i l m) where
  abbrev a : ℕ
  a = (entry_at κ.form (m.words p) i).child

  abbrev c : ℕ
  c = (entry_at κ.form (m.words p) (i + 1)).child

  pub spread : (x : ℕ) → cond (eqb x p) 1 0 + ((cond (eqb x a) 1 0 + times x (joined (foot κ m.words l) (entries κ.form (m.words a)))) + (cond (eqb x c) 1 0 + times x (joined (foot κ m.words l) (entries κ.form (m.words c))))) ≤ 1
  spread x = omega (arith, times_append x (feet κ m.words l a) (feet κ m.words l c), near.owned x, bit_most (m.granted x))

  pub apart_ac : a ≡ c → ⊥
  apart_ac q = omega (arith, spread a, times_head a [], cond-true {A = ℕ} (eqb a c) 1 0 (eq-eqb a c q))

  pub apart_ap : a ≡ p → ⊥
  apart_ap q = omega (arith, spread a, times_head a [], cond-true {A = ℕ} (eqb a p) 1 0 (eq-eqb a p q))

  pub apart_cp : c ≡ p → ⊥
  apart_cp q = omega (arith, spread c, times_head c [], cond-true {A = ℕ} (eqb c p) 1 0 (eq-eqb c p q))

  pub room_a : Room κ.form a m
  room_a = record { granted = bit_true (m.granted a) (omega (arith, times_append a (feet κ m.words l a) (feet κ m.words l c), near.owned a, times_head a [])); wide = near.parent.room.wide }

  pub room_c : Room κ.form c m
  room_c = record { granted = bit_true (m.granted c) (omega (arith, times_append c (feet κ m.words l a) (feet κ m.words l c), near.owned c, times_head c [])); wide = near.parent.room.wide }

  -- both have room in one block
  pub few_both : 80 ≤ κ.form.places → m.words a 1 + m.words c 1 ≤ κ.form.places
  few_both many =
      let x = node κ m.words l a in
      let y = node κ m.words l c in
      omega (
        arith,
        few_items K l (x ++ y) near.fits near.light,
        length-append x y,
        length-map (entries κ.form (m.words a)) (item κ m.words l),
        length-map (entries κ.form (m.words c)) (item κ m.words l),
        entries_length κ.form (m.words a),
        entries_length κ.form (m.words c),
      )

  pub joinable : 80 ≤ κ.form.places → Joinable κ.form c a m
  joinable many = record { rooms = record { one = room_c; other = room_a }; fits = few_both many }

  -- after the entries of both were joined
  module _ (u : Meaning) (join : Joined κ.form c a m tt u) where
    pub parent_same : u.words p ≡ m.words p
    parent_same = other_holds κ.form m u a p _ join (λ q. apart_ap (sym q))

    pub has_right : Has κ.form p (i + 1) u
    has_right =
        let e = ap (λ β. β 1) parent_same in
        record { room = room_holds κ.form m u a p _ join near.parent.room; has = omega (arith, e, near.within); few = omega (arith, e, near.parent.few) }

    -- and the right one's entry is gone
    pub has_left : (v : Meaning) → Changed κ.form p (remove_at (i + 1)) u tt v → Has κ.form p i v
    has_left v less =
        let es = entries κ.form (u.words p) in
        let one : v.words p 1 + 1 ≡ u.words p 1 =
        omega (arith, entries_length κ.form (v.words p), ap length less.entries_are, length-append (take (i + 1) es) (drop (i + 1 + 1) es), length-take-le (i + 1) es (omega (arith, has_right.has, entries_length κ.form (u.words p))), length-drop (i + 1 + 1) es, entries_length κ.form (u.words p), has_right.has) in
        record { room = room_holds κ.form u v p p _ less has_right.room; has = omega (arith, one, has_right.has); few = omega (arith, one, has_right.few) }

module _ {K : Type 0} (κ : Kind K) (law : Lawful κ) where
  -- a list of items begins as its first part does, where that isn't empty
  begins : (l : ℕ) (xs ys : Item K (suc l)) → 1 ≤ weight K (suc l) xs → smallest_words κ (suc l) xs ≡ smallest_words κ (suc l) (xs ++ ys)
  begins l [] ys h = absurd (omega arith)
  begins l (x ∷ xs) ys h = refl

  -- the smallest key of a list of items is that of its first entry
  pub first_words : (ω : ℕ → ℕ → ℕ) (l : ℕ) (es : List Entry) → AllByRecursion (Right κ ω l) es → AllByRecursion (Fit K index_unit l) (map (item κ ω l) es) → 1 ≤ weight K (suc l) (map (item κ ω l) es) → κ.packed (κ.unpacked (smallest_words κ (suc l) (map (item κ ω l) es))) ≡ smallest_words κ (suc l) (map (item κ ω l) es)
  first_words ω l [] r f h = absurd (omega arith)
  first_words ω l (e ∷ es) r f h =
      let s = entry_small κ law ω l e r.0 f.0 in
      ap (λ z. κ.packed (κ.unpacked z)) s ∙ ap κ.packed (law.packing.back (κ.unpacked e.key)) ∙ sym s

  -- the left entry's key, packed again, is the smallest key of both nodes
  pub low_words : (p i l : ℕ) (m : Meaning) → Neighbours κ p i l m → κ.packed (κ.unpacked (entry_at κ.form (m.words p) i).key) ≡ smallest_words κ (suc l) (pooled κ p i l m)
  low_words p i l m near =
      let x = item κ m.words (suc l) (entry_at κ.form (m.words p) i) in
      let y = item κ m.words (suc l) (entry_at κ.form (m.words p) (i + 1)) in
      ap (λ z. κ.packed (κ.unpacked z)) near.left.1
      ∙ first_words m.words l (entries κ.form (m.words (entry_at κ.form (m.words p) i).child)) near.left.5 (all_front (Fit K index_unit l) x y near.fits) near.some
      ∙ begins l x y near.some

module _ {K : Type 0} (κ : Kind K) (law : Lawful κ) (many : 80 ≤ κ.form.places) (p i l wt : ℕ) (key : List ℕ) (m u v w t : Meaning) (near : Neighbours κ p i l m)
    (wt_is : wt ≡ weight K (suc l) (pooled κ p i l m)) (key_is : key ≡ smallest_words κ (suc l) (pooled κ p i l m))
    (join : Joined κ.form (entry_at κ.form (m.words p) (i + 1)).child (entry_at κ.form (m.words p) i).child m tt u)
    (less : Changed κ.form p (remove_at (i + 1)) u tt v)
    (put : Changed κ.form p (replace_at i (record { weight = wt; key = key; child = (entry_at κ.form (m.words p) i).child })) v tt w)
    (back : GiveDone w (entry_at κ.form (m.words p) (i + 1)).child t) where
  abbrev fst : ℕ
  fst = (entry_at κ.form (m.words p) i).child

  abbrev snd : ℕ
  snd = (entry_at κ.form (m.words p) (i + 1)).child

  abbrev e : Entry
  e = record { weight = wt; key = key; child = (entry_at κ.form (m.words p) i).child }

  abbrev bs : List Entry
  bs = entries κ.form (m.words fst)

  abbrev cs : List Entry
  cs = entries κ.form (m.words snd)

  at_p : u.words p ≡ m.words p
  at_p = parent_same κ p i l m near u join

  at_a : t.words fst ≡ u.words fst
  at_a = ap (λ z. z.words fst) back.after ∙ with_at_other w.words snd (λ z. 0) fst (apart_ac κ p i l m near) ∙ other_holds κ.form v w p fst _ put (apart_ap κ p i l m near) ∙ other_holds κ.form u v p fst _ less (apart_ap κ p i l m near)

  same_p : t.words p ≡ w.words p
  same_p = ap (λ z. z.words p) back.after ∙ with_at_other w.words snd (λ z. 0) p (λ q. apart_cp κ p i l m near (sym q))

  all : Step m t (p ∷ fst ∷ snd ∷ []) (p ∷ fst ∷ [])
  all =
      let F = p ∷ fst ∷ snd ∷ [] in
      let one = step_wider m u (fst ∷ []) (fst ∷ []) F F (λ x. omega arith) (λ x. omega arith) (step_block m u fst _ join.frame) in
      let two = step_wider u v (p ∷ []) (p ∷ []) F F (λ x. omega arith) (λ x. omega arith) (step_block u v p _ less.frame) in
      let three = step_wider v w (p ∷ []) (p ∷ []) F F (λ x. omega arith) (λ x. omega arith) (step_block v w p _ put.frame) in
      let four = step_wider w t (snd ∷ []) [] F (p ∷ fst ∷ []) (λ x. omega arith) (λ x. omega arith) (step_give w t snd back) in
      step_then m w t _ _ _ (step_then m v w _ _ _ (step_then m u v _ _ _ one two) three) four

  a_is : entries κ.form (t.words fst) ≡ bs ++ cs
  a_is = ap (entries κ.form) at_a ∙ join.entries_are

  whole_feet : (x : ℕ) → times x (p ∷ pooled_feet κ p i l m) ≡ cond (eqb x p) 1 0 + ((cond (eqb x fst) 1 0 + times x (joined (foot κ m.words l) bs)) + (cond (eqb x snd) 1 0 + times x (joined (foot κ m.words l) cs)))
  whole_feet x = omega (arith, times_append x (feet κ m.words l fst) (feet κ m.words l snd))

  both : (x : ℕ) → times x (joined (foot κ m.words l) (bs ++ cs)) ≡ times x (joined (foot κ m.words l) bs) + times x (joined (foot κ m.words l) cs)
  both x = times_joined (foot κ m.words l) x bs cs

  kids : Sames κ m.words t.words l (bs ++ cs)
  kids = frames κ m.words t.words l (bs ++ cs) (λ x h. all.kept x (omega (arith, near.owned x, whole_feet x, both x)))

  node_a : node κ t.words l fst ≡ pooled κ p i l m
  node_a = ap (map (item κ t.words l)) a_is ∙ kids.items ∙ map-append (item κ m.words l) bs cs

  p_is : entries κ.form (t.words p) ≡ take i (entries κ.form (m.words p)) ++ ((e ∷ []) ++ drop (i + 2) (entries κ.form (m.words p)))
  p_is =
      ap (entries κ.form) same_p ∙ put.entries_are
      ∙ ap (λ z. take i z ++ (e ∷ drop (i + 1) z)) (less.entries_are ∙ ap (λ β. take (i + 1) (entries κ.form β) ++ drop (i + 1 + 1) (entries κ.form β)) at_p)
      ∙ one_entry (entries κ.form (m.words p)) i e (omega (arith, near.within, entries_length κ.form (m.words p)))

  right_e : Right κ t.words (suc l) e
  right_e = (
    wt_is ∙ ap (weight K (suc l)) (sym node_a),
    key_is ∙ ap (smallest_words κ (suc l)) (sym node_a),
    near.left.2,
    ap (λ β. β 0) at_a ∙ join.level ∙ near.left.3,
    omega (arith, entries_length κ.form (t.words fst), ap length a_is, length-append bs cs, entries_length κ.form (m.words fst), entries_length κ.form (m.words snd), few_both κ p i l m near many),
    subst (AllByRecursion (Right κ t.words l)) (sym a_is) (kids.right (all_append (Right κ m.words l) bs cs near.left.5 near.right.5)),
  )

  pub merged : Exchanged κ p i 2 l (pooled_feet κ p i l m) (pooled κ p i l m ∷ []) m t
  merged =
      let es = entries κ.form (m.words p) in
      record {
        new = e ∷ [];
        entries_are = p_is;
        few = omega (arith, entries_length κ.form (t.words p), ap length p_is, length-append (take i es) (e ∷ drop (i + 2) es), length-take-le i es (omega (arith, near.within, entries_length κ.form (m.words p))), length-drop (i + 2) es, entries_length κ.form (m.words p), near.parent.few);
        level = ap (λ β. β 0) same_p ∙ put.level ∙ less.level ∙ ap (λ β. β 0) at_p;
        items = ap (λ z. z ∷ []) node_a;
        right = (right_e, tt);
        step = step_wider m t (p ∷ fst ∷ snd ∷ []) (p ∷ fst ∷ []) _ (p ∷ joined (foot κ t.words (suc l)) (e ∷ []))
            (λ x. omega (arith, whole_feet x, both x, times_append x (feet κ t.words l fst) [], ap (times x) (ap (joined (foot κ t.words l)) a_is ∙ kids.feet_are)))
            (λ x. omega (arith, whole_feet x))
            all;
      }

-- the same of a pair of siblings as the code has it
module _ {K : Type 0} (κ : Kind K) (law : Lawful κ) (many : 80 ≤ κ.form.places) (s : Siblings K) (m : Meaning) (d : Mergeable κ s m) where
  abbrev at : ℕ
  at = s.left.parent

  abbrev pl : ℕ
  pl = s.left.place

  abbrev lv : ℕ
  lv = s.left.child.level

  abbrev one : ℕ
  one = (entry_at κ.form (m.words s.left.parent) s.left.place).child

  abbrev two : ℕ
  two = (entry_at κ.form (m.words s.left.parent) (s.left.place + 1)).child

  pub left_is : s.left.child.block ≡ (entry_at κ.form (m.words s.left.parent) s.left.place).child
  left_is = ap (λ z. z.block) d.pair.left_child

  pub right_is : s.right.child.block ≡ (entry_at κ.form (m.words s.left.parent) (s.left.place + 1)).child
  right_is = ap (λ z. z.block) d.pair.right_child

  pub pair_joinable : Joinable κ.form s.right.child.block s.left.child.block m
  pair_joinable = subst (λ z. Joinable κ.form z s.left.child.block m) (sym right_is) (subst (λ z. Joinable κ.form two z m) (sym left_is) (joinable κ at pl lv m d.near many))

  pub join_at : (u : Meaning) → Joined κ.form s.right.child.block s.left.child.block m tt u → Joined κ.form two one m tt u
  join_at u h = subst (λ z. Joined κ.form z one m tt u) right_is (subst (λ z. Joined κ.form s.right.child.block z m tt u) left_is h)

  pub pair_has_right : (u : Meaning) → Joined κ.form s.right.child.block s.left.child.block m tt u → Has κ.form s.right.parent s.right.place u
  pair_has_right u h = subst (λ z. Has κ.form z s.right.place u) (sym d.pair.right_parent) (subst (λ z. Has κ.form at z u) (sym d.pair.right_place) (has_right κ at pl lv m d.near u (join_at u h)))

  less_at : (u v : Meaning) → Changed κ.form s.right.parent (remove_at s.right.place) u tt v → Changed κ.form at (remove_at (pl + 1)) u tt v
  less_at u v h = subst (λ z. Changed κ.form at (remove_at z) u tt v) d.pair.right_place (subst (λ z. Changed κ.form z (remove_at s.right.place) u tt v) d.pair.right_parent h)

  pub pair_has_left : (u v : Meaning) → Joined κ.form s.right.child.block s.left.child.block m tt u → Changed κ.form s.right.parent (remove_at s.right.place) u tt v → Has κ.form s.left.parent s.left.place v
  pair_has_left u v h j = has_left κ at pl lv m d.near u (join_at u h) v (less_at u v j)

  -- the right block is granted as long as the parent and the left one are all that changes
  pub pair_granted : (u v w : Meaning) (xs ys zs : List Entry) (a b c : ℕ) → Holds κ.form a xs m u → Holds κ.form b ys u v → Holds κ.form c zs v w → w.granted s.right.child.block ≡ true
  pair_granted u v w xs ys zs a b c h j k = ap (λ z. w.granted z) right_is ∙ (room_holds κ.form v w c two zs k (room_holds κ.form u v b two ys j (room_holds κ.form m u a two xs h (room_c κ at pl lv m d.near)))).granted

  pub pair_merged : (u v w t : Meaning) (e : Coded K) → e.weight ≡ s.weight → e.key ≡ s.low → e.child ≡ s.left.child.block →
      Joined κ.form s.right.child.block s.left.child.block m tt u → Changed κ.form s.right.parent (remove_at s.right.place) u tt v → Changed κ.form s.left.parent (replace_at s.left.place (entry_of κ.packed e)) v tt w →
      GiveDone w s.right.child.block t → Merged κ s m tt t
  pair_merged u v w t e ew ek ec join less put back =
      let e_is : entry_of κ.packed e ≡ record { weight = s.weight; key = κ.packed s.low; child = one } = (λ z. record { weight = ew z; key = κ.packed (ek z); child = (ec ∙ left_is) z }) in
      merged κ law many at pl lv s.weight (κ.packed s.low) m u v w t d.near
      (d.pair.weight ∙ pooled_weight κ at pl lv m d.near)
      (ap κ.packed d.pair.low ∙ low_words κ law at pl lv m d.near)
      (join_at u join) (less_at u v less) (subst (λ z. Changed κ.form at (replace_at pl z) v tt w) e_is put) (subst (λ z. GiveDone w z t) right_is back)

-- what was done before the right block is given back
pub record Written {K : Type 0} (κ : Kind K) (s : Siblings K) (e : Coded K) (m u v w : Meaning) : Type 0 where
  pub join : Joined κ.form s.right.child.block s.left.child.block m tt u
  pub less : Changed κ.form s.right.parent (remove_at s.right.place) u tt v
  pub put : Changed κ.form s.left.parent (replace_at s.left.place (entry_of κ.packed e)) v tt w

module _ {K : Type 0} (κ : Kind K) (law : Lawful κ) (many : 80 ≤ κ.form.places) where
  pub merge_ends : (s : Siblings K) (m u v w t : Meaning) (e : Coded K) (r : Result (Unit {0}) Fault) → e.weight ≡ s.weight → e.key ≡ s.low → e.child ≡ s.left.child.block →
      (Mergeable κ s m → Written κ s e m u v w) → Give s.right.child.block w r t → Deep w r → Work (Mergeable κ s) (Merged κ s) m r t
  merge_ends s m u v w t e (Ok x) ew ek ec f give deep = λ d. let z = f d in pair_merged κ law many s m d u v w t e ew ek ec z.join z.less z.put give
  merge_ends s m u v w t e (Err x) ew ek ec f give deep = λ d.
      let z = f d in
      lost_later (kin_then (kin_then (kin_holds z.join) (kin_holds z.less)) (kin_holds z.put)) (give_work w t s.right.child.block (Err x) give deep (pair_granted κ law many s m d u v w _ _ _ _ _ _ z.join z.less z.put))
