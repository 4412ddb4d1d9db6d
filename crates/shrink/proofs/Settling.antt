-- A parent whose child lost a key: the child's entry corrected, and the child merged if it is too light.
use Rattle.std.proofs.Common.{◌≡◌, ℕ, zero, suc, ◌+◌, ◌-◌, ◌*◌, ◌/◌, ◌<◌, ◌≤◌, true, false, cond, eqb, List, [], ◌∷◌, ◌++◌, map, Ok, Err, Result, length, get_or, take, drop, sym, refl, ap, ap₂, ◌∙◌, subst, ◌⊎◌, inl, inr, ⊎_elim, arith}
use Rattle.std.proofs.lemmas.List.{length-append, length-take-le, length-drop, take-append-drop, take-map, drop-map, drop_more, map-append}
use Rattle.std.proofs.lemmas.Bool.{lt-ltb, le-ltb, ltb-true, cond-true, cond-false}
use Rattle.std.proofs.ByRecursion.{All-get_or}
use Rattle.std.specs.List.{AllByRecursion}
use Rattle.store.specs.Meaning.{Meaning}
use Rattle.nodes.specs.declared.entry.Entry.{Entry as Coded}
use Rattle.store.specs.declared.fault.Fault.{Fault}
use Rattle.copies.specs.Work.{Work}
use Rattle.copies.specs.Blocks.{Word}
use Rattle.copies.proofs.Exits.{lost_later}
use Rattle.nodes.specs.Places.{weight_at}
use Rattle.nodes.specs.Nodes.{Entry, Room, Has, Changed, Weighs, Keyed, entry_of, entries, entry_at, replace_at}
use Rattle.nodes.proofs.Rooms.{room_place}
use Rattle.plain.proofs.Alls.{all_append, all_map}
use Rattle.tree.specs.declared.mark.Mark.{Mark}
use Rattle.tree.specs.declared.mark.Mark.TheVariants.{Nothing}
use Rattle.tree.specs.Lists.{joined}
use Rattle.tree.specs.Tree.{Item, index_unit, weight, Fit, under, fused, fused_mark, merged, merged_mark}
use Rattle.tree.proofs.Lists.{total_append}
use Rattle.tree.proofs.Units.{unit_some}
use Rattle.balance.specs.declared.way.Way.{Way}
use Rattle.balance.specs.Limits.{limit_of}
use Rattle.balance.proofs.Levels.{index_units, limit_unit}
use Rattle.balance.proofs.Weights.{entries_length, entries_at}
use Rattle.held.specs.Held.{Kind, Lawful, item, node, foot, feet, smallest_words, Right, Whole, times, Owned, Step}
use Rattle.held.proofs.Child.{entries_split, all_at, item_at, node_length}
use Rattle.held.proofs.Feet.{times_append, times_three, times_head, owned_step, owned_part, step_then, step_wider}
use Rattle.held.proofs.Frames.{Sames, frames, frame_node, node_is, whole_is, step_is}
use Rattle.held.proofs.Halving.{entry_small}
use Rattle.held.proofs.Steps.{bit_true, step_block}
use Rattle.shrink.specs.Merges.{Neighbours, Fused, pooled_feet}
use Rattle.shrink.specs.Deletes.{Stale, Mended, led, lefts, rights}
use Rattle.shrink.proofs.Fusing.{onto_back, about, fused_at}
use Rattle.shrink.proofs.Back.{kin_holds}
use Rattle.shrink.proofs.Merging.{room_holds}

-- two entries of a node among all
two_split : (es : List Entry) (i : ℕ) (d : Entry) → i + 1 < length es → es ≡ take i es ++ ((get_or es i d ∷ get_or es (i + 1) d ∷ []) ++ drop (i + 2) es)
two_split es i d h =
    let more : i + 1 + 1 ≡ i + 2 = omega arith in
    sym (take-append-drop i es) ∙ ap (λ z. take i es ++ z) (drop_more es i d (omega arith) ∙ ap (λ z. get_or es i d ∷ z) (drop_more es (i + 1) d h ∙ ap (λ n. get_or es (i + 1) d ∷ drop n es) more))

module _ {K : Type 0} (κ : Kind K) (law : Lawful κ) where
  -- the first entry's key is the node's smallest
  start_words : (ω : ℕ → ℕ → ℕ) (l b : ℕ) → Whole κ ω l b → AllByRecursion (Fit K index_unit l) (node κ ω l b) → 1 ≤ weight K (suc l) (node κ ω l b) → κ.packed (κ.unpacked (entry_at κ.form (ω b) 0).key) ≡ smallest_words κ (suc l) (node κ ω l b)
  start_words ω l b w f h =
      let e = entry_at κ.form (ω b) 0 in
      let some : 0 < ω b 1 = go (entries κ.form (ω b)) h (entries_length κ.form (ω b)) in
      let split : entries κ.form (ω b) ≡ e ∷ drop 1 (entries κ.form (ω b)) = entries_split κ.form (ω b) 0 some in
      sym (entry_small κ law ω l e (all_at (Right κ ω l) κ.form (ω b) 0 some w.2) (subst (AllByRecursion (Fit K index_unit l)) (ap (map (item κ ω l)) split) f).0) ∙ sym (ap (λ z. smallest_words κ (suc l) (map (item κ ω l) z)) split)
    where
      go : (es : List Entry) → 1 ≤ weight K (suc l) (map (item κ ω l) es) → length es ≡ ω b 1 → 0 < ω b 1
      go [] h e = absurd (omega arith)
      go (x ∷ es) h e = omega (arith, e)

  module _ (w : Way) (m : Meaning) (d : Stale κ w m) where
    abbrev l : ℕ
    l = w.child.level

    abbrev p : ℕ
    p = w.parent

    abbrev es : List Entry
    es = entries κ.form (m.words w.parent)

    abbrev xs : Item K (suc (suc w.child.level))
    xs = node κ m.words (suc w.child.level) w.parent

    abbrev y : Item K (suc w.child.level)
    y = node κ m.words w.child.level w.child.block

    some_weight : 1 ≤ weight K (suc l) y
    some_weight = omega (arith, d.heavy, unit_some index_unit index_units l)

    long : length xs ≡ m.words p 1
    long = node_length κ m.words (suc l) p

    here_is : get_or xs w.place [] ≡ y
    here_is = item_at κ m.words (suc l) p w.place [] d.within ∙ ap (node κ m.words l) d.names

    split : es ≡ take w.place es ++ ((entry_at κ.form (m.words p) w.place ∷ []) ++ drop (w.place + 1) es)
    split = entries_split κ.form (m.words p) w.place d.within

    -- the parent's blocks in parts
    parts : (c : ℕ) → times c (feet κ m.words (suc l) p) ≡ cond (eqb c p) 1 0 + (times c (joined (foot κ m.words (suc l)) (take w.place es)) + (times c (feet κ m.words l w.child.block) + times c (joined (foot κ m.words (suc l)) (drop (w.place + 1) es))))
    parts c =
        let f = foot κ m.words (suc l) in
        let e = entry_at κ.form (m.words p) w.place in
        omega (arith, ap (λ z. times c (joined f z)) split, times_three f c (take w.place es) (e ∷ []) (drop (w.place + 1) es), times_append c (f e) [], ap (λ z. times c (feet κ m.words l z)) d.names)

    pub stale_word : Word p (weight_at w.place) m
    stale_word = room_place κ.form p (weight_at w.place) m (omega (arith, d.within, d.parent.few)) d.parent.room

    pub stale_room : Room κ.form w.child.block m
    stale_room = record { granted = bit_true (m.granted w.child.block) (omega (arith, d.owned w.child.block, parts w.child.block, times_head w.child.block (joined (foot κ m.words l) (entries κ.form (m.words w.child.block))))); wide = d.parent.room.wide }

    pub stale_has : {n : Meaning} → n ≡ m → Has κ.form p w.place n
    stale_has e = subst (Has κ.form p w.place) (sym e) (record { room = d.parent.room; has = d.within; few = d.parent.few })

    -- after its entry was corrected
    module _ (u : Meaning) (e : Coded K) (ew : e.weight ≡ (entry_at κ.form (m.words w.parent) w.place).weight - 1) (ek : e.key ≡ κ.unpacked (entry_at κ.form (m.words w.child.block) 0).key) (ec : e.child ≡ w.child.block)
        (put : Changed κ.form w.parent (replace_at w.place (entry_of κ.packed e)) m tt u) where
      abbrev E : Entry
      E = record { weight = e.weight; key = κ.packed e.key; child = w.child.block }

      e_is : entry_of κ.packed e ≡ E
      e_is = λ z. record { weight = e.weight; key = κ.packed e.key; child = ec z }

      one : Step m u (p ∷ []) (p ∷ [])
      one = step_block m u p (u.words p) put.frame

      front : Sames κ m.words u.words (suc l) (take w.place es)
      front = frames κ m.words u.words (suc l) (take w.place es) (λ c g. one.kept c (omega (arith, d.owned c, parts c)))

      back : Sames κ m.words u.words (suc l) (drop (w.place + 1) es)
      back = frames κ m.words u.words (suc l) (drop (w.place + 1) es) (λ c g. one.kept c (omega (arith, d.owned c, parts c)))

      kid : (node κ u.words l w.child.block ≡ y) × (feet κ u.words l w.child.block ≡ feet κ m.words l w.child.block) × (Whole κ m.words l w.child.block → Whole κ u.words l w.child.block)
      kid = frame_node κ m.words u.words l w.child.block (λ c g. one.kept c (omega (arith, d.owned c, parts c)))

      now : entries κ.form (u.words p) ≡ take w.place es ++ (E ∷ drop (w.place + 1) es)
      now = put.entries_are ∙ ap (λ z. take w.place es ++ (z ∷ drop (w.place + 1) es)) e_is

      pub node_same : node κ u.words (suc l) p ≡ xs
      node_same =
          let f = item κ u.words (suc l) in
          let g = item κ m.words (suc l) in
          let A = take w.place es in
          let C = drop (w.place + 1) es in
          ap (map f) now ∙ map-append f A (E ∷ C) ∙ ap₂ ◌++◌ front.items (ap₂ ◌∷◌ kid.0 back.items)
          ∙ sym (ap (map g) split ∙ map-append g A (entry_at κ.form (m.words p) w.place ∷ C) ∙ ap (λ z. map g A ++ (node κ m.words l z ∷ map g C)) d.names)

      right_now : Right κ u.words (suc l) E
      right_now =
          let whole = kid.2 d.whole in (
            omega (arith, ew, d.weighs, ap (weight K (suc l)) kid.0),
            ap κ.packed ek ∙ start_words m.words l w.child.block d.whole d.fits some_weight ∙ ap (smallest_words κ (suc l)) (sym kid.0),
            d.number,
            whole.0,
            whole.1,
            whole.2,
          )

      same_count : u.words p 1 ≡ m.words p 1
      same_count = omega (arith, entries_length κ.form (u.words p), ap length now, length-append (take w.place es) (E ∷ drop (w.place + 1) es), length-take-le w.place es (omega (arith, d.within, entries_length κ.form (m.words p))), length-drop (w.place + 1) es, entries_length κ.form (m.words p), d.within)

      pub whole_now : Whole κ u.words (suc l) p
      whole_now = (
        put.level ∙ d.level,
        omega (arith, same_count, d.parent.few),
        subst (AllByRecursion (Right κ u.words (suc l))) (sym now) (all_append (Right κ u.words (suc l)) (take w.place es) (E ∷ drop (w.place + 1) es) (front.right d.before) (right_now, back.right d.after)),
      )

      feet_now : (c : ℕ) → times c (feet κ u.words (suc l) p) ≡ times c (feet κ m.words (suc l) p)
      feet_now c =
          let f = foot κ u.words (suc l) in
          omega (
            arith,
            parts c,
            ap (λ z. times c (joined f z)) now,
            times_three f c (take w.place es) (E ∷ []) (drop (w.place + 1) es),
            times_append c (f E) [],
            ap (times c) front.feet_are,
            ap (times c) back.feet_are,
            ap (times c) kid.1,
          )

      pub step_now : Step m u (feet κ m.words (suc l) p) (feet κ u.words (suc l) p)
      step_now = step_wider m u (p ∷ []) (p ∷ []) (feet κ m.words (suc l) p) (feet κ u.words (suc l) p) (λ c. omega (arith, feet_now c)) (λ c. omega (arith, parts c)) one

      pub owned_now : Owned u (feet κ u.words (suc l) p)
      owned_now = owned_step m u (feet κ m.words (suc l) p) (feet κ u.words (suc l) p) step_now d.owned

      -- a child heavy enough stays
      pub stays : limit_of l / 4 ≤ e.weight → Mended κ w m Nothing u
      stays h =
          let big : under K index_unit l y ≡ false = le-ltb _ _ (omega (arith, limit_unit l d.low, h, ew, d.weighs)) in
          record {
            node_is = node_same ∙ sym (cond-false _ _ _ big ∙ onto_back (take w.place xs) (y ∷ rights κ w m) ∙ ap (λ z. take w.place xs ++ (z ∷ drop (w.place + 1) xs)) (sym here_is) ∙ about xs w.place [] (omega (arith, long, d.within)));
            whole = whole_now;
            step = step_now;
            marked = sym (cond-false _ _ _ big);
          }

      -- any child, near enough to the rules to be merged
      record Tame (x : Item K (suc l)) : Type 0 where
        pub some : 1 ≤ weight K (suc l) x
        pub light : weight K (suc l) x ≤ 8 * index_unit l
        pub fits : AllByRecursion (Fit K index_unit l) x

      tame_fit : (x : Item K (suc l)) → Fit K index_unit (suc l) x → Tame x
      tame_fit x f = record { some = omega (arith, f.0, unit_some index_unit index_units l); light = f.1; fits = f.2 }

      tame_all : AllByRecursion Tame (node κ u.words (suc l) p)
      tame_all =
          let A = take w.place xs in
          let C = drop (w.place + 1) xs in
          subst (AllByRecursion Tame) (ap (λ z. A ++ (z ∷ C)) (sym here_is) ∙ about xs w.place [] (omega (arith, long, d.within)) ∙ sym node_same)
          (all_append Tame A (y ∷ C) (all_map _ _ A tame_fit d.fits_before) (record { some = some_weight; light = d.light; fits = d.fits }, all_map _ _ C tame_fit d.fits_after))

      -- and so is the one at any place
      tame_at : (i : ℕ) → i < m.words p 1 → Tame (item κ u.words (suc l) (entry_at κ.form (u.words p) i))
      tame_at i h = subst Tame (item_at κ u.words (suc l) p i [] (omega (arith, same_count, h))) (All-get_or Tame (node κ u.words (suc l) p) i [] (omega (arith, node_length κ u.words (suc l) p, same_count, h)) tame_all)

      item_here : item κ u.words (suc l) (entry_at κ.form (u.words p) w.place) ≡ y
      item_here = sym (item_at κ u.words (suc l) p w.place [] (omega (arith, same_count, d.within))) ∙ ap (λ z. get_or z w.place []) node_same ∙ here_is

      right_at : (i : ℕ) → i < m.words p 1 → Right κ u.words (suc l) (entry_at κ.form (u.words p) i)
      right_at i h = all_at (Right κ u.words (suc l)) κ.form (u.words p) i (omega (arith, same_count, h)) whole_now.2

      -- the two that are merged, at the places j and j + 1
      module _ (j : ℕ) (at : j ≡ w.place - 1) where
        abbrev e1 : Entry
        e1 = entry_at κ.form (u.words w.parent) j

        abbrev e2 : Entry
        e2 = entry_at κ.form (u.words w.parent) (j + 1)

        abbrev os : List Entry
        os = entries κ.form (u.words w.parent)

        inside : j + 1 < m.words p 1
        inside = omega (arith, at, d.within, d.two)

        was : os ≡ take j os ++ ((e1 ∷ e2 ∷ []) ++ drop (j + 2) os)
        was =
            two_split os j e1 (omega (arith, entries_length κ.form (u.words p), same_count, inside))
            ∙ ap₂ (λ x z. take j os ++ ((x ∷ z ∷ []) ++ drop (j + 2) os)) (entries_at κ.form (u.words p) j e1 (omega (arith, same_count, inside))) (entries_at κ.form (u.words p) (j + 1) e1 (omega (arith, same_count, inside)))

        pair_parts : (c : ℕ) → times c (feet κ u.words (suc l) p) ≡ cond (eqb c p) 1 0 + (times c (joined (foot κ u.words (suc l)) (take j os)) + (times c (pooled_feet κ p j l u) + times c (joined (foot κ u.words (suc l)) (drop (j + 2) os))))
        pair_parts c =
            let f = foot κ u.words (suc l) in
            omega (arith, ap (λ z. times c (joined f z)) was, times_three f c (take j os) (e1 ∷ e2 ∷ []) (drop (j + 2) os), times_append c (f e1) (f e2 ++ []), times_append c (f e2) [], times_append c (f e1) (f e2))

        which : (i : ℕ) → j ≡ i - 1 → (j ≡ i) ⊎ (j + 1 ≡ i)
        which zero q = inl (omega (arith, q))
        which (suc i) q = inr (omega (arith, q))

        small : under K index_unit l y ≡ true → weight K (suc l) (item κ u.words (suc l) e1) + weight K (suc l) (item κ u.words (suc l) e2) ≤ 10 * index_unit l
        small t =
            let few = ltb-true _ _ t in
            let x1 = tame_at j (omega (arith, inside)) in
            let x2 = tame_at (j + 1) inside in
            let weight_of : ℕ → ℕ = λ i. weight K (suc l) (item κ u.words (suc l) (entry_at κ.form (u.words p) i)) in
            let here : weight_of w.place ≡ weight K (suc l) y = ap (weight K (suc l)) item_here in
            ⊎_elim (λ q. omega (arith, few, x2.light, ap weight_of q, here)) (λ q. omega (arith, few, x1.light, ap weight_of q, here)) (which w.place at)

        pub near : under K index_unit l y ≡ true → Neighbours κ p j l u
        near t = record {
          parent = record { room = room_holds κ.form m u p p _ put d.parent.room; few = whole_now.1 };
          within = omega (arith, same_count, inside);
          low = d.low;
          left = right_at j (omega (arith, inside));
          right = right_at (j + 1) inside;
          fits = all_append (Fit K index_unit l) (item κ u.words (suc l) e1) (item κ u.words (suc l) e2) (tame_at j (omega (arith, inside))).fits (tame_at (j + 1) inside).fits;
          some = (tame_at j (omega (arith, inside))).some;
          light = omega (arith, small t, total_append (weight K l) (item κ u.words (suc l) e1) (item κ u.words (suc l) e2));
          owned = owned_part u (feet κ u.words (suc l) p) (p ∷ pooled_feet κ p j l u) (λ c. omega (arith, pair_parts c)) owned_now;
        }

        -- a child too light is merged
        module _ (n : Meaning) (mark : Mark) (done : Fused κ w.parent j w.child.level u mark n) where
          step : Step u n (p ∷ joined (foot κ u.words (suc l)) (e1 ∷ e2 ∷ [])) (p ∷ joined (foot κ n.words (suc l)) done.entry.new)
          step =
              let f = foot κ u.words (suc l) in
              let G = p ∷ joined (foot κ n.words (suc l)) done.entry.new in
              let same : (c : ℕ) → times c (joined f (e1 ∷ e2 ∷ [])) ≡ times c (pooled_feet κ p j l u) = λ c. omega (arith, times_append c (f e1) (f e2 ++ []), times_append c (f e2) [], times_append c (f e1) (f e2)) in
              step_wider u n (p ∷ pooled_feet κ p j l u) G (p ∷ joined f (e1 ∷ e2 ∷ [])) G (λ c. omega (arith, same c)) (λ c. omega (arith, same c)) done.entry.step

          fused_now : node κ n.words (suc l) p ≡ fused K index_unit l (lefts κ w m) (get_or xs w.place []) (rights κ w m)
          fused_now =
              let f = item κ u.words (suc l) in
              let N = node κ u.words (suc l) p in
              let i1 : get_or N j [] ≡ f e1 = item_at κ u.words (suc l) p j [] (omega (arith, same_count, inside)) in
              let i2 : get_or N (j + 1) [] ≡ f e2 = item_at κ u.words (suc l) p (j + 1) [] (omega (arith, same_count, inside)) in
              let all : (N : Item K (suc (suc l))) → Item K (suc (suc l)) = λ z. take j z ++ (merged K index_unit l (get_or z j [] ++ get_or z (j + 1) []) ++ drop (j + 2) z) in
              node_is κ u n (suc l) p (take j os) (e1 ∷ e2 ∷ []) done.entry.new (drop (j + 2) os) owned_now was done.entry.entries_are step
              ∙ ap₂ (λ a b. a ++ (map (item κ n.words (suc l)) done.entry.new ++ b)) (sym (take-map f j os)) (sym (drop-map f (j + 2) os))
              ∙ ap (λ z. take j N ++ (z ++ drop (j + 2) N)) (done.entry.items ∙ ap₂ (λ a b. merged K index_unit l (a ++ b)) (sym i1) (sym i2))
              ∙ ap all node_same
              ∙ sym (fused_at K index_unit l xs w.place j at (omega (arith, long, d.within)) (omega (arith, long, d.two))).fused_is

          mark_now : mark ≡ fused_mark K index_unit l (lefts κ w m) (get_or xs w.place []) (rights κ w m)
          mark_now =
              let f = item κ u.words (suc l) in
              let N = node κ u.words (suc l) p in
              let i1 : get_or N j [] ≡ f e1 = item_at κ u.words (suc l) p j [] (omega (arith, same_count, inside)) in
              let i2 : get_or N (j + 1) [] ≡ f e2 = item_at κ u.words (suc l) p (j + 1) [] (omega (arith, same_count, inside)) in
              done.marked ∙ ap₂ (λ a b. merged_mark K index_unit l (a ++ b)) (sym i1) (sym i2) ∙ ap (λ z. merged_mark K index_unit l (get_or z j [] ++ get_or z (j + 1) [])) node_same
              ∙ sym (fused_at K index_unit l xs w.place j at (omega (arith, long, d.within)) (omega (arith, long, d.two))).mark_is

          pub mends : under K index_unit l y ≡ true → Mended κ w m mark n
          mends t = record {
            node_is = fused_now ∙ ap (λ z. fused K index_unit l (lefts κ w m) z (rights κ w m)) here_is ∙ sym (cond-true _ _ _ t);
            whole = whole_is κ u n (suc l) p (take j os) (e1 ∷ e2 ∷ []) done.entry.new (drop (j + 2) os) owned_now was done.entry.entries_are step done.entry.level done.entry.few done.entry.right whole_now;
            step = step_then m u n _ _ _ step_now (step_is κ u n (suc l) p (take j os) (e1 ∷ e2 ∷ []) done.entry.new (drop (j + 2) os) owned_now was done.entry.entries_are step);
            marked = mark_now ∙ ap (λ z. fused_mark K index_unit l (lefts κ w m) z (rights κ w m)) here_is ∙ sym (cond-true _ _ _ t);
          }

-- the child's entry now has its weight and its smallest key
pub record Corrected {K : Type 0} (κ : Kind K) (w : Way) (m : Meaning) (e : Coded K) (u : Meaning) : Type 0 where
  pub weight_is : e.weight ≡ (entry_at κ.form (m.words w.parent) w.place).weight - 1
  pub key_is : e.key ≡ κ.unpacked (entry_at κ.form (m.words w.child.block) 0).key
  pub child_is : e.child ≡ w.child.block
  pub put : Changed κ.form w.parent (replace_at w.place (entry_of κ.packed e)) m tt u

module _ {K : Type 0} (κ : Kind K) (law : Lawful κ) where
  -- by what was read
  pub corrected : (w : Way) (m a b u : Meaning) (v x : ℕ) (k : K) (e : Coded K) → Stale κ w m → Weighs w.parent w.place m v a → Keyed κ.form κ.unpacked w.child.block 0 a k b → e.weight ≡ x → x ≡ v - 1 → e.key ≡ k → e.child ≡ w.child.block →
      Changed κ.form w.parent (replace_at w.place (entry_of κ.packed e)) b tt u → Corrected κ w m e u
  corrected w m a b u v x k e d light key ew ex ek ec put = record {
    weight_is = ew ∙ ex ∙ ap (λ z. z - 1) (light.value κ.form);
    key_is = ek ∙ key.value ∙ ap (λ z. κ.unpacked (entry_at κ.form (z.words w.child.block) 0).key) light.same;
    child_is = ec;
    put = subst (λ z. Changed κ.form w.parent (replace_at w.place (entry_of κ.packed e)) z tt u) (key.same ∙ light.same) put;
  }

  pub settled_heavy : (w : Way) (m : Meaning) (e : Coded K) (u : Meaning) → Stale κ w m → Corrected κ w m e u → limit_of w.child.level / 4 ≤ e.weight → Mended κ w m Nothing u
  settled_heavy w m e u d c h = stays κ law w m d u e c.weight_is c.key_is c.child_is c.put h

  pub settle_ends : (w : Way) (m : Meaning) (e : Coded K) (u n : Meaning) (r : Result Mark Fault) → (Stale κ w m → Corrected κ w m e u) → e.weight < limit_of w.child.level / 4 →
      Work (Neighbours κ w.parent (w.place - 1) w.child.level) (Fused κ w.parent (w.place - 1) w.child.level) u r n → Work (Stale κ w) (Mended κ w) m r n
  settle_ends w m e u n r before h work = go r work
    where
      less : (d : Stale κ w m) → under K index_unit w.child.level (led κ w m) ≡ true
      less d = lt-ltb _ _ (omega (arith, limit_unit w.child.level d.low, h, (before d).weight_is, d.weighs))

      close : (d : Stale κ w m) → Neighbours κ w.parent (w.place - 1) w.child.level u
      close d = let c = before d in near κ law w m d u e c.weight_is c.key_is c.child_is c.put (w.place - 1) refl (less d)

      go : (r : Result Mark Fault) → Work (Neighbours κ w.parent (w.place - 1) w.child.level) (Fused κ w.parent (w.place - 1) w.child.level) u r n → Work (Stale κ w) (Mended κ w) m r n
      go (Ok mark) f = λ d. let c = before d in mends κ law w m d u e c.weight_is c.key_is c.child_is c.put (w.place - 1) refl n mark (f (close d)) (less d)
      go (Err x) f = λ d. lost_later (kin_holds (before d).put) (f (close d))
