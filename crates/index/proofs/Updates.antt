-- The blocks of an index after an update, once its header is written.
use Rattle.std.proofs.Common.{◌≡◌, ℕ, ◌+◌, ◌*◌, ◌≤◌, Bool, true, false, ◌==◌, nat_lt, nat_le, cond, not, is_some, Option, Some, None, suc, ◌∷◌, List, length, Ok, Err, ◌≢◌, ⊎_elim, sym, refl, ap, ◌∙◌, subst, arith}
use Rattle.std.specs.List.{AllByRecursion}
use Rattle.std.proofs.lemmas.Bool.{eq-eqb, cond-true}
use Rattle.store.specs.Meaning.{Meaning, free}
use Rattle.store.specs.Calls.{Lost, Leaves}
use Rattle.store.specs.Faults.{number_of}
use Rattle.store.specs.declared.fault.Fault.{Fault}
use Rattle.store.specs.declared.fault.Refusal.{Refusal}
use Rattle.store.specs.declared.fault.Refusal.TheVariants.{Down}
use Rattle.copies.specs.Blocks.{edit, filled}
use Rattle.copies.proofs.Edits.{edit_here, edit_other, edit_granted, edit_frame}
use Rattle.nodes.specs.Headers.{Headroom, header_words}
use Rattle.nodes.specs.Places.{breadth}
use Rattle.nodes.specs.declared.header.Header.{Header}
use Rattle.tree.specs.Tree.{Tree, Update, adds, drops, index_shape, index_unit, content, weight, pairs, Fit, Kids}
use Rattle.tree.specs.Counts.{taken}
use Rattle.plain.specs.Plain.{Sorted, present, one_more}
use Rattle.balance.specs.Marks.{mark_at}
use Rattle.balance.specs.Updates.{RefusedFor}
use Rattle.balance.specs.declared.marks.Marks.{Marks}
use Rattle.tree.specs.Runs.{takes_up}
use Rattle.balance.specs.declared.update.Updated.{Updated}
use Rattle.held.specs.Held.{Kind, Lawful, feet, times, bit}
use Rattle.held.specs.Roots.{Becomes, tree_of}
use Rattle.held.proofs.Frames.{frame_node}
use Rattle.held.proofs.Steps.{bit_true, bit_most, step_block}
use Rattle.held.proofs.Wholes.{stands_on}
use Rattle.index.specs.Holds.{HoldsTree}
use Rattle.index.specs.Open.{SameHandle}
use Rattle.index.specs.Steps.{Noted}
use Rattle.index.specs.Updated.{refuses, Rewritten, Rewrites, Accepts, Updates, update_fell, update_refused}
use Rattle.index.specs.declared.index.Index.{Index}
use Rattle.index.proofs.Queries.{still_open}
use Rattle.index.proofs.Creates.{filled_at}

-- a number in front occurs once more
pub times_here : (c : ℕ) (ds : List ℕ) → times c (c ∷ ds) ≡ 1 + times c ds
times_here c ds = ap (λ n. n + times c ds) (cond-true (c == c) 1 0 (eq-eqb c c refl))

without_room : (p f b : Bool) → cond {A = Option ℕ} p (Some 3) (cond f (Some 5) (cond b (Some 6) None)) ≡ None → not (is_some (cond {A = Option ℕ} p (Some 3) (cond f (Some 5) (cond false (Some 6) None)))) ≡ true
without_room true f b e = absurd (cc)
without_room false true b e = absurd (cc)
without_room false false b e = refl

there : (p : Bool) → cond {A = Option ℕ} p None (Some 4) ≡ None → not (is_some (cond {A = Option ℕ} p None (Some 4))) ≡ true
there true e = refl
there false e = absurd (cc)

put_reasons : (p f b : Bool) → cond {A = Option ℕ} p (Some 3) (cond f (Some 5) (cond b (Some 6) None)) ≡ Some 1 → ⊥
put_reasons true f b e = cc
put_reasons false true b e = cc
put_reasons false false true e = cc
put_reasons false false false e = cc

cut_reasons : (p : Bool) → cond {A = Option ℕ} p None (Some 4) ≡ Some 1 → ⊥
cut_reasons true e = cc
cut_reasons false e = cc

-- an update without a reason against it is one that the tree takes up
pub taken_up : {K : Type 0} (κ : Kind K) (u : Update K) (n : ℕ) (t : Tree K) → refuses κ u n t ≡ None → takes_up κ.order index_unit index_shape.top t u ≡ true
taken_up κ (adds k h) n t e = without_room (present κ.order k (content _ t)) (nat_le (8 * index_unit index_shape.top) (length (content _ t))) (nat_lt n (taken κ.order index_unit k t)) e
taken_up κ (drops k) n t e = there (present κ.order k (content _ t)) e

module _ {K : Type 0} (κ : Kind K) (law : Lawful κ) (at : ℕ) (h : Header) (u : Update K) (m v : Meaning) (r : Updated) (holds : HoldsTree κ at h (tree_of κ m.words h) m) (made : Becomes κ h u m r v) where
  -- the blocks of the tree after the update
  abbrev new : List ℕ
  new = feet κ v.words r.tree.header.root.level r.tree.header.root.block

  -- the header is none of them
  apart : times at new ≡ 0
  apart = omega (arith, made.step.moved at, holds.exact at, times_here at (feet κ m.words h.root.level h.root.block), bit_most (v.granted at))

  -- it is granted still
  pub head_room : 4 ≤ breadth κ.form → Headroom at v
  head_room four = record {
    granted = bit_true (v.granted at) (omega (arith, made.step.moved at, holds.exact at, times_here at (feet κ m.words h.root.level h.root.block), bit_most (v.granted at), bit_most (m.granted at)));
    wide = omega (arith, four, holds.stands.sits.wide, ap (λ s. s.width) made.step.same_shape);
  }

  pub rewritten : (n : Meaning) → takes_up κ.order index_unit index_shape.top (tree_of κ m.words h) u ≡ true → n ≡ edit v at (filled 0 (header_words κ.form.words r.tree.header) 4) → Rewritten κ at h u m r n
  rewritten n ok e =
      let head = r.tree.header in
      let l = head.root.level in
      let b = head.root.block in
      let F = filled 0 (header_words κ.form.words head) 4 in
      let stands = stands_on κ law h u m r v holds.stands ok made in
      let last = step_block v n at (n.words at) (edit_frame v n at F e) in
      let agree = λ (c : ℕ) (g : 1 ≤ times c new). edit_other v n at c F (λ q. let g' = subst (λ d. 1 ≤ times d new) q g in absurd (omega (arith, apart, g'))) e in
      let same = frame_node κ v.words n.words l b agree in
      let granted : (c : ℕ) → bit (n.granted c) ≡ bit (v.granted c) = λ c. ap (λ f. bit (f c)) (edit_granted v n at F e) in
      let exact : (c : ℕ) → times c (at ∷ feet κ n.words l b) ≡ bit (n.granted c) = λ c.
      omega (arith, made.step.moved c, holds.exact c, ap (times c) same.1, granted c) in
      record {
        holds = record {
          stands = record {
            sits = record {
              wide = omega (arith, stands.sits.wide, ap (λ s. s.width) last.same_shape);
              whole = same.2 stands.sits.whole;
              owned = λ c. omega (arith, exact c);
              kids = subst (Kids K index_unit l) (sym same.0) stands.sits.kids;
              fits = subst (AllByRecursion (Fit K index_unit l)) (sym same.0) stands.sits.fits;
              light = omega (arith, stands.sits.light, ap (weight K (suc l)) same.0);
              ascending = subst (λ x. Sorted κ.order (pairs K (suc l) x)) (sym same.0) stands.sits.ascending;
            };
            keys = stands.keys ∙ sym (ap (weight K (suc l)) same.0);
            low = stands.low;
          };
          tree_is = ap (λ x. record { level = l; root = x }) same.0 ∙ made.tree_is;
          headed = λ j i. ap (λ β. β j) (edit_here v n at F e) ∙ filled_at (header_words κ.form.words head) 4 j (v.words at) i;
          exact = exact;
        };
        marks_are = made.marks;
        same_down = last.same_down ∙ made.step.same_down;
        same_shape = last.same_shape ∙ made.step.same_shape;
        same_below = last.same_below ∙ made.step.same_below;
      }

-- a refusal of the index's own is not 'down'
pub not_down : {K : Type 0} (κ : Kind K) (u : Update K) (n : ℕ) (t : Tree K) (r : Refusal) → refuses κ u n t ≡ Some (number_of r) → r ≢ Down
not_down κ (adds k h) n t r e d = put_reasons (present κ.order k (content _ t)) (nat_le (8 * index_unit index_shape.top) (length (content _ t))) (nat_lt n (taken κ.order index_unit k t)) (e ∙ ap (λ x. Some (number_of x)) d)
not_down κ (drops k) n t r e d = cut_reasons (present κ.order k (content _ t)) (e ∙ ap (λ x. Some (number_of x)) d)

module _ {K S : Type 0} (κ : Kind K) (meaning : S → Meaning) (ready : S → Type 0) (u : Update K) where
  -- an update of the blocks, kept by the index
  pub kept : (i s j : Index K S) (r : Updated) (marks : Marks)
      → (i.fault ≡ None → Leaves meaning ready (Rewrites κ i.header i.tree.header u) i.store (Ok r) s.store)
      → (i.fault ≡ None → s.fault ≡ None)
      → SameHandle i s
      → marks ≡ r.marks
      → j.tree ≡ r.tree
      → j.tally ≡ one_more s.tally
      → (j.store ≡ s.store) × (j.header ≡ s.header) × (j.fault ≡ s.fault)
      → Updates κ meaning ready u i (Ok marks) j
  kept i s j r marks asks keeps h mk tr tl same t o =
      let w = asks o.no_fault o.is_ready in
      let here = subst (λ x. HoldsTree κ i.header i.tree.header x (meaning i.store)) (sym o.holds.tree_is) o.holds in
      let a = w.call here in
      let made : Accepts κ meaning ready u (tree_of κ (meaning i.store).words i.tree.header) i marks j = record {
        no_reason = a.reason;
        holds_new = record {
          is_ready = subst ready (sym same.0) w.ready;
          is_up = ap (λ x. (meaning x).down) same.0 ∙ a.done.same_down ∙ o.is_up;
          no_fault = same.2 ∙ keeps o.no_fault;
          holds = rw (same.1 ∙ h.same_header, tr, same.0) a.done.holds;
        };
        marks_are = λ l. ap (λ x. mark_at x l) mk ∙ a.done.marks_are l;
        tally_is = tl ∙ ap one_more h.same_tally;
        same_header = same.1 ∙ h.same_header;
        same_shape = ap (λ x. (meaning x).shape) same.0 ∙ a.done.same_shape;
      } in
      subst (λ x. Accepts κ meaning ready u x i marks j) o.holds.tree_is made

  -- an update that was not made
  pub not_kept : (i j : Index K S) (f : Fault)
      → (i.fault ≡ None → Leaves meaning ready (Rewrites κ i.header i.tree.header u) i.store (Err f) j.store)
      → (i.fault ≡ None → Noted f j.fault)
      → SameHandle i j
      → Updates κ meaning ready u i (Err f) j
  not_kept i j f asks keeps h t o =
      let w = asks o.no_fault o.is_ready in
      let here = subst (λ x. HoldsTree κ i.header i.tree.header x (meaning i.store)) (sym o.holds.tree_is) o.holds in
      let m = meaning i.store in
      ⊎_elim
      (λ (l : Lost m f (meaning j.store)). update_fell (record { lost = l; remembered = (keeps o.no_fault).down l.refusal; is_ready = w.ready }))
      (λ (x : RefusedFor (refuses κ u (free m) (tree_of κ m.words i.tree.header)) m f (meaning j.store)).
      let clear = (keeps o.no_fault).other (not_down κ u (free m) (tree_of κ m.words i.tree.header) f.refusal x.reason) in
      update_refused (record {
        reason = ap (refuses κ u (free m)) (sym o.holds.tree_is) ∙ x.reason;
        own = x.own;
        still = still_open κ meaning ready i j t h x.same w.ready clear o;
        same = x.same;
        same_handle = h;
      }))
      (w.call here)
