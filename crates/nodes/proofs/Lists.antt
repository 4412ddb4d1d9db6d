-- What the verbs do to the lists of entries.
use Rattle.std.proofs.Common.{◌≡◌, ℕ, ◌+◌, ◌-◌, ◌<◌, ◌≤◌, List, [], ◌∷◌, ◌++◌, length, take, drop, sym, refl, ap, ◌∙◌, ap₂, inl, arith}
use Rattle.store.specs.Meaning.{Meaning, with_at, with_block}
use Rattle.copies.specs.Blocks.{edit}
use Rattle.copies.proofs.Changes.{with_at_here, with_at_other}
use Rattle.copies.proofs.Edits.{edit_here, edit_other, edit_frame}
use Rattle.nodes.specs.Places.{Form}
use Rattle.nodes.specs.Nodes.{Entry, entry_at, entries, upto, insert_at, replace_at, remove_at, carried, placed, Holds, Parted}
use Rattle.nodes.proofs.Upto.{upto_same, upto_insert, upto_join, take_upto, drop_upto}
use Rattle.nodes.proofs.Words.{entry_head, carried_head, carried_in, carried_out, placed_head, placed_other, placed_here}

-- the block that an edit changed holds what the edited words hold
holds_edit : (φ : Form) (m n : Meaning) (b : ℕ) (F : (ℕ → ℕ) → ℕ → ℕ) (xs : List Entry) → n ≡ edit m b F → F (m.words b) 0 ≡ m.words b 0 → entries φ (F (m.words b)) ≡ xs → Holds φ b xs m n
holds_edit φ m n b F xs e level is =
    let here = edit_here m n b F e in
    record { frame = edit_frame m n b F e; level = ap (λ z. z 0) here ∙ level; entries_are = ap (entries φ) here ∙ is }

-- with the count set, the entries are those of the first n places
counted : (φ : Form) (n : ℕ) (β : ℕ → ℕ) → entries φ (with_at β 1 n) ≡ upto n (entry_at φ β)
unfolding entries
counted φ n β =
    ap (λ z. upto z (entry_at φ (with_at β 1 n))) (with_at_here β 1 n) ∙ upto_same n _ (entry_at φ β) (λ j x. entry_head φ j 1 n β (omega arith))

module _ (φ : Form) (n i : ℕ) (e : Entry) (β : ℕ → ℕ) (c : β 1 ≡ n) (w : length e.key ≡ φ.words) where
  abbrev widened : ℕ → ℕ
  widened = placed φ i e (carried φ β i (i + 1) (n - i) β)

  inserted : i ≤ n → n < φ.places → entries φ (with_at widened 1 (n + 1)) ≡ insert_at i e (entries φ β)
  unfolding entries
  inserted l m =
      let h : i < φ.places = omega arith in
      let l1 : i + (n - i) ≤ φ.places = omega arith in
      let l2 : (i + 1) + (n - i) ≤ φ.places = omega arith in
      let low : (j : ℕ) → j < i → entry_at φ widened j ≡ entry_at φ β j = λ j x. placed_other φ i e _ h j (omega arith) (omega arith) ∙ carried_out φ β i (i + 1) (n - i) β l1 l2 j (omega arith) (inl (omega arith)) in
      let high : (j : ℕ) → i ≤ j → j < n → entry_at φ widened (j + 1) ≡ entry_at φ β j = λ j x y.
      placed_other φ i e _ h (j + 1) (omega arith) (omega arith) ∙ ap (entry_at φ _) (omega arith) ∙ carried_in φ β i (i + 1) (n - i) β l1 l2 (j - i) (omega arith) ∙ ap (entry_at φ β) (omega arith) in
      counted φ (n + 1) widened ∙ upto_insert n i e (entry_at φ β) (entry_at φ widened) l low (placed_here φ i e _ h w) high ∙ ap (λ z. insert_at i e (upto z (entry_at φ β))) (sym c)

  inserted_level : i ≤ n → n < φ.places → with_at widened 1 (n + 1) 0 ≡ β 0
  inserted_level l m = with_at_other _ 1 (n + 1) 0 (omega arith) ∙ placed_head φ i e _ (omega arith) 0 (omega arith) ∙ carried_head φ β i (i + 1) (n - i) β (omega arith) (omega arith) 0 (omega arith)

  replaced : i < n → n ≤ φ.places → entries φ (placed φ i e β) ≡ replace_at i e (entries φ β)
  unfolding entries
  replaced l m =
      let h : i < φ.places = omega arith in
      let f = entry_at φ β in
      let g = entry_at φ (placed φ i e β) in
      let front : upto i g ≡ take i (upto n f) = upto_same i g f (λ j x. placed_other φ i e β h j (omega arith) (omega arith)) ∙ sym (take_upto i n f (omega arith)) in
      let mid : upto 1 (λ j. g (i + j)) ≡ e ∷ [] = ap (λ z. g z ∷ []) (omega arith) ∙ ap (λ z. z ∷ []) (placed_here φ i e β h w) in
      let back : upto (n - (i + 1)) (λ j. g (i + (1 + j))) ≡ drop (i + 1) (upto n f) = upto_same (n - (i + 1)) _ _ (λ j x. placed_other φ i e β h (i + (1 + j)) (omega arith) (omega arith) ∙ ap f (omega arith)) ∙ sym (drop_upto (i + 1) n f (omega arith)) in
      ap (λ z. upto z g) (placed_head φ i e β h 1 (omega arith) ∙ c) ∙ ap (λ z. upto z g) (omega arith) ∙ sym (upto_join i (1 + (n - (i + 1))) g) ∙ ap₂ ◌++◌ front (sym (upto_join 1 (n - (i + 1)) (λ j. g (i + j))) ∙ ap₂ ◌++◌ mid back) ∙ ap (λ z. replace_at i e (upto z f)) (sym c)

pub insert_holds : (φ : Form) (m t : Meaning) (b n i : ℕ) (e : Entry) → n ≡ m.words b 1 → length e.key ≡ φ.words → i ≤ n → n < φ.places → t ≡ edit m b (λ β. with_at (placed φ i e (carried φ (m.words b) i (i + 1) (n - i) β)) 1 (n + 1)) → Holds φ b (insert_at i e (entries φ (m.words b))) m t
insert_holds φ m t b n i e c w l k h = holds_edit φ m t b _ _ h (inserted_level φ n i e _ (sym c) w l k) (inserted φ n i e _ (sym c) w l k)

pub replace_holds : (φ : Form) (m t : Meaning) (b i : ℕ) (e : Entry) → length e.key ≡ φ.words → i < m.words b 1 → m.words b 1 ≤ φ.places → t ≡ edit m b (placed φ i e) → Holds φ b (replace_at i e (entries φ (m.words b))) m t
replace_holds φ m t b i e w l k h = holds_edit φ m t b _ _ h (placed_head φ i e _ (omega arith) 0 (omega arith)) (replaced φ _ i e _ refl w l k)

module _ (φ : Form) (n i : ℕ) (β : ℕ → ℕ) (c : β 1 ≡ n) (l : i < n) (m : n ≤ φ.places) where
  abbrev closed : ℕ → ℕ
  closed = carried φ β (i + 1) i (n - (i + 1)) β

  removed : entries φ (with_at closed 1 (n - 1)) ≡ remove_at i (entries φ β)
  unfolding entries
  removed =
      let l1 : (i + 1) + (n - (i + 1)) ≤ φ.places = omega arith in
      let l2 : i + (n - (i + 1)) ≤ φ.places = omega arith in
      let f = entry_at φ β in
      let g = entry_at φ closed in
      let front : upto i g ≡ take i (upto n f) = upto_same i g f (λ j x. carried_out φ β (i + 1) i (n - (i + 1)) β l1 l2 j (omega arith) (inl x)) ∙ sym (take_upto i n f (omega arith)) in
      let back : upto (n - (i + 1)) (λ j. g (i + j)) ≡ drop (i + 1) (upto n f) = upto_same (n - (i + 1)) _ _ (λ j x. carried_in φ β (i + 1) i (n - (i + 1)) β l1 l2 j x) ∙ sym (drop_upto (i + 1) n f (omega arith)) in
      counted φ (n - 1) closed ∙ ap (λ z. upto z g) (omega arith) ∙ sym (upto_join i (n - (i + 1)) g) ∙ ap₂ ◌++◌ front back ∙ ap (λ z. remove_at i (upto z f)) (sym c)

  removed_level : with_at closed 1 (n - 1) 0 ≡ β 0
  removed_level = with_at_other _ 1 (n - 1) 0 (omega arith) ∙ carried_head φ β (i + 1) i (n - (i + 1)) β (omega arith) (omega arith) 0 (omega arith)

pub remove_holds : (φ : Form) (m t : Meaning) (b n i : ℕ) → n ≡ m.words b 1 → i < n → n ≤ φ.places → t ≡ edit m b (λ β. with_at (carried φ (m.words b) (i + 1) i (n - (i + 1)) β) 1 (n - 1)) → Holds φ b (remove_at i (entries φ (m.words b))) m t
remove_holds φ m t b n i c l k h = holds_edit φ m t b _ _ h (removed_level φ n i _ (sym c) l k) (removed φ n i _ (sym c) l k)

-- all entries of α after those of β
appended : (φ : Form) (m n : ℕ) (α β : ℕ → ℕ) → β 1 ≡ m → α 1 ≡ n → m + n ≤ φ.places → entries φ (with_at (carried φ α 0 m n β) 1 (m + n)) ≡ entries φ β ++ entries φ α
unfolding entries
appended φ m n α β c d l =
    let g = entry_at φ (carried φ α 0 m n β) in
    let l1 : 0 + n ≤ φ.places = omega arith in
    let front : upto m g ≡ upto (β 1) (entry_at φ β) = upto_same m g _ (λ j x. carried_out φ α 0 m n β l1 l j (omega arith) (inl x)) ∙ ap (λ z. upto z (entry_at φ β)) (sym c) in
    let back : upto n (λ j. g (m + j)) ≡ upto (α 1) (entry_at φ α) = upto_same n _ _ (λ j x. carried_in φ α 0 m n β l1 l j x ∙ ap (entry_at φ α) (omega arith)) ∙ ap (λ z. upto z (entry_at φ α)) (sym d) in
    counted φ (m + n) _ ∙ sym (upto_join m n g) ∙ ap₂ ◌++◌ front back

pub append_holds : (φ : Form) (m t : Meaning) (f b k n : ℕ) → k ≡ m.words b 1 → n ≡ m.words f 1 → k + n ≤ φ.places → t ≡ edit m b (λ β. with_at (carried φ (m.words f) 0 k n β) 1 (k + n)) → Holds φ b (entries φ (m.words b) ++ entries φ (m.words f)) m t
append_holds φ m t f b k n c d l h =
    holds_edit φ m t b _ _ h (with_at_other _ 1 (k + n) 0 (omega arith) ∙ carried_head φ _ 0 k n _ (omega arith) l 0 (omega arith)) (appended φ k n _ _ (sym c) (sym d) l)

-- the entries of α from place k on, in another block
parted_to : (φ : Form) (k n v : ℕ) (α β : ℕ → ℕ) → α 1 ≡ n → k ≤ n → n ≤ φ.places → entries φ (with_at (with_at (carried φ α k 0 (n - k) β) 0 v) 1 (n - k)) ≡ drop k (entries φ α)
unfolding entries
parted_to φ k n v α β c l h =
    counted φ (n - k) _
    ∙ upto_same (n - k) _ (λ j. entry_at φ α (k + j)) (λ j x. entry_head φ j 0 v _ (omega arith) ∙ ap (entry_at φ _) (omega arith) ∙ carried_in φ α k 0 (n - k) β (omega arith) (omega arith) j x)
    ∙ sym (drop_upto k n (entry_at φ α) l) ∙ ap (λ z. drop k (upto z (entry_at φ α))) (sym c)

parted_from : (φ : Form) (k n : ℕ) (α : ℕ → ℕ) → α 1 ≡ n → k ≤ n → entries φ (with_at α 1 k) ≡ take k (entries φ α)
unfolding entries
parted_from φ k n α c l = counted φ k α ∙ sym (take_upto k n (entry_at φ α) l) ∙ ap (λ z. take k (upto z (entry_at φ α))) (sym c)

pub part_holds : (φ : Form) (m v t : Meaning) (f b k n lv : ℕ) → (f ≡ b → ⊥) → lv ≡ m.words f 0 → n ≡ m.words f 1 → k ≤ n → n ≤ φ.places → v ≡ edit m b (λ β. with_at (with_at (carried φ (m.words f) k 0 (n - k) β) 0 lv) 1 (n - k)) → t ≡ edit v f (λ β. with_at β 1 k) → Parted φ f b k m tt t
part_holds φ m v t f b k n lv ne lvl c l h e d =
    let vf = edit_other m v b f _ ne e in
    let vb = edit_here m v b _ e in
    let tf = edit_here v t f _ d ∙ ap (λ z. with_at z 1 k) vf in
    let tb = edit_other v t f b _ (λ y. ne (sym y)) d in
    record {
      frame = edit_frame v t f _ d ∙ ap (λ y. with_block y f (t.words f)) (edit_frame m v b _ e ∙ ap (with_block m b) (sym tb));
      level_from = ap (λ z. z 0) tf ∙ with_at_other _ 1 k 0 (omega arith);
      level_to = ap (λ z. z 0) (tb ∙ vb) ∙ with_at_other _ 1 (n - k) 0 (omega arith) ∙ with_at_here _ 0 _ ∙ lvl;
      entries_from = ap (entries φ) tf ∙ parted_from φ k n _ (sym c) l;
      entries_to = ap (entries φ) (tb ∙ vb) ∙ parted_to φ k n _ _ _ (sym c) l h;
    }
