-- The weights of a node's entries, read one by one.
use Rattle.std.proofs.Common.{◌≡◌, ℕ, zero, suc, ◌+◌, ◌-◌, ◌*◌, ◌<◌, ◌≤◌, List, length, get_or, take, sym, refl, ap, ◌∙◌, subst, arith}
use Rattle.std.proofs.lemmas.List.{length-map, get_or-map, take_all, drop_all}
use Rattle.store.specs.Meaning.{Meaning}
use Rattle.copies.specs.Blocks.{Word}
use Rattle.nodes.specs.Places.{Form, form, weight_at}
use Rattle.nodes.specs.Nodes.{Entry, Weighs, Keyed, entries, entry_at}
use Rattle.nodes.proofs.Upto.{length_upto, get_or_upto}
use Rattle.nodes.proofs.Rooms.{room_place}
use Rattle.balance.specs.declared.cut.Cut.{Cut}
use Rattle.balance.specs.Cuts.{entry_weight, weights, sum, Mild, Counted, Weighable, Totalled, Heavy, Weighed, Summed, CutAt, Halved}
use Rattle.tree.proofs.Words.{split_sum}
use Rattle.balance.proofs.Sums.{sum_more, stopped, ended}

-- as many entries as the count says
pub entries_length : (φ : Form) (β : ℕ → ℕ) → length (entries φ β) ≡ β 1
unfolding entries
entries_length φ β = length_upto (β 1) (entry_at φ β)

-- the entry at a place
pub entries_at : (φ : Form) (β : ℕ → ℕ) (i : ℕ) (d : Entry) → i < β 1 → get_or (entries φ β) i d ≡ entry_at φ β i
unfolding entries
entries_at φ β i d h = get_or_upto (β 1) (entry_at φ β) i d h

pub weights_length : (φ : Form) (l : ℕ) (β : ℕ → ℕ) → length (weights φ l β) ≡ β 1
weights_length φ l β = length-map (entries φ β) (entry_weight l) ∙ entries_length φ β

pub weights_at : (φ : Form) (l : ℕ) (β : ℕ → ℕ) (i : ℕ) → i < β 1 → get_or (weights φ l β) i 0 ≡ entry_weight l (entry_at φ β i)
weights_at φ l β i h =
    get_or-map (entry_weight l) (entries φ β) i (entry_at φ β i) 0 (omega (arith, entries_length φ β)) ∙ ap (entry_weight l) (entries_at φ β i (entry_at φ β i) h)

-- in a leaf each entry adds 1
pub weighed_leaf : (φ : Form) (b l i w : ℕ) (m : Meaning) → l ≡ 0 → w ≡ 1 → Weighable φ b l i m → Weighed φ b l i m w m
weighed_leaf φ b zero i w m e one p = record { value = one ∙ sym (weights_at φ 0 (m.words b) i p.has); same = refl }
weighed_leaf φ b (suc l) i w m e one p = absurd (omega arith)

-- above that what it stores
pub weighed_inner : (φ : Form) (b l i w : ℕ) (m n : Meaning) → (l ≡ 0 → ⊥) → Weighable φ b l i m → Weighs b i m w n → Weighed φ b l i m w n
weighed_inner φ b zero i w m n e p r = absurd (e refl)
weighed_inner φ b (suc l) i w m n e p r = record { value = r.value φ ∙ sym (weights_at φ (suc l) (m.words b) i p.has); same = r.same }

-- the weight of an entry can be read
pub weight_there : (k b l i : ℕ) (m : Meaning) → Weighable (form k) b l i m → Word b (weight_at i) m
weight_there k b l i m p = room_place (form k) b (weight_at i) m (omega (arith, p.has, p.mild.node.few)) p.mild.node.room

-- one weight more is to be read, after so many were
pub still_weighable : (φ : Form) (b l c i : ℕ) (m u : Meaning) → u ≡ m → i < c → Counted φ b l c m → Weighable φ b l i u
still_weighable φ b l c i m u e h p = subst (λ z. Weighable φ b l i z) (sym e) (record { mild = p.mild; has = omega (arith, p.count) })

-- one weight more was read
pub summed_more : (φ : Form) (b l c i all w : ℕ) (m u t : Meaning) → i < c → Counted φ b l c m → u ≡ m → all ≡ sum (take i (weights φ l (m.words b))) → Weighed φ b l i u w t →
    (t ≡ m) × (all + w ≡ sum (take (i + 1) (weights φ l (m.words b))))
summed_more φ b l c i all w m u t h p e a r =
    let ws = weights φ l (m.words b) in
    let here : w ≡ get_or ws i 0 = r.value ∙ ap (λ z. get_or (weights φ l (z.words b)) i 0) e in
    let more = sum_more ws i 0 (omega (arith, weights_length φ l (m.words b), p.count)) in
    (r.same ∙ e, omega arith)

-- all were read
pub summed_all : (φ : Form) (b l c i all : ℕ) (m u : Meaning) → c ≤ i → Counted φ b l c m → u ≡ m → all ≡ sum (take i (weights φ l (m.words b))) → Summed φ b l m all u
summed_all φ b l c i all m u h p e a =
    let ws = weights φ l (m.words b) in
    record { value = a ∙ ap sum (take_all i ws (omega (arith, weights_length φ l (m.words b), p.count))); same = e }

-- the cut before an entry that is too much
pub cut_here : (φ : Form) (b l c i all passed w : ℕ) (m u t : Meaning) → i < c → Totalled φ b l c all m → u ≡ m → passed ≡ sum (take i (weights φ l (m.words b))) → 2 * passed ≤ all → Weighed φ b l i u w t → all < 2 * (passed + w) →
    CutAt φ b l m (record { kept = i; passed = passed }) t
cut_here φ b l c i all passed w m u t h p e a low r high =
    let ws = weights φ l (m.words b) in
    let here : w ≡ get_or ws i 0 = r.value ∙ ap (λ z. get_or (weights φ l (z.words b)) i 0) e in
    record {
      largest = stopped ws i 0 (omega (arith, weights_length φ l (m.words b), p.counted.count)) (omega (arith, p.all_is)) (omega (arith, p.all_is));
      passed = a;
      same = r.same ∙ e;
    }

-- the cut after the last entry
pub cut_last : (φ : Form) (b l c i all passed : ℕ) (m u : Meaning) → i ≡ c → Totalled φ b l c all m → u ≡ m → passed ≡ sum (take i (weights φ l (m.words b))) → 2 * passed ≤ all → CutAt φ b l m (record { kept = c; passed = passed }) u
cut_last φ b l c i all passed m u h p e a low =
    let ws = weights φ l (m.words b) in
    let whole : passed ≡ sum (take c ws) = a ∙ ap (λ z. sum (take z ws)) h in
    record {
      largest = ended ws c (omega (arith, weights_length φ l (m.words b), p.counted.count)) (omega (arith, p.all_is));
      passed = whole;
      same = e;
    }

-- a node that weighs something keeps less than all
pub not_all : (φ : Form) (b l n : ℕ) (m u : Meaning) (c : Cut) → n ≡ m.words b 1 → Heavy φ b l m → CutAt φ b l m c u → n ≤ c.kept → ⊥
not_all φ b l n m u c e p r h =
    let ws = weights φ l (m.words b) in
    let long = weights_length φ l (m.words b) in
    omega (arith, p.some, r.largest.light, ap sum (take_all c.kept ws (omega arith)), ap sum (drop_all c.kept ws (omega arith)))

-- the two parts
pub halved : {K : Type 0} (unpacked : List ℕ → K) (φ : Form) (b l n all left right : ℕ) (key : K) (m u t : Meaning) (c : Cut) → n ≡ m.words b 1 → all ≡ sum (weights φ l (m.words b)) → CutAt φ b l m c u → c.kept < n → left ≡ c.passed → right ≡ all - c.passed → Keyed φ unpacked b c.kept u key t →
    Halved φ unpacked b l m (record { kept = c.kept; left = left; right = right; key = key }) t
halved unpacked φ b l n all left right key m u t c e a r h lo hi k =
    let ws = weights φ l (m.words b) in
    record {
      within = omega arith;
      largest = r.largest;
      left = lo ∙ r.passed;
      right = omega (arith, r.passed, split_sum (λ (x : ℕ). x) ws c.kept);
      key = k.value ∙ ap (λ z. unpacked (entry_at φ (z.words b) c.kept).key) r.same;
      same = k.same ∙ r.same;
    }

-- after the count was read
pub counted : (φ : Form) (b l n : ℕ) (m u : Meaning) → u ≡ m → n ≡ m.words b 1 → Mild φ b l m → Counted φ b l n u
counted φ b l n m u e q p = subst (λ z. Counted φ b l n z) (sym e) (record { mild = p; count = q })

-- and the weights
pub totalled : (φ : Form) (b l n all : ℕ) (u v : Meaning) → Counted φ b l n u → Summed φ b l u all v → Totalled φ b l n all v
totalled φ b l n all u v p s = subst (λ z. Totalled φ b l n all z) (sym s.same) (record { counted = p; all_is = s.value })

-- the same of the node as it was before it was read
pub cut_before : (φ : Form) (b l : ℕ) (m v w : Meaning) (c : Cut) → v ≡ m → CutAt φ b l v c w → CutAt φ b l m c w
cut_before φ b l m v w c e r = subst (λ z. CutAt φ b l z c w) e r

pub summed_before : (φ : Form) (b l all : ℕ) (m u v : Meaning) → u ≡ m → Summed φ b l u all v → Summed φ b l m all v
summed_before φ b l all m u v e s = subst (λ z. Summed φ b l z all v) e s
