-- A cache that is closed, line by line.
use Rattle.std.proofs.Common.{◌≡◌, ℕ, ◌+◌, ◌<◌, ◌≤◌, Bool, true, false, List, length, set, sym, ap, ◌∙◌, subst, ⊎_elim, arith, below_more}
use Rattle.std.proofs.lemmas.List.{get_or_past, get_or-set_other}
use Rattle.std.proofs.lemmas.Bool.{cases_lt, cases_Bool, both_ways}
use Rattle.store.specs.declared.fault.Fault.{Fault}
use Rattle.store.specs.Faults.{one_deeper, deeper}
use Rattle.store.specs.Meaning.{Meaning, count}
use Rattle.store.specs.Laws.Layers.{inner}
use Rattle.cache.specs.Lines.{View, nth, blank, Clear}
use Rattle.cache.specs.Cache.{flat, Held}
use Rattle.cache.specs.Steps.{Falls, EmptyDone, CloseFails}
use Rattle.cache.proofs.Overs.{nth_same}
use Rattle.cache.proofs.Evicts.{freed}
use Rattle.cache.proofs.Services.{clear_over}

-- the lines below i have gone down
pub record Closing (vs : List View) (m : Meaning) (lost : Bool) (i : ℕ) (ws : List View) (n : Meaning) : Type 0 where
  pub held : Held n lost ws
  pub same : flat ws n ≡ flat vs m
  pub clear : (k : ℕ) → k < i → (nth ws k).block ≡ 0

-- one line more
pub closing_more : {vs ws : List View} {m n k : Meaning} {lost : Bool} {i : ℕ} (w : View) → n.granted 0 ≡ false → lost ≡ false → i < length ws → EmptyDone (nth ws i) w n k → Closing vs m lost i ws n → Closing vs m lost (i + 1) (set ws i w) k
closing_more {vs} {ws} {m} {n} {k} {lost} {i} w g0 up l d c =
    let q = freed n lost ws i w l d.none c.held g0 up k d.after in
    record {
      held = q.1;
      same = ap inner q.0 ∙ c.same;
      clear = below_more (λ j. (nth (set ws i w) j).block ≡ 0) i
          (λ j h. ap (λ v. v.block) (get_or-set_other ws i j w blank (omega arith)) ∙ c.clear j h)
          (ap (λ v. v.block) (nth_same ws i w l) ∙ d.none);
    }

-- every line
pub closing_all : {vs ws : List View} {m n : Meaning} {lost : Bool} {i : ℕ} → n.granted 0 ≡ false → length ws ≤ i → Closing vs m lost i ws n → n ≡ flat vs m
closing_all {ws = ws} {n = n} {i = i} g0 l c =
    let all : Clear ws = λ k. ⊎_elim (c.clear k) (λ q. ap (λ v. v.block) (get_or_past ws k blank (omega arith))) (cases_lt k i) in
    sym (clear_over ws n g0 all) ∙ c.same

-- the store fell on the way
pub closing_exit : {vs ws : List View} {m n k : Meaning} {lost : Bool} {i : ℕ} {f : Fault} → Falls f n k → Closing vs m lost i ws n → CloseFails (deeper f) m k
closing_exit {vs} {ws} {m} {n} {k} {f = f} q c = record {
  refusal = q.refusal;
  deep = ap one_deeper (q.deep ∙ ap (λ x. x.shape.depth f.refusal (count x)) c.same);
  fell = record {
    is_down = q.fell.is_down;
    same_shape = q.fell.same_shape ∙ ap (λ x. x.shape) c.same;
    same_below = q.fell.same_below ∙ ap (λ x. x.below) c.same;
    same_grants = q.fell.same_grants ∙ ap (λ x. x.granted) c.same;
  };
}

-- a cache over the same store
pub fails_of : {l m n : Meaning} {f : Fault} → l ≡ m → CloseFails f l n → CloseFails f m n
fails_of {n = n} {f} e q = subst (λ x. CloseFails f x n) e q

-- a store that is asked whether it is down, and is not, was not lost
pub heard_up : {m : Meaning} {lost : Bool} {vs : List View} → Held m lost vs → (lost ≡ true → m.down ≡ false) → lost ≡ false
heard_up {m} {lost} h u = ⊎_elim (λ q. absurd (both_ways m.down (u q) (h.fell q))) (λ q. q) (cases_Bool lost)
