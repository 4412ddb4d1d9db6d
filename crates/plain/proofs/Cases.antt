-- The calls keep a list ascending, and a refusal changes nothing.
use Rattle.std.proofs.Common.{◌≡◌, ℕ, Bool, true, false, cond, eqb, leb, List, length, Some, None, Ok, Err, Option, Result, Ordering, refl, arith}
use Rattle.keys.specs.Orders.{Orderly}
use Rattle.plain.specs.Plain.{Plain, Call, insert, delete, find_key, floor_key, rank_key, report, read_tally, reopen, step, settled, refuses_insert, refuses_delete, over, within, Sorted, present, put, cut}
use Rattle.plain.specs.Laws.{Refusals}
use Rattle.plain.specs.declared.pair.Pair.{Pair}
use Rattle.plain.proofs.Pairs.{sorted_put, sorted_cut}

module _ {K : Type 0} {order : K → K → Ordering} (o : Orderly order) where
  pub kept : (most : ℕ) (s : Plain K) → Sorted order s.pairs → (call : Call K) (no_room : Bool) → Sorted order (step order most s call no_room).1.pairs
  kept most s a (insert k h) no_room = go (present order k s.pairs) refl (leb most (length s.pairs)) no_room
    where
      go : (b : Bool) → present order k s.pairs ≡ b → (c d : Bool) → Sorted order (settled (cond b (Some 3) (cond c (Some 5) (cond d (Some 6) None))) (put order k h s.pairs) s).1.pairs
      go true e c d = a
      go false e true d = a
      go false e false true = a
      go false e false false = sorted_put o k h s.pairs a e
  kept most s a (delete k) no_room = go (present order k s.pairs)
    where
      go : (b : Bool) → Sorted order (settled (cond b None (Some 4)) (cut order k s.pairs) s).1.pairs
      go true = sorted_cut order k s.pairs a
      go false = a
  kept most s a (find_key k) no_room = a
  kept most s a (floor_key k) no_room = a
  kept most s a (rank_key k) no_room = a
  kept most s a (report low high ks hs) no_room = a
  kept most s a read_tally no_room = a
  kept most s a reopen no_room = a

no_error : {X : Type 0} (x : X) (n : ℕ) → Ok x ≡ Err n → ⊥
no_error x n e = let z : ◌≡◌ {A = ℕ} 0 1 = cc in omega arith

-- an update that is refused is settled as it was
unsettled : {K : Type 0} (r : Option ℕ) (ps : List (Pair K)) (s : Plain K) (n : ℕ) → (settled r ps s).0 ≡ Err n → (settled r ps s).1 ≡ s
unsettled (Some m) ps s n e = refl
unsettled None ps s n e = absurd (no_error tt n e)

pub refusals : {K : Type 0} (order : K → K → Ordering) (most : ℕ) (s : Plain K) → Refusals order most s
refusals {K} order most s = record {
  insertion = λ k h no_room. unsettled (refuses_insert order most k no_room s.pairs) (put order k h s.pairs) s;
  deletion = λ k. unsettled (refuses_delete order k s.pairs) (cut order k s.pairs) s;
  report = λ low high ks hs n. go (within order low high s.pairs) ks hs n (eqb (length ks) (length hs));
}
  where
    go : (qs : List (Pair K)) (ks : List K) (hs : List ℕ) (n : ℕ) (b : Bool) →
        (cond {A = Result ℕ ℕ × List K × List ℕ} b (Ok (length qs), over (λ p. p.key) qs ks, over (λ p. p.handle) qs hs) (Err 7, ks, hs)).0 ≡ Err n →
        ((cond {A = Result ℕ ℕ × List K × List ℕ} b (Ok (length qs), over (λ p. p.key) qs ks, over (λ p. p.handle) qs hs) (Err 7, ks, hs)).1 ≡ ks)
        × ((cond {A = Result ℕ ℕ × List K × List ℕ} b (Ok (length qs), over (λ p. p.key) qs ks, over (λ p. p.handle) qs hs) (Err 7, ks, hs)).2 ≡ hs)
    go qs ks hs n true e = absurd (no_error _ n e)
    go qs ks hs n false e = (refl, refl)
