-- The line that was longest unused, from what the items of a run over the lines show.
use Rattle.std.proofs.Common.{◌≡◌, ℕ, ◌<◌, ◌≤◌, false, Option, Some, None, List, length, get_or, Bor, sym, ap, ◌∙◌, arith}
use Rattle.std.specs.Option.{MatchOption, IfSome, IsSomeAnd, option_map}
use Rattle.std.specs.Ordering.{nat_cmp, is_lt}
use Rattle.std.proofs.lemmas.List.{get_or-map}
use Rattle.std.proofs.lemmas.Map.Keys.{ge_from_not_lt}
use Rattle.cache.specs.declared.line.Line.{Line}
use Rattle.cache.specs.Lines.{ages_of}

-- a line by its number, as a run over the lines gives it; `K` tells what a call of the key gave
module _ (ls : List Line) (K : ℕ × Bor Line → ℕ → Type 0) (called : (x : ℕ × Bor Line) (j : ℕ) → K x j → j ≡ x.1.now.used) where
  -- item k shows the age of line k
  item : (k : ℕ) (d : Line) (o : Option (ℕ × Bor Line)) (l : Option (Bor Line)) → k < length ls → l ≡ option_map (λ x. x.1) o → option_map (λ y. y.now) l ≡ Some (get_or ls k d)
      → IsSomeAnd o (λ x. get_or (ages_of ls) k 0 ≡ x.1.now.used)
  item k d None l h e q = let p : ◌≡◌ {A = Option Line} None (Some (get_or ls k d)) = sym (ap (option_map (λ (y : Bor Line). y.now)) e) ∙ q in absurd (cc)
  item k d (Some x) l h e q =
      let p : ◌≡◌ {A = Option Line} (Some x.1.now) (Some (get_or ls k d)) = sym (ap (option_map (λ (y : Bor Line). y.now)) e) ∙ q in
      let s : x.1.now ≡ get_or ls k d = cc in
      get_or-map (λ l. l.used) ls k d 0 h ∙ sym (ap (λ l. l.used) s)

  -- the item m was picked, which is line r
  picked : (r j : ℕ) (m : ℕ × Bor Line) (o : Option (ℕ × Bor Line)) → m.0 ≡ r → IsSomeAnd o (λ x. x ≡ m) → IfSome o (λ x. x.0 ≡ j) → IsSomeAnd o (λ x. get_or (ages_of ls) j 0 ≡ x.1.now.used)
      → get_or (ages_of ls) r 0 ≡ m.1.now.used
  picked r j m None e q n u = absurd q
  picked r j m (Some x) e q n u = ap (λ i. get_or (ages_of ls) i 0) (sym e ∙ ap (λ y. y.0) (sym q) ∙ n) ∙ u ∙ ap (λ y. y.1.now.used) q

  -- no key is below the one of the item that was picked
  beyond : (a key : ℕ) (o : Option (ℕ × Bor Line)) → IsSomeAnd o (λ x. a ≡ x.1.now.used) → IfSome o (λ x. (j : ℕ) × K x j × (is_lt (nat_cmp j key) ≡ false)) → key ≤ a
  beyond a key None u q = absurd u
  beyond a key (Some x) u q = let l = ge_from_not_lt q.0 key q.2 in let e = called x q.0 q.1 in omega arith

  module _ (at : ℕ → Option (ℕ × Bor Line)) (lines : ℕ → Option (Bor Line)) (n r : ℕ) (C : Type 0) (kept : C)
      (num : (k : ℕ) → IfSome (at k) (λ x. x.0 ≡ k))
      (read : (k : ℕ) (d : Line) → k < n → option_map (λ y. y.now) (lines k) ≡ Some (get_or ls k d))
      (same : (k : ℕ) → lines k ≡ option_map (λ x. x.1) (at k))
      (all : n ≡ length ls) where
    -- line r, which was picked, was longest unused
    pub least_used : (best : Option (ℕ × Bor Line)) → 1 ≤ length ls
        → MatchOption best (n ≡ 0) (λ m. ((j : ℕ) × (j < n) × IsSomeAnd (at j) (λ x. x ≡ m)) × (C → (key : ℕ) × K m key × ((k : ℕ) → IfSome (at k) (λ x. (j : ℕ) × K x j × (is_lt (nat_cmp j key) ≡ false)))))
        → MatchOption best (r ≡ 0) (λ m. m.0 ≡ r)
        → (k : ℕ) → k < length ls → get_or (ages_of ls) r 0 ≤ get_or (ages_of ls) k 0
    least_used None some z _ k h = absurd (omega arith)
    least_used (Some m) some p e k h =
        let j = p.0.0 in
        let b = p.1 kept in
        let key = called m b.0 b.1 in
        let at_j = picked r j m (at j) e p.0.2 (num j) (item j m.1.now (at j) (lines j) (omega (arith, p.0.1)) (same j) (read j m.1.now p.0.1)) in
        let at_k = beyond (get_or (ages_of ls) k 0) b.0 (at k) (item k m.1.now (at k) (lines k) h (same k) (read k m.1.now (omega arith))) (b.2 k) in
        omega (arith, key, at_j, at_k)
