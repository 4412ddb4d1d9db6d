use Rattle.std.proofs.Common.{◌≡◌, ℕ, ◌≤◌, Bool, true, false, cond, ◌&&◌, refl, sym, ap₂, ◌∙◌, arith, true≢false}
use Rattle.std.specs.Range.{range_inclusive_start}
use Rattle.std.specs.Ordering.{is_le, is_lt, nat_cmp}
use Rattle.std.proofs.lemmas.Grind.{common_steps}
use Rattle.store.specs.Meaning.{limit}
use Rattle.grow.proofs.root.take_root.Goals as goal

le_is : (a b : ℕ) → a ≤ b → is_le (nat_cmp a b) ≡ true
le_is a b h = grind (arith, common_steps)

limit_is : limit ≡ 1_048_575
unfolding limit
limit_is = refl

-- `contains`, at these bounds
in_range : (s e x : ℕ) (spent r : Bool) → r ≡ (is_le (nat_cmp s x) && cond spent (is_lt (nat_cmp x e)) (is_le (nat_cmp x e))) → s ≡ 1 → e ≡ limit → spent ≡ false → 1 ≤ x → x ≤ limit → r ≡ true
in_range s e x true r h p q n low high = absurd (true≢false n)
in_range s e x false r h p q n low high = h ∙ ap₂ ◌&&◌ (le_is s x (omega arith)) (le_is x e (omega arith))

-- no store takes a block outside the range
pub returns-then-not-contains-clause-takes : goal.returns-then-not-contains-clause-takes
returns-then-not-contains-clause-takes g c = λ h.
    let t = c.in_ok-block.ensures.keeps h in
    let starts : range_inclusive_start c.new.result ≡ 1 = omega (arith, c.new.ensures.start) in
    let all = in_range _ _ _ _ _ c.contains.ensures.value starts (c.new.ensures.end ∙ sym limit_is) c.new.ensures.exhausted t.call.low t.call.high in
    record { call = λ p. absurd (true≢false (sym all ∙ c.if-not-contains.true)); ready = t.ready }
