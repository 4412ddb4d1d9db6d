use Rattle.std.proofs.Common.{◌∙◌, arith}
use Rattle.copies.proofs.Exits.{raised, lost_later, kin_same}
use Rattle.held.specs.Held.{Kind, kind, Lawful}
use Rattle.ask.proofs.Ranks.{rooted_peopled, rooted_leaf, child_rooted, way_begun, counts_on, leaf_counts, rooted_after}
use Rattle.ask.proofs.rank.+keys_before.Given as given
use Rattle.ask.proofs.rank.+keys_before.Goals as goal

abbrev of : (g : given.Over) → Kind g.row.K.Denot
of g = kind g.K.Key.width g.K.Key.order g.K.Key.packed g.K.Key.unpacked

abbrev law : (g : given.Over) → Lawful (of g)
law g = record { ordered = g.met.K.Key.ordered; packing = g.met.K.Key.packing }

pub returns-then-node-eq0 : goal.returns-then-node-eq0
returns-then-node-eq0 g t c = λ h.
    let a = c.in_ok-leaf_keys_before.ensures.counts h in
    record { call = λ p. leaf_counts (of g) (law g) _ _ _ _ _ _ _ c.if-node-eq0.true c.from.ensures (a.call (rooted_leaf (of g) (law g) _ _ c.if-node-eq0.true p)); ready = a.ready }

pub returns-in_err-way : goal.returns-in_err-way
returns-in_err-way g t c =
    rw (raised _ _ c.from_residual-in_err-way.ensures) (λ h.
    let a = c.in_err-way.ensures.leads h in
    record { call = λ p. a.call (rooted_peopled (of g) (law g) _ _ c.if-node-eq0.false p); ready = a.ready })

pub returns-in_err-passed : goal.returns-in_err-passed
returns-in_err-passed g t c =
    rw (raised _ _ c.from_residual-in_err-passed.ensures) (λ h.
    let a = c.in_ok-way.ensures.leads h in
    let x = c.in_err-passed.ensures.sums a.ready in
    record {
      call = λ p.
          let led = a.call (rooted_peopled (of g) (law g) _ _ c.if-node-eq0.false p) in
          lost_later (kin_same led.found.same) (x.call (way_begun (of g) (law g) _ _ _ _ _ c.if-node-eq0.false c.in_ok-way.ensures.child.1 (g.S.Store.sound c.args.store.now h) p led));
      ready = x.ready;
    })

pub returns-in_err-below : goal.returns-in_err-below
returns-in_err-below g t c =
    rw (raised _ _ c.from_residual-in_err-below.ensures) (λ h.
    let a = c.in_ok-way.ensures.leads h in
    let x = c.in_ok-passed.ensures.sums a.ready in
    let y = c.in_err-below.ensures x.ready in
    record {
      call = λ p.
          let led = a.call (rooted_peopled (of g) (law g) _ _ c.if-node-eq0.false p) in
          let s = x.call (way_begun (of g) (law g) _ _ _ _ _ c.if-node-eq0.false c.in_ok-way.ensures.child.1 (g.S.Store.sound c.args.store.now h) p led) in
          lost_later (kin_same (s.same ∙ led.found.same)) (y.call (rooted_after (of g) _ _ _ (s.same ∙ led.found.same) (child_rooted (of g) (law g) _ _ _ _ _ c.if-node-eq0.false p led c.in_ok-way.ensures.child.1)));
      ready = y.ready;
    })

pub returns : goal.returns
returns g t c = λ h.
    let a = c.in_ok-way.ensures.leads h in
    let x = c.in_ok-passed.ensures.sums a.ready in
    let y = c.in_ok-below.ensures x.ready in
    record {
      call = λ p.
          let led = a.call (rooted_peopled (of g) (law g) _ _ c.if-node-eq0.false p) in
          let s = x.call (way_begun (of g) (law g) _ _ _ _ _ c.if-node-eq0.false c.in_ok-way.ensures.child.1 (g.S.Store.sound c.args.store.now h) p led) in
          let d = y.call (rooted_after (of g) _ _ _ (s.same ∙ led.found.same) (child_rooted (of g) (law g) _ _ _ _ _ c.if-node-eq0.false p led c.in_ok-way.ensures.child.1)) in
          counts_on (of g) (law g) _ _ _ _ _ c.if-node-eq0.false c.in_ok-way.ensures.child.1 (g.S.Store.sound c.args.store.now h) p led _ _ _ _ _ _ s d (λ few. omega (arith, few, c.in_ok-passed.ensures.bound, c.saturating_add.ensures));
      ready = y.ready;
    }
