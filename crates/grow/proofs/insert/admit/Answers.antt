use Rattle.std.proofs.Common.{◌≡◌, ◌<◌, ◌≤◌, ◌∙◌, inr, sym, arith}
use Rattle.held.specs.Held.{Kind, kind}
use Rattle.held.specs.Roots.{tree_of}
use Rattle.tree.specs.Tree.{index_unit}
use Rattle.tree.specs.Counts.{taken}
use Rattle.grow.proofs.Admitting.{refused_for, stock_free, lowly, full_why, room_why, no_why, wanted_full, wanted_less}
use Rattle.grow.proofs.insert.admit.Given as given
use Rattle.grow.proofs.insert.admit.Goals.{else-root_full-via-then-root_full+else-root-eq-TOP_LEVEL, else-root_full-via-else-root_full, then-root_full-2, else-root_full-2}
use Rattle.grow.proofs.insert.admit.Goals as goal

abbrev of : (g : given.Over) → Kind g.row.K.Denot
of g = kind g.K.Key.width g.K.Key.order g.K.Key.packed g.K.Key.unpacked

pub returns-then-root-eq-TOP_LEVEL : goal.returns-then-root-eq-TOP_LEVEL
returns-then-root-eq-TOP_LEVEL g c = λ h.
    let a = c.in_ok-full.ensures.tells h in
    record {
      call = λ s.
          let t = a.call (lowly (of g) _ _ c.args.key.now s) in
          inr (refused_for _ _ _ _ _ c.refuse-then-root-eq-TOP_LEVEL.ensures (full_why (of g) _ _ _ s _ _ (sym c.in-Some.is ∙ t.value_is) c.limit.ensures c.if-root_full.true c.if-root-eq-TOP_LEVEL.true) t.same);
      ready = a.ready;
    }

pub returns-then-free-wanted : goal.returns-then-free-wanted
returns-then-free-wanted g c = λ h.
    let a = c.in_ok-full.ensures.tells h in
    let b = c.in_ok-stock.ensures.keeps a.ready in
    record {
      call = λ s.
          let t = a.call (lowly (of g) _ _ c.args.key.now s) in
          let found = sym c.in-Some.is ∙ t.value_is in
          let can : c.limit.result ≤ c.args.tree.header.keys → c.args.tree.header.root.level < 4 =
          elim c.else-root_full.branch [
            | else-root_full-via-then-root_full+else-root-eq-TOP_LEVEL w ↦ (λ q. omega (arith, s.low, w.if-root-eq-TOP_LEVEL.false))
            | else-root_full-via-else-root_full w ↦ (λ q. omega (arith, w.if-root_full.false))
          ] in
          let wanted : c.if-root_full-2.wanted ≡ taken (of g).order index_unit c.args.key.now (tree_of (of g) (g.S.Store.meaning c.args.store.now).words c.args.tree.header) =
          elim c.if-root_full-2.branch [
            | then-root_full-2 w ↦ omega (arith, w.wanted-is, wanted_full (of g) _ _ _ s _ _ found c.limit.ensures w.if-root_full-2.true)
            | else-root_full-2 w ↦ w.wanted-is ∙ wanted_less (of g) _ _ _ s _ _ found c.limit.ensures w.if-root_full-2.false
          ] in
          inr (refused_for _ _ _ _ _ c.refuse-then-free-wanted.ensures (room_why (of g) _ _ _ s _ _ found c.limit.ensures can _ wanted (omega (arith, c.if-free-wanted.true, stock_free _ _ _ _ _ t.same b.call c.free.ensures))) (b.call.same ∙ t.same));
      ready = b.ready;
    }

pub returns : goal.returns
returns g c = λ h.
    let a = c.in_ok-full.ensures.tells h in
    let b = c.in_ok-stock.ensures.keeps a.ready in
    record {
      call = λ s.
          let t = a.call (lowly (of g) _ _ c.args.key.now s) in
          let found = sym c.in-Some.is ∙ t.value_is in
          let can : c.limit.result ≤ c.args.tree.header.keys → c.args.tree.header.root.level < 4 =
          elim c.else-root_full.branch [
            | else-root_full-via-then-root_full+else-root-eq-TOP_LEVEL w ↦ (λ q. omega (arith, s.low, w.if-root-eq-TOP_LEVEL.false))
            | else-root_full-via-else-root_full w ↦ (λ q. omega (arith, w.if-root_full.false))
          ] in
          let wanted : c.if-root_full-2.wanted ≡ taken (of g).order index_unit c.args.key.now (tree_of (of g) (g.S.Store.meaning c.args.store.now).words c.args.tree.header) =
          elim c.if-root_full-2.branch [
            | then-root_full-2 w ↦ omega (arith, w.wanted-is, wanted_full (of g) _ _ _ s _ _ found c.limit.ensures w.if-root_full-2.true)
            | else-root_full-2 w ↦ w.wanted-is ∙ wanted_less (of g) _ _ _ s _ _ found c.limit.ensures w.if-root_full-2.false
          ] in
          record {
            reason = no_why (of g) _ _ _ s _ _ found c.limit.ensures can _ wanted (omega (arith, c.if-free-wanted.false, stock_free _ _ _ _ _ t.same b.call c.free.ensures));
            done = b.call.same ∙ t.same;
          };
      ready = b.ready;
    }
