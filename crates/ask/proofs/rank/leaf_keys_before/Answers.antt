use Rattle.std.proofs.Common.{◌≡◌, inl, inr, ap, ◌∙◌, arith, rules}
use Rattle.std.specs.Int.{from_bool}
use Rattle.std.specs.Ordering.{is_eq}
use Rattle.nodes.proofs.Rooms.{room_same}
use Rattle.tree.specs.Tree.{index_unit}
use Rattle.held.specs.Held.{Kind, kind, Lawful}
use Rattle.held.proofs.Child.{node_of}
use Rattle.ask.proofs.Ranks.{leaf_first, leaf_last}
use Rattle.ask.proofs.rank.leaf_keys_before.Given as given
use Rattle.ask.proofs.rank.leaf_keys_before.Goals as goal
use Rattle.ask.proofs.rank.leaf_keys_before.Goals.{then-equal-via-then-equal, then-equal-via-else-equal+then-upto-eq0}

abbrev of : (g : given.Over) → Kind g.row.K.Denot
of g = kind g.K.Key.width g.K.Key.order g.K.Key.packed g.K.Key.unpacked

abbrev law : (g : given.Over) → Lawful (of g)
law g = record { ordered = g.met.K.Key.ordered; packing = g.met.K.Key.packing }

pub returns-then-equal-clause-counts : goal.returns-then-equal-clause-counts
returns-then-equal-clause-counts g c = λ h.
    let e = c.in_ok-upto.ensures.finds h in
    record {
      call = λ s.
          let f = e.call (node_of (of g) index_unit _ 0 _ s) in
          leaf_first (of g) (law g) _ _ _ _ _ _ (elim c.then-equal.branch [ then-equal-via-then-equal w ↦ inl w.if-equal.true | then-equal-via-else-equal+then-upto-eq0 w ↦ inr w.if-upto-eq0.true ]) s f;
      ready = e.ready;
    }

pub returns-clause-counts : goal.returns-clause-counts
returns-clause-counts g c = λ h.
    let e = c.in_ok-upto.ensures.finds h in
    let x = c.in_ok-last.ensures e.ready in
    record {
      call = λ s.
          let n = node_of (of g) index_unit _ 0 _ s in
          let f = e.call n in
          let itself : c.is_eq.result ≡ is_eq (g.K.Key.order c.in_ok-last.last c.args.key.now) = search rules in
          leaf_last (of g) (law g) _ _ _ _ _ _ _ _ _ _ c.if-equal.false (omega (arith, c.if-upto-eq0.false)) s f (x.call (room_same _ _ _ _ f.same n.room)) (c.from.ensures ∙ ap from_bool itself);
      ready = x.ready;
    }
