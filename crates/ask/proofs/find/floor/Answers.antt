use Rattle.std.proofs.Common.{Some, ap, ◌∙◌, arith}
use Rattle.nodes.proofs.Rooms.{room_same}
use Rattle.tree.specs.Tree.{index_unit}
use Rattle.held.specs.Held.{Kind, kind}
use Rattle.held.proofs.Child.{node_of}
use Rattle.ask.proofs.Leaves.{leaf_node, searched, floor_none, floor_some, read_pair}
use Rattle.ask.proofs.find.floor.Given as given
use Rattle.ask.proofs.find.floor.Goals as goal

abbrev of : (g : given.Over) → Kind g.row.K.Denot
of g = kind g.K.Key.width g.K.Key.order g.K.Key.packed g.K.Key.unpacked

pub returns-in_default : goal.returns-in_default
returns-in_default g c = λ h.
    let a = c.in_ok-leaf.ensures h in
    let e = c.in_ok-keys_up_to.ensures.finds a.ready in
    record {
      call = λ p.
          let f = a.call p in
          let s = searched (of g) _ _ _ _ _ _ _ f (e.call (leaf_node (of g) _ _ _ _ _ f)) in
          record { value_is = floor_none (of g) _ _ _ _ (omega (arith, c.in_default.ensures)) s.1 ∙ f.floors; same = s.0 };
      ready = e.ready;
    }

pub returns : goal.returns
returns g c = λ h.
    let a = c.in_ok-leaf.ensures h in
    let e = c.in_ok-keys_up_to.ensures.finds a.ready in
    let x = c.in_ok-found.ensures e.ready in
    let y = c.in_ok-handle.ensures x.ready in
    record {
      call = λ p.
          let f = a.call p in
          let s = searched (of g) _ _ _ _ _ _ _ f (e.call (leaf_node (of g) _ _ _ _ _ f)) in
          let room = (node_of (of g) index_unit _ _ _ f.sits).room in
          let k = x.call (room_same _ _ _ _ s.0 room) in
          let v = y.call (room_same _ _ _ _ (k.same ∙ s.0) room) in
          let q = read_pair (of g) _ _ _ _ _ _ _ _ s.0 k v in
          record { value_is = ap Some q.1 ∙ floor_some (of g) _ _ _ _ _ (omega (arith, c.in-Some.ensures)) s.1 ∙ f.floors; same = q.0 };
      ready = y.ready;
    }
