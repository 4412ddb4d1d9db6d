use Rattle.std.proofs.Common.{◌*◌, ap, ◌∙◌}
use Rattle.copies.specs.Blocks.{Copyable, Pasted, spot}
use Rattle.copies.proofs.Exits.{raised, lost_later, kin_edit, work_on}
use Rattle.nodes.specs.Places.{form}
use Rattle.nodes.specs.Nodes.{Rooms, Carried}
use Rattle.nodes.proofs.Rooms.{rooms_edit}
use Rattle.nodes.proofs.Carries.{weights_fit, keys_fit, children_fit, run_copied, carry_two, carry_all}
use Rattle.nodes.proofs.carry.copy_entries.Goals as goal

pub returns-in_err-copy_run-2 : goal.returns-in_err-copy_run-2
returns-in_err-copy_run-2 g c =
    rw (raised _ _ c.from_residual-in_err-copy_run-2.ensures) (λ h.
    let φ = form g.K.Key.width in
    let f = c.args.from in
    let t = c.args.to in
    let a = c.in_ok-copy_run.ensures h in
    let e = c.in_err-copy_run-2.ensures a.ready in
    let k = c.requires.within.0 in
    let l = c.requires.within.1 in
    let d1 = c.new.ensures ∙ ap (spot f) c.weight_at.ensures in
    let d2 = c.new-2.ensures ∙ ap (spot t) c.weight_at-2.ensures in
    let d3 = c.new-3.ensures ∙ ap (spot f) c.key_at.ensures in
    let d4 = c.new-4.ensures ∙ ap (spot t) c.key_at-2.ensures in
    record {
      call = λ p.
          let one = run_copied φ _ _ _ _ _ k l _ _ _ _ _ d1 d2 (a.call (weights_fit φ _ _ _ _ _ k l _ d1 d2 p)) in
          lost_later (kin_edit _ _ _ _ one) (e.call (keys_fit φ _ _ _ _ _ k l _ _ d3 d4 (ap (λ z. z * c.args.n) c.words.ensures) (rooms_edit _ _ _ _ _ _ _ one p)));
      ready = e.ready;
    })

pub returns : goal.returns
returns g c h =
    let φ = form g.K.Key.width in
    let f = c.args.from in
    let t = c.args.to in
    let m = g.S.Store.meaning c.args.store.now in
    let a = c.in_ok-copy_run.ensures h in
    let b = c.in_ok-copy_run-2.ensures a.ready in
    let e = c.copy_run-3.ensures b.ready in
    let k = c.requires.within.0 in
    let l = c.requires.within.1 in
    let len = ap (λ z. z * c.args.n) c.words.ensures in
    let d1 = c.new.ensures ∙ ap (spot f) c.weight_at.ensures in
    let d2 = c.new-2.ensures ∙ ap (spot t) c.weight_at-2.ensures in
    let d3 = c.new-3.ensures ∙ ap (spot f) c.key_at.ensures in
    let d4 = c.new-4.ensures ∙ ap (spot t) c.key_at-2.ensures in
    let d5 = c.new-5.ensures ∙ ap (spot f) c.child_at.ensures in
    let d6 = c.new-6.ensures ∙ ap (spot t) c.child_at-2.ensures in
    let one = λ (p : Rooms φ f t m). run_copied φ _ _ _ _ _ k l _ _ _ _ _ d1 d2 (a.call (weights_fit φ _ _ _ _ _ k l _ d1 d2 p)) in
    let two = λ (p : Rooms φ f t m). carry_two φ _ _ _ _ _ k l _ _ _ _ len (one p) (run_copied φ _ _ _ _ _ k l _ _ _ _ _ d3 d4 (b.call (keys_fit φ _ _ _ _ _ k l _ _ d3 d4 len (rooms_edit _ _ _ _ _ _ _ (one p) p)))) in
    record {
      call = work_on (Rooms φ f t) (Copyable c.new-5.result c.new-6.result c.args.n) (Carried φ f c.args.i t c.args.j c.args.n) (Pasted c.new-5.result c.new-6.result c.args.n) m _ _ _
          (λ p. children_fit φ _ _ _ _ _ k l _ d5 d6 (rooms_edit _ _ _ _ _ _ _ (two p) p))
          (λ p. kin_edit _ _ _ _ (two p))
          (λ _ p x. carry_all φ _ _ _ _ _ k l _ _ _ _ len (two p) (run_copied φ _ _ _ _ _ k l _ _ _ _ _ d5 d6 x))
          e.call;
      ready = e.ready;
    }
