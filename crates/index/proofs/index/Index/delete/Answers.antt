use Rattle.std.proofs.Common.{◌≡◌, None, rules, subst}
use Rattle.store.specs.Calls.{Leaves}
use Rattle.copies.proofs.Exits.{raised}
use Rattle.tree.specs.Tree.{drops}
use Rattle.held.specs.Held.{kind}
use Rattle.index.specs.Updated.{Rewrites}
use Rattle.index.proofs.Updates.{kept, not_kept}
use Rattle.index.proofs.index.Index.delete.Goals as goal

pub returns-in_err-updated-clause-updates : goal.returns-in_err-updated-clause-updates
returns-in_err-updated-clause-updates g c =
    let κ = kind g.K.Key.width g.K.Key.order g.K.Key.packed g.K.Key.unpacked in
    let u = drops c.args.key.now in
    let i = c.args.self.now in
    let s = c.step.new.self in
    let asks : i.fault ≡ None → Leaves g.S.Store.meaning g.S.Store.ready (Rewrites κ i.header i.tree.header u) i.store c.step.result s.store = search rules in
    let refused = subst (λ r. i.fault ≡ None → Leaves g.S.Store.meaning g.S.Store.ready (Rewrites κ i.header i.tree.header u) i.store r s.store) c.in_err-updated.was asks in
    rw (raised _ _ c.from_residual.ensures) (not_kept κ g.S.Store.meaning g.S.Store.ready u i s c.in_err-updated.field-0.0 refused c.in_err-updated.ensures.remembers c.in_err-updated.ensures.handle)

pub returns-clause-updates : goal.returns-clause-updates
returns-clause-updates g c =
    let κ = kind g.K.Key.width g.K.Key.order g.K.Key.packed g.K.Key.unpacked in
    let u = drops c.args.key.now in
    let i = c.args.self.now in
    let s = c.step.new.self in
    let asks : i.fault ≡ None → Leaves g.S.Store.meaning g.S.Store.ready (Rewrites κ i.header i.tree.header u) i.store c.step.result s.store = search rules in
    let done = subst (λ r. i.fault ≡ None → Leaves g.S.Store.meaning g.S.Store.ready (Rewrites κ i.header i.tree.header u) i.store r s.store) c.in_ok-updated.was asks in
    kept κ g.S.Store.meaning g.S.Store.ready u i s c.keep.new.self c.in_ok-updated.updated c.keep.result done c.in_ok-updated.ensures.remembers c.in_ok-updated.ensures.handle
    c.keep.ensures.marks c.keep.ensures.tree c.keep.ensures.tally c.keep.ensures.same
