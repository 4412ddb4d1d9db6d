use Rattle.std.proofs.Common.{sym, ap₂, ◌∙◌, slice_set}
use Rattle.stores.specs.Laws.Clearing.{wiped_none, wiped_more}
use Rattle.stores.proofs.layout.Layout.wipe.Goals as goal

pub loop-place-init : goal.loop-place-init
loop-place-init g c = sym (wiped_none ((g.Self.Layout.plan c.args.self.now).at c.args.width c.args.slot) c.args.words.now)

pub loop-place-preserved : goal.loop-place-preserved
loop-place-preserved g c =
    c.put.ensures
    ∙ ap₂ (λ xs k. slice_set xs k 0) c.loop-place.invariant c.place_of.ensures
    ∙ sym (wiped_more ((g.Self.Layout.plan c.args.self.now).at c.args.width c.args.slot) c.args.words.now c.loop-place.place)
