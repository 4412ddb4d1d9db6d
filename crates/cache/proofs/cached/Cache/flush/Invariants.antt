use Rattle.std.proofs.Common.{◌≡◌, false}
use Rattle.cache.specs.Lines.{views, table_views}
use Rattle.cache.specs.Cache.{Held}
use Rattle.cache.proofs.Closings.{Closing}
use Rattle.cache.proofs.cached.Cache.flush.Given as goal

abbrev pub invariant-loop-line : goal.invariant-loop-line
invariant-loop-line g l =
    let t = l.fn.self.table in
    let m = g.S.Store.meaning l.initial.store in
    g.S.Store.ready l.initial.store
    → Held m t.lost (table_views t)
    → t.lost ≡ false
    → g.S.Store.ready l.store × Closing (table_views t) m t.lost l.line-index (views l.line-items) (g.S.Store.meaning l.store)
