use Rattle.std.proofs.Common.{sym, true, rules}
use Rattle.std.specs.Ordering.{is_le}
use Rattle.std.proofs.lemmas.List.Sorted.{IsPartitionPoint-from_clause}
use Rattle.keys.proofs.Counted.{parted, front_count}
use Rattle.keys.proofs.search.up_to.Goals as goal

pub returns-clause-value : goal.returns-clause-value
returns-clause-value g c up =
    let at = IsPartitionPoint-from_clause (λ x. is_le (g.K.Key.order x c.args.q.now)) _ _ c.partition_point.ensures.partitioned (parted g.met.K.Key.ordered true c.args.q.now _ up) (λ a r q k. search rules) in
    sym (front_count _ _ _ c.partition_point.ensures.bound at.0 at.1)
