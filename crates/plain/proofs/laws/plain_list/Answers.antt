use Rattle.plain.proofs.Floors.{finds, floors, counted, within_none}
use Rattle.plain.proofs.Lookups.{find_put, find_cut}
use Rattle.plain.proofs.Cases.{kept, refusals}
use Rattle.plain.proofs.laws.plain_list.Goals as goal

pub returns : goal.returns
returns g c =
    let o = g.met.K.Key.ordered in (
      λ ps a. record {
        finds = λ k. finds o k ps;
        puts = λ k h q e. find_put o k h q ps e;
        cuts = λ k q. find_cut o k q ps a;
        floors = λ k. floors o k ps a;
        intervals = λ low high. record { counted = counted o low high ps a; none = within_none o low high ps };
        kept = λ most n. kept o most (record { pairs = ps; tally = n }) a;
      },
      refusals g.K.Key.order,
    )
