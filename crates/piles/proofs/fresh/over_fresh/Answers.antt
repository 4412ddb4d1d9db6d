use Rattle.std.proofs.Common.{refl, rules}
use Rattle.piles.specs.Runs.OverFresh.{not_made, made}
use Rattle.piles.proofs.fresh.over_fresh.Goals as goal

pub returns-in-Ok : goal.returns-in-Ok
returns-in-Ok g c =
    let i = c.into_runs.ensures in
    made (record {
      store = _;
      fresh = search rules;
      ended = _;
      post = c.step-answer.ensures;
      same_answer = refl;
      back = record { same_layout = i.layout; same_marks = i.marks; same_words = i.words };
    })

pub returns-in-Err : goal.returns-in-Err
returns-in-Err g c = not_made c.in-Err.field-0.cause (search rules) (search rules)
