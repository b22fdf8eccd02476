use Rattle.masks.specs.Joins.{alone_of, both_of}
use Rattle.masks.proofs.SamePlaces.{beside_either}
use Rattle.masks.proofs.join.join_whole.Goals as goal

pub returns-then-are_alike : goal.returns-then-are_alike
returns-then-are_alike c =
    let by = c.args.by in
    let made = c.in_ok-join_alike.ensures in
    record {
      flat = made.flat;
      joined = record {
        order = made.flat.order;
        words = λ i j. rw made.entries (beside_either (alone_of by) (both_of by) c.args.lefts.entries c.args.rights.entries i j (c.are_alike.ensures.0 c.if-are_alike.true));
      };
    }
