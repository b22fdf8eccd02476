-- What the members have in the range, the list names there.
use Rattle.std.proofs.Common.{◌∙◌}
use Rattle.shapes.proofs.ListLaws.{sorted_has}
use Rattle.shapes.proofs.few.few_named.Goals as goal

pub returns-clause-part : goal.returns-clause-part
returns-clause-part c rows cols size named =
    let part = c.part-listed.ensures.part in
    record {
      inside = part.inside;
      members = λ i low high. part.members i low high ∙ sorted_has size i rows c.in-Some.rows.sorted.now (rw c.in-Some.is at named.row_members);
    }
