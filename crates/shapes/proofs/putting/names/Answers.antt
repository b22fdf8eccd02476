use Rattle.std.proofs.Common.{◌∙◌}
use Rattle.shapes.proofs.ListLaws.{sorted_has}
use Rattle.shapes.proofs.putting.names.Goals as goal

pub returns-in-Some : goal.returns-in-Some
returns-in-Some c indices size are less = c.has.ensures ∙ sorted_has size c.args.index indices c.in-Some.members.sorted.now (rw c.in-Some.is at are)
