use Rattle.shapes.proofs.ListLaws.{AreAllFrom}
use Rattle.shapes.proofs.listing.count_up.Given as goal

abbrev pub invariant-loop-i : goal.invariant-loop-i
invariant-loop-i l = AreAllFrom l.first l.i l.list.items
