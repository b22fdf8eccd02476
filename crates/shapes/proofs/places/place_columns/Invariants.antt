use Rattle.shapes.proofs.ColumnPlaces.{ArePlaced}
use Rattle.shapes.proofs.places.place_columns.Given as goal

abbrev pub invariant-loop-k : goal.invariant-loop-k
invariant-loop-k l = ArePlaced l.size l.cols l.k l.entries.items
