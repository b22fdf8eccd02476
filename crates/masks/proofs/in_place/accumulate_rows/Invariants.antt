use Rattle.algebra.specs.OperatorNames.{op_named}
use Rattle.store.specs.Stored.{content_of}
use Rattle.masks.proofs.InPlaceLaws.{AreOverSoFar}
use Rattle.masks.proofs.in_place.accumulate_rows.Given as goal

abbrev pub invariant-loop-k : goal.invariant-loop-k
invariant-loop-k l = AreOverSoFar (op_named l.op) (content_of l.store) l.rows l.fn.words l.k l.words
