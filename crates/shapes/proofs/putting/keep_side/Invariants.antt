use Rattle.std.proofs.Common.{ℕ, ◌≤◌, length}
use Rattle.store.specs.Stored.{content_of}
use Rattle.model.specs.Indices.{Indices}
use Rattle.shapes.specs.Named.{IsNamed}
use Rattle.shapes.specs.Sides.{one_side}
use Rattle.shapes.proofs.Going.{IsGoing}
use Rattle.shapes.proofs.putting.keep_side.Given as goal

abbrev pub invariant-loop-row : goal.invariant-loop-row
invariant-loop-row l = (rows cols : Indices) (size : ℕ) → IsNamed rows cols l.named → l.past ≤ size → IsGoing (content_of l.a) (one_side l.inside size l.a.cols rows cols (content_of l.a)) l.first l.past l.a.cols l.a.cols l.rest.entries l.lists

abbrev pub decreases-loop-row : goal.decreases-loop-row
decreases-loop-row l = length l.rest.entries
