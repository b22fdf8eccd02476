use Rattle.std.proofs.Common.{length}
use Rattle.model.specs.Indices.{All}
use Rattle.model.specs.Regions.{extracted}
use Rattle.store.specs.Stored.{content_of}
use Rattle.shapes.proofs.Going.{IsGoing}
use Rattle.shapes.proofs.extracting.extract_all.Given as goal

abbrev pub invariant-loop-row : goal.invariant-loop-row
invariant-loop-row l = IsGoing (content_of l.a) (extracted l.a.rows l.a.cols All l.cols (content_of l.a)) l.first l.past l.a.cols (length l.listed) l.rest.entries l.lists

abbrev pub decreases-loop-row : goal.decreases-loop-row
decreases-loop-row l = length l.rest.entries
