use Rattle.std.proofs.Common.{length}
use Rattle.model.specs.Indices.{All, These}
use Rattle.model.specs.Regions.{extracted}
use Rattle.store.specs.Stored.{content_of}
use Rattle.shapes.proofs.ColumnPlaces.{IsCollecting}
use Rattle.shapes.proofs.collecting.collect_all.Given as goal

abbrev pub invariant-loop-row : goal.invariant-loop-row
invariant-loop-row l = IsCollecting (content_of l.a) (extracted l.a.rows l.a.cols All (These l.cols) (content_of l.a)) l.range.start l.range.end l.a.cols (length l.cols) l.rest.entries l.entries.items

abbrev pub decreases-loop-row : goal.decreases-loop-row
decreases-loop-row l = length l.rest.entries
