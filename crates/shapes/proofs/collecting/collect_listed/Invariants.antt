use Rattle.std.proofs.Common.{length}
use Rattle.model.specs.Indices.{These}
use Rattle.model.specs.Regions.{extracted}
use Rattle.store.specs.Stored.{content_of}
use Rattle.shapes.specs.Collects.{IsCollected}
use Rattle.shapes.proofs.collecting.collect_listed.Given as goal

abbrev pub invariant-loop-index : goal.invariant-loop-index
invariant-loop-index l = IsCollected (extracted l.a.rows l.a.cols (These l.rows) (These l.cols) (content_of l.a)) l.range.start l.index l.range.end (length l.cols) l.entries.items
