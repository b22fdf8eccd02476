use Rattle.model.specs.Indices.{These, count_of}
use Rattle.model.specs.Regions.{extracted}
use Rattle.store.specs.Stored.{content_of}
use Rattle.shapes.specs.Rows.{IsMade}
use Rattle.shapes.proofs.extracting.extract_listed.Given as goal

abbrev pub invariant-loop-index : goal.invariant-loop-index
invariant-loop-index l = IsMade (extracted l.a.rows l.a.cols (These l.rows) l.cols (content_of l.a)) l.first l.index (count_of l.a.cols l.cols) l.lists
