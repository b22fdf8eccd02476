use Rattle.store.specs.Parts.{HasRows}
use Rattle.store.specs.Stored.{content_of}
use Rattle.shapes.specs.Lists.{with_rows}
use Rattle.shapes.proofs.FewLaws.{IsUpTo}
use Rattle.shapes.proofs.few.replace_rows.Given as goal

abbrev pub invariant-loop-index : goal.invariant-loop-index
invariant-loop-index l = record {
  up_to : IsUpTo l.listed l.first l.past l.index-index l.row;
  made : HasRows (with_rows l.listed (content_of l.new) (content_of l.old)) l.first l.row l.old.cols l.lists;
}
