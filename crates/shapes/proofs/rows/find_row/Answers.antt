use Rattle.store.specs.Stored.{content_of}
use Rattle.shapes.proofs.Walked.{row_is}
use Rattle.shapes.proofs.rows.find_row.Goals as goal

pub returns : goal.returns
returns c =
    let a = c.args.a.now in
    row_is a.rows a.cols (content_of a) c.args.row c.row.result.0.now c.row.result.1.now c.rows-rows.ensures.within c.row.ensures.lengths c.row.ensures.entries
