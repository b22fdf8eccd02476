use Rattle.store.specs.Stored.{content_of}
use Rattle.shapes.proofs.Walked.{walk_from}
use Rattle.shapes.proofs.rows.walk_rows.Goals as goal

pub returns : goal.returns
returns c =
    let a = c.args.a.now in
    walk_from (content_of a) a.rows a.cols c.args.range.start c.args.range.end c.rows_in.result.entries c.rows-rows.ensures.within c.rows_in.ensures.entries
