use Rattle.store.specs.Fibers.{entries_along}
use Rattle.terms.specs.Terms.{terms_of_row}
use Rattle.spgemm.proofs.KeptRows.{row_closed}
use Rattle.spgemm.proofs.row.multiply_whole_row.Goals as goal

pub returns-clause-row : goal.returns-clause-row
returns-clause-row c =
    let terms = terms_of_row c.args.semiring.multiply (entries_along c.args.row.index c.args.row.cols.now c.args.row.words.now) c.args.b.now in
    row_closed c.close.result c.args.semiring.add.op c.args.row.index terms c.args.lists.now c.sum_row.new.lists c.close.new.self c.in_ok-sum_row.ensures.row c.close.ensures.ends c.close.ensures.inner c.close.ensures.words
