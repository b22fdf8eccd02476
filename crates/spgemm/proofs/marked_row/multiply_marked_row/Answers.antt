use Rattle.store.specs.Fibers.{entries_along}
use Rattle.terms.specs.Marked.{keeps_marked}
use Rattle.terms.specs.Terms.{kept_terms, terms_of_row}
use Rattle.spgemm.proofs.KeptRows.{row_closed}
use Rattle.spgemm.proofs.marked_row.multiply_marked_row.Goals as goal

pub returns : goal.returns
returns c =
    let terms = kept_terms (keeps_marked c.args.mask) (terms_of_row c.args.semiring.multiply (entries_along c.args.row.index c.args.row.cols.now c.args.row.words.now) c.args.b.now) in
    row_closed c.close.result c.args.semiring.add.op c.args.row.index terms c.args.lists.now c.sum_marked.new.lists c.close.new.self c.in_ok-sum_marked.ensures c.close.ensures.ends c.close.ensures.inner c.close.ensures.words
