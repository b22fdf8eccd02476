use Rattle.std.proofs.Common.{◌≡◌, Some, arith, rules}
use Rattle.store.specs.Fibers.{entries_along}
use Rattle.terms.specs.Marked.{keeps_marked, lets_marked}
use Rattle.terms.specs.Terms.{kept_terms, terms_of_row}
use Rattle.terms.proofs.Kept.{all_terms}
use Rattle.spgemm.proofs.Parts.{kept_inside}
use Rattle.spgemm.proofs.Rows.{open_of}
use Rattle.spgemm.proofs.marked_row.sum_marked.Goals as goal
use Rattle.spgemm.proofs.marked_row.sum_marked.Goals.{After-cols}

-- where the products of all entries are listed, the terms are those of the row that are kept
listed : (c : After-cols) → c.collect_terms.new.scratch.terms.items
    ≡ kept_terms (keeps_marked c.args.mask) (terms_of_row c.args.semiring.multiply (entries_along c.args.row.index c.args.row.cols.now c.args.row.words.now) c.args.b.now)
listed c = all_terms (lets_marked (Some c.args.mask)) c.args.semiring.multiply c.args.row.index c.args.row.cols.now c.args.row.words.now c.args.b.now c.collect_terms.new.scratch.terms.items c.in_ok-done.done c.requires.lengths (omega (arith, c.if-done-row.false)) c.in_ok-done.ensures.terms

pub sum_terms-requires-clause-inside : goal.sum_terms-requires-clause-inside
sum_terms-requires-clause-inside c =
    let row = entries_along c.args.row.index c.args.row.cols.now c.args.row.words.now in
    rw c.cols.ensures (kept_inside (keeps_marked c.args.mask) c.args.semiring.multiply row c.args.b.now c.collect_terms.new.scratch.terms.items (listed (search rules)))

pub returns : goal.returns
returns c =
    let row = entries_along c.args.row.index c.args.row.cols.now c.args.row.words.now in
    open_of c.sum_terms.result c.args.semiring.add.op c.args.row.index c.collect_terms.new.scratch.terms.items (kept_terms (keeps_marked c.args.mask) (terms_of_row c.args.semiring.multiply row c.args.b.now))
    c.args.lists.now c.sum_terms.new.lists (listed (search rules)) c.sum_terms.ensures.row
