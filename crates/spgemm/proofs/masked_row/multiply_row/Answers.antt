use Rattle.std.proofs.Common.{◌<◌, ◌≤◌, arith, rules}
use Rattle.std.proofs.lemmas.List.Elements.{All-weaker}
use Rattle.store.specs.Fibers.{entries_along}
use Rattle.terms.specs.Terms.{terms_of_row}
use Rattle.spgemm.proofs.DenseLaws.{cols_below}
use Rattle.terms.proofs.Kept.{terms_inside}
use Rattle.spgemm.proofs.SlotRows.{row_all, row_kept, row_rises}
use Rattle.spgemm.proofs.masked_row.multiply_row.Goals as goal

pub multiply_row_under-requires-clause-mask_rising : goal.multiply_row_under-requires-clause-mask_rising
multiply_row_under-requires-clause-mask_rising c = row_rises c.in-Some.mask.store.now c.args.row.index c.row.result.0.now c.row.result.1.now c.row.ensures.lengths c.row.ensures.entries

pub multiply_row_under-requires-clause-mask_inside : goal.multiply_row_under-requires-clause-mask_inside
multiply_row_under-requires-clause-mask_inside c =
    All-weaker (λ col. col < c.args.b.now.cols) (λ col. (0 ≤ col) × (col < c.cols.result)) (λ col less. (omega arith, omega (arith, less, c.cols.ensures))) c.row.result.0.now
    (cols_below c.in-Some.mask.store.now c.args.row.index c.row.result.0.now c.row.result.1.now c.args.b.now.cols c.row.ensures.lengths c.row.ensures.entries (search rules))

pub returns-in-Some-clause-row : goal.returns-in-Some-clause-row
returns-in-Some-clause-row c =
    let b = c.args.b.now in
    let index = c.args.row.index in
    let row = entries_along index c.args.row.cols.now c.args.row.words.now in
    rw c.in-Some.is (row_kept c.multiply_row_under.result c.in-Some.mask index b.cols c.args.semiring.add.op (terms_of_row c.args.semiring.multiply row b) c.args.lists.now c.multiply_row_under.new.lists
    (entries_along index c.row.result.0.now c.row.result.1.now) (search rules) (terms_inside c.args.semiring.multiply row b) c.row.ensures.entries (rw c.cols.ensures at c.multiply_row_under.ensures.row))

pub returns-in-None-clause-row : goal.returns-in-None-clause-row
returns-in-None-clause-row c =
    let index = c.args.row.index in
    rw c.in-None.is (row_all c.multiply_whole_row.result c.args.semiring.add.op index (terms_of_row c.args.semiring.multiply (entries_along index c.args.row.cols.now c.args.row.words.now) c.args.b.now) c.args.lists.now c.multiply_whole_row.new.lists c.multiply_whole_row.ensures.row)
