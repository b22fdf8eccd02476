use Rattle.std.proofs.Common.{arith}
use Rattle.store.proofs.Walks.{rest_shorter}
use Rattle.spgemm.proofs.DenseLaws.{cols_below}
use Rattle.spgemm.proofs.WalkLaws.{walked_all, walked_more, walked_next, walked_none}
use Rattle.spgemm.proofs.along.add_along_by.Goals as goal

pub loop-line-init : goal.loop-line-init
loop-line-init c = record { walked = walked_none c.args.semiring c.args.b.now c.args.row.index c.args.row.cols.now c.args.row.words.now c.args.marks.now c.args.sums.now c.rows_in-rest.result.entries c.rows_in-rest.ensures.entries c.requires.before; bound = omega arith; marked = λ at less. absurd (omega (arith, less)) }

pub overflow_sub-at : goal.overflow_sub-at
overflow_sub-at c =
    let line = c.in-Some.line in
    (walked_next c.args.semiring c.args.b.now c.args.row.index c.args.row.cols.now c.args.row.words.now c.loop-line.marks c.loop-line.sums c.loop-line.rest.entries line.index line.cols.now line.words.now c.in-Some.others.entries c.loop-line.invariant.walked c.in-Some.ensures).0

pub offset_bounds-row-at : goal.offset_bounds-row-at
offset_bounds-row-at c =
    let line = c.in-Some.line in
    let within = walked_next c.args.semiring c.args.b.now c.args.row.index c.args.row.cols.now c.args.row.words.now c.loop-line.marks c.loop-line.sums c.loop-line.rest.entries line.index line.cols.now line.words.now c.in-Some.others.entries c.loop-line.invariant.walked c.in-Some.ensures in
    omega (arith, within.0, within.1, c.ranges.row)

pub bounds-row-at : goal.bounds-row-at
bounds-row-at c =
    let line = c.in-Some.line in
    let within = walked_next c.args.semiring c.args.b.now c.args.row.index c.args.row.cols.now c.args.row.words.now c.loop-line.marks c.loop-line.sums c.loop-line.rest.entries line.index line.cols.now line.words.now c.in-Some.others.entries c.loop-line.invariant.walked c.in-Some.ensures in
    omega (arith, within.0, within.1, c.requires.lengths)

pub add_row_of_b-known-requires-clause-inside : goal.add_row_of_b-known-requires-clause-inside
add_row_of_b-known-requires-clause-inside c =
    let line = c.in-Some.line in
    let within = walked_next c.args.semiring c.args.b.now c.args.row.index c.args.row.cols.now c.args.row.words.now c.loop-line.marks c.loop-line.sums c.loop-line.rest.entries line.index line.cols.now line.words.now c.in-Some.others.entries c.loop-line.invariant.walked c.in-Some.ensures in
    cols_below c.args.b.now line.index line.cols.now line.words.now _ c.in-Some.ensures.lengths within.2 (omega (arith, c.requires.inside, c.loop-line.auto.sums))

pub loop-line-smaller : goal.loop-line-smaller
loop-line-smaller c =
    let line = c.in-Some.line in
    rest_shorter line.index line.cols.now line.words.now c.loop-line.rest.entries c.in-Some.others.entries c.in-Some.ensures

pub loop-line-preserved : goal.loop-line-preserved
loop-line-preserved c =
    let line = c.in-Some.line in
    let put = c.add_row_of_b-known in
    record {
      walked = walked_more c.args.semiring c.args.b.now c.args.row.index c.args.row.cols.now c.args.row.words.now c.loop-line.marks c.loop-line.sums c.loop-line.rest.entries line.index line.cols.now line.words.now c.in-Some.others.entries put.new.marks put.new.sums c.requires.lengths c.requires.steps c.loop-line.invariant.walked c.in-Some.ensures put.ensures.sums;
      bound = omega (arith, put.ensures.bound, c.cols-width.ensures);
      marked = put.ensures.known;
    }

pub returns : goal.returns
returns c = walked_all c.args.semiring c.args.b.now c.args.row.index c.args.row.cols.now c.args.row.words.now c.loop-line.marks c.loop-line.sums c.loop-line.rest.entries c.requires.lengths c.requires.steps c.loop-line.invariant.walked c.in_default.ensures
