use Rattle.std.proofs.Common.{◌∙◌, ◌∷◌, length, rules, arith}
use Rattle.std.proofs.lemmas.List.{length-set}
use Rattle.elementwise.proofs.RowSums.{IsNextSum, next_sum, summed_more, summed_none, summed_rows, summed_sums}
use Rattle.elementwise.proofs.reduce.write_sums.Goals as goal
use Rattle.elementwise.proofs.reduce.write_sums.Goals.{After-fiber-outer}

pub loop-at-init : goal.loop-at-init
loop-at-init c =
    let f = c.args.fibers.now in
    let left = c.requires.left in
    let same = left.same_length in
    let whole = left.whole c.requires.some in
    record {
      rows_long = c.requires.rows;
      sums_long = c.requires.sums;
      summed = summed_none c.args.monoid.kind c.args.monoid.op.domain f.from (f.head ∷ f.others.now) f.words.now c.args.rows.now c.args.sums.now (left.rises c.requires.some) (omega arith);
    }

next : (c : After-fiber-outer)
    → IsNextSum c.args.fibers.now.from c.loop-at.start c.fiber-outer.result.end (length c.args.fibers.now.words.now)
next c =
    let f = c.args.fibers.now in
    let s = c.loop-at in
    let within = c.loop-at-test.true in
    let long = c.requires.rows in
    next_sum c.args.monoid.kind c.args.monoid.op.domain f.from (f.head ∷ f.others.now) f.words.now s.rows s.sums s.at s.start c.fiber-outer.result s.invariant.summed (omega arith) c.fiber-outer.ensures

pub overflow_sub-past : goal.overflow_sub-past
overflow_sub-past c = (next (search rules)).low

pub offset_bounds-fibers-start : goal.offset_bounds-fibers-start
offset_bounds-fibers-start c =
    let n = next (search rules) in
    let up = n.rises in
    let inside = n.inside in
    search rules

pub slice_bounds-sum_row-count : goal.slice_bounds-sum_row-count
slice_bounds-sum_row-count c = (next (search rules)).rises

pub slice_bounds-sum_row-start : goal.slice_bounds-sum_row-start
slice_bounds-sum_row-start c = (next (search rules)).rises

pub slice_bounds-sum_row-end : goal.slice_bounds-sum_row-end
slice_bounds-sum_row-end c = (next (search rules)).inside

pub loop-at-preserved : goal.loop-at-preserved
loop-at-preserved c =
    let f = c.args.fibers.now in
    let s = c.loop-at in
    let r = c.fiber-outer.result in
    let within = c.loop-at-test.true in
    let long = c.requires.rows in
    let rows_long = s.invariant.rows_long in
    let sums_long = s.invariant.sums_long in
    record {
      rows_long = length-set s.rows s.at r.outer ∙ rows_long;
      sums_long = length-set s.sums s.at c.sum_row.result ∙ sums_long;
      summed = summed_more c.args.monoid.kind c.args.monoid.op.domain f.from (f.head ∷ f.others.now) f.words.now s.rows s.sums s.at s.start c.sum_row.result r s.invariant.summed (omega arith) c.fiber-outer.ensures (omega arith) (omega arith) c.sum_row.ensures;
    }

pub returns-clause-rows : goal.returns-clause-rows
returns-clause-rows c =
    let f = c.args.fibers.now in
    let s = c.loop-at in
    let done = c.loop-at-test.false in
    let long = c.requires.rows in
    let rows_long = s.invariant.rows_long in
    summed_rows c.args.monoid.kind c.args.monoid.op.domain f.from (f.head ∷ f.others.now) f.words.now s.rows s.sums s.at s.start s.invariant.summed (omega arith) (omega arith)

pub returns-clause-sums : goal.returns-clause-sums
returns-clause-sums c =
    let f = c.args.fibers.now in
    let s = c.loop-at in
    let done = c.loop-at-test.false in
    let long = c.requires.rows in
    let sums_long = s.invariant.sums_long in
    summed_sums c.args.monoid.kind c.args.monoid.op.domain f.from (f.head ∷ f.others.now) f.words.now s.rows s.sums s.at s.start s.invariant.summed (omega arith) (omega arith)
