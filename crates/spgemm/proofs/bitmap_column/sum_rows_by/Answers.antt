use Rattle.std.proofs.Common.{◌<◌, ◌≡◌, None, arith}
use Rattle.store.specs.Forms.{of_bitmap}
use Rattle.store.proofs.Walks.{rest_shorter}
use Rattle.spgemm.specs.Dense.{word_in}
use Rattle.spgemm.proofs.BitmapSums.{no_word}
use Rattle.spgemm.proofs.RowSums.{bitmap_within, down_all, down_inside, down_more, down_next, down_none}
use Rattle.spgemm.proofs.bitmap_column.sum_rows_by.Goals as goal

pub loop-row-init : goal.loop-row-init
loop-row-init c = rw (c.rows_in-rest.ensures.entries, c.rows-2.ensures.rows) (down_none c.args.semiring c.args.a.now (of_bitmap c.args.u.now) c.args.bits.now c.args.sums.now c.requires.none)

pub sum_of-sum-requires-clause-inside : goal.sum_of-sum-requires-clause-inside
sum_of-sum-requires-clause-inside c =
    let row = c.in-Some.row in
    let s = c.loop-row in
    down_inside c.args.semiring c.args.a.now (of_bitmap c.args.u.now) s.bits s.sums s.rest.entries row.index row.cols.now row.words.now c.in-Some.others.entries c.args.u.now.rows s.invariant c.in-Some.ensures (omega (arith, c.requires.inner))

-- the row that is next
next : (c : goal.After-put_sum-arg-in-Some-1)
    → (word_in c.loop-row.bits c.loop-row.sums c.in-Some.row.index ≡ None) × (c.in-Some.row.index < c.args.a.now.rows)
next c =
    let row = c.in-Some.row in
    let s = c.loop-row in
    down_next c.args.semiring c.args.a.now (of_bitmap c.args.u.now) s.bits s.sums s.rest.entries row.index row.cols.now row.words.now c.in-Some.others.entries s.invariant c.in-Some.ensures

pub put_sum-requires-clause-word : goal.put_sum-requires-clause-word
put_sum-requires-clause-word c = omega (arith, (next c).1, c.requires.words)

pub put_sum-requires-clause-bit : goal.put_sum-requires-clause-bit
put_sum-requires-clause-bit c = omega (arith, (next c).1, c.requires.words, c.requires.bits)

pub put_sum-requires-clause-none : goal.put_sum-requires-clause-none
put_sum-requires-clause-none c = no_word _ _ (next c).0

pub loop-row-smaller : goal.loop-row-smaller
loop-row-smaller c =
    let row = c.in-Some.row in
    rest_shorter row.index row.cols.now row.words.now c.loop-row.rest.entries c.in-Some.others.entries c.in-Some.ensures

pub loop-row-preserved : goal.loop-row-preserved
loop-row-preserved c =
    let row = c.in-Some.row in
    let s = c.loop-row in
    down_more c.args.semiring c.args.a.now (of_bitmap c.args.u.now) s.bits s.sums s.rest.entries row.index row.cols.now row.words.now c.in-Some.others.entries
    c.put_sum.new.bits c.put_sum.new.sums c.sum_of-sum.result s.invariant c.in-Some.ensures c.sum_of-sum.ensures c.put_sum.ensures

pub returns : goal.returns
returns c =
    let s = c.loop-row in
    down_all c.args.semiring c.args.a.now (of_bitmap c.args.u.now) s.bits s.sums s.rest.entries c.rows-2.ensures.within (bitmap_within c.args.u.now c.rows.ensures.inside) s.invariant c.in_default.ensures
