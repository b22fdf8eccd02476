use Rattle.std.proofs.Common.{◌∙◌, arith}
use Rattle.spgemm.proofs.RowSums.{column_product, none_past}
use Rattle.spgemm.proofs.bitmap_column.multiply_by_bitmap.Goals as goal

pub of_bits-made-requires-clause-none_behind : goal.of_bits-made-requires-clause-none_behind
of_bits-made-requires-clause-none_behind c = λ at past.
    none_past c.args.semiring c.args.a.now c.args.u.now c.in_ok-bits.bits.items c.in_ok-bits.sums.items at c.in_ok-bits.ensures.sums c.requires.column c.rows-2.ensures.within c.rows.ensures.inside (omega (arith, past, c.rows-2.ensures.rows))

pub returns-clause-content : goal.returns-clause-content
returns-clause-content c = λ i j.
    let made = c.of_bits-made.result in
    column_product c.args.semiring c.args.a.now c.args.u.now made c.in_ok-bits.bits.items c.in_ok-bits.sums.items i j c.in_ok-bits.ensures.sums
    (record {
      rows_are = c.of_bits-made.ensures.rows ∙ c.rows-2.ensures.rows;
      cols_are = c.of_bits-made.ensures.cols;
      inside = c.rows-3.ensures.inside;
      words_are = rw c.rows-2.ensures.rows at c.of_bits-made.ensures.content;
    })
    c.requires.column c.rows-2.ensures.within c.rows.ensures.inside
