-- Each row that the vector has adds its terms, and those between them have none.
use Rattle.std.proofs.Common.{◌-◌, List, arith, if◌then◌else◌, refl, subst, sym}
use Rattle.bitmap.specs.Bitmaps.{row_part}
use Rattle.model.specs.Entries.{word_at}
use Rattle.model.specs.Object.{transposed_content}
use Rattle.terms.specs.Terms.{terms_of_row}
use Rattle.spgemm.specs.Truths.{AreTruths}
use Rattle.terms.specs.declared.term.Term.{Term}
use Rattle.spgemm.proofs.BitmapWalk.{no_columns, vector_all, vector_more}
use Rattle.spgemm.proofs.DenseLaws.{cols_below}
use Rattle.spgemm.proofs.TruthLaws.{no_truths}
use Rattle.spgemm.proofs.bitmap_truths.add_rows_by.Goals as goal

pub loop-row-init : goal.loop-row-init
loop-row-init c = record {
  low = omega arith;
  high = c.requires.order;
  sums = subst (λ (ts : List Term). AreTruths c.args.semiring.add.op ts c.args.bits.now c.args.bits.now)
      (sym (no_columns c.args.semiring.multiply (transposed_content (word_at c.args.u.now.entries)) c.args.a.now c.args.rows.start))
      (no_truths c.args.semiring.add.op c.args.bits.now c.args.bits.now c.requires.none c.requires.none);
}

pub add_row-all_true-requires-clause-inside : goal.add_row-all_true-requires-clause-inside
add_row-all_true-requires-clause-inside c = cols_below c.args.a.now c.in-Some.row c.row_near-next.result.0.now c.row_near-next.result.1.now _ c.row_near-next.ensures.lengths c.row_near-next.ensures.entries (omega (arith, c.requires.inside, c.loop-row.auto.bits))

pub loop-row-preserved : goal.loop-row-preserved
loop-row-preserved c =
    let s = c.loop-row in
    let put = c.add_row-all_true in
    let vector = transposed_content (word_at c.args.u.now.entries) in
    let more = vector_more c.args.semiring.multiply vector c.args.a.now c.args.rows.start s.from c.in-Some.row c.row_near-next.result.0.now c.row_near-next.result.1.now s.invariant.low c.in-Some.ensures.low c.in-Some.ensures.gap c.row_near-next.ensures.entries in
    record {
      low = omega (arith, s.invariant.low, c.in-Some.ensures.low);
      high = omega (arith, c.in-Some.ensures.high);
      sums = subst (λ (ts : List Term). AreTruths c.args.semiring.add.op ts put.new.bits (if put.result then put.new.bits else put.new.trues)) (sym more)
          (rw c.get.ensures at put.ensures (terms_of_row c.args.semiring.multiply (row_part vector 0 c.args.rows.start (s.from - c.args.rows.start)) c.args.a.now) s.invariant.sums);
    }

pub returns-then-all_true : goal.returns-then-all_true
returns-then-all_true c =
    let s = c.loop-row in
    let vector = transposed_content (word_at c.args.u.now.entries) in
    rw (c.copy_from_slice.ensures.after) (subst (λ (ts : List Term). AreTruths c.args.semiring.add.op ts s.bits s.bits)
    (sym (vector_all c.args.semiring.multiply vector c.args.a.now c.args.rows.start s.from c.args.rows.end s.invariant.low s.invariant.high (c.in_default.ensures.none refl))) (rw c.if-all_true.true at s.invariant.sums))

pub returns-else-all_true : goal.returns-else-all_true
returns-else-all_true c =
    let s = c.loop-row in
    let vector = transposed_content (word_at c.args.u.now.entries) in
    subst (λ (ts : List Term). AreTruths c.args.semiring.add.op ts s.bits s.trues)
    (sym (vector_all c.args.semiring.multiply vector c.args.a.now c.args.rows.start s.from c.args.rows.end s.invariant.low s.invariant.high (c.in_default.ensures.none refl))) (rw c.if-all_true.false at s.invariant.sums)
