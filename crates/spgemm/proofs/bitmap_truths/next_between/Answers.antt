-- The next row is that of the lowest bit that is left.
use Rattle.std.proofs.Common.{arith, inl, inr}
use Rattle.std.proofs.lemmas.Bool.{cases_lt}
use Rattle.spgemm.proofs.SetBits.{next_found, none_found}
use Rattle.spgemm.proofs.bitmap_truths.next_between.Goals as goal

pub returns-then-found-past-clause-low : goal.returns-then-found-past-clause-low
returns-then-found-past-clause-low c =
    let next = next_found c.args.u.now.entries c.present.result c.lowest_bits.result c.loop-row.row (omega (arith, c.present.type_inv)) (omega (arith, c.lowest_bits.type_inv)) c.present.ensures c.lowest_bits.ensures c.if-left-ne0.true in
    omega (arith, next.0, c.loop-row.invariant.low, c.from.ensures)

pub returns-then-found-past-clause-gap : goal.returns-then-found-past-clause-gap
returns-then-found-past-clause-gap c = λ k low high.
    let next = next_found c.args.u.now.entries c.present.result c.lowest_bits.result c.loop-row.row (omega (arith, c.present.type_inv)) (omega (arith, c.lowest_bits.type_inv)) c.present.ensures c.lowest_bits.ensures c.if-left-ne0.true in
    elim (cases_lt k c.loop-row.row) [
      | inl before ↦ c.loop-row.invariant.none k low before
      | inr behind ↦ next.1 k (omega arith) (omega (arith, c.from.ensures))
    ]

pub returns-else-found-past-clause-none : goal.returns-else-found-past-clause-none
returns-else-found-past-clause-none c = λ is k low high.
    let next = next_found c.args.u.now.entries c.present.result c.lowest_bits.result c.loop-row.row (omega (arith, c.present.type_inv)) (omega (arith, c.lowest_bits.type_inv)) c.present.ensures c.lowest_bits.ensures c.if-left-ne0.true in
    elim (cases_lt k c.loop-row.row) [
      | inl before ↦ c.loop-row.invariant.none k low before
      | inr behind ↦ next.1 k (omega arith) (omega (arith, c.from.ensures, c.if-found-past.false))
    ]

pub loop-row-preserved : goal.loop-row-preserved
loop-row-preserved c = record {
  low = omega (arith, c.saturating_add-row.ensures, c.loop-row.invariant.low, c.loop-row-test.true);
  none = λ k low high.
      elim (cases_lt k c.loop-row.row) [
        | inl before ↦ c.loop-row.invariant.none k low before
        | inr behind ↦ none_found c.args.u.now.entries c.present.result c.lowest_bits.result c.loop-row.row (omega (arith, c.present.type_inv)) (omega (arith, c.lowest_bits.type_inv)) c.present.ensures c.lowest_bits.ensures c.if-left-ne0.false k (omega arith) (omega (arith, c.saturating_add-row.ensures))
      ];
}
