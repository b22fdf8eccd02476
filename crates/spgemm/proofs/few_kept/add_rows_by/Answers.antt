use Rattle.std.proofs.Common.{[], arith, subst, sym, take}
use Rattle.std.proofs.lemmas.List.{take_all}
use Rattle.lanes.specs.Bits.{has_bit}
use Rattle.store.specs.Fibers.{entries_along}
use Rattle.store.proofs.Places.{length_row}
use Rattle.spgemm.specs.Dense.{AreColumnSums}
use Rattle.terms.specs.Terms.{kept_terms, terms_of_row, times_row}
use Rattle.spgemm.proofs.DenseLaws.{clear_sums, cols_below}
use Rattle.spgemm.proofs.FewKept.{kept_append}
use Rattle.terms.proofs.Terms.{row_more}
use Rattle.spgemm.proofs.few_kept.add_rows_by.Goals as goal

pub add_products-requires-clause-inside : goal.add_products-requires-clause-inside
add_products-requires-clause-inside c = cols_below c.args.b.now _ c.row_near-next.result.0.now c.row_near-next.result.1.now _ c.row_near-next.ensures.lengths c.row_near-next.ensures.entries (omega (arith, c.requires.inside))

pub loop-k-init : goal.loop-k-init
loop-k-init c = record { sums = clear_sums c.args.semiring.add.op c.args.bits.now c.args.sums.now c.requires.none }

pub loop-k-preserved : goal.loop-k-preserved
loop-k-preserved c =
    let s = c.loop-k in
    let op = c.args.semiring.add.op in
    let mul = c.args.semiring.multiply in
    let b = c.args.b.now in
    let keeps = has_bit c.args.kept.now in
    let row = entries_along c.args.row.index c.args.row.cols.now c.args.row.words.now in
    let line = c.row_near-next in
    let more = row_more mul b c.args.row.index c.args.row.cols.now c.args.row.words.now s.k line.result.0.now line.result.1.now c.requires.lengths c.loop-k-test.true line.ensures.entries in
    let terms = terms_of_row mul (take s.k row) b in
    let put = c.add_products in
    record {
      sums = subst (λ ts. AreColumnSums op (kept_terms keeps ts) put.new.bits put.new.sums) (sym more)
          (kept_append op keeps [] terms (times_row mul _ (entries_along 0 line.result.0.now line.result.1.now)) put.new.bits put.new.sums (put.ensures (kept_terms keeps terms) s.invariant.sums));
    }

pub returns : goal.returns
returns c =
    let row = entries_along c.args.row.index c.args.row.cols.now c.args.row.words.now in
    let long = length_row c.args.row.index c.args.row.cols.now c.args.row.words.now c.requires.lengths in
    let all = take_all c.loop-k.k row (omega (arith, c.loop-k-test.false)) in
    subst (λ row. AreColumnSums c.args.semiring.add.op (kept_terms (has_bit c.args.kept.now) (terms_of_row c.args.semiring.multiply row c.args.b.now)) c.loop-k.bits c.loop-k.sums) all c.loop-k.invariant.sums
