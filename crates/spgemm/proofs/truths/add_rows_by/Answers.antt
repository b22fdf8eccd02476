use Rattle.std.proofs.Common.{arith, subst, sym, take}
use Rattle.std.proofs.lemmas.List.{take_all}
use Rattle.store.specs.Fibers.{entries_along}
use Rattle.store.proofs.Places.{length_row}
use Rattle.terms.specs.Terms.{terms_of_row}
use Rattle.spgemm.specs.Truths.{AreTruths}
use Rattle.spgemm.proofs.DenseLaws.{cols_below}
use Rattle.terms.proofs.Terms.{row_more}
use Rattle.spgemm.proofs.TruthLaws.{no_truths}
use Rattle.spgemm.proofs.truths.add_rows_by.Goals as goal

pub add_products-requires-clause-inside : goal.add_products-requires-clause-inside
add_products-requires-clause-inside c = cols_below c.args.b.now _ c.row_near-next.result.0.now c.row_near-next.result.1.now _ c.row_near-next.ensures.lengths c.row_near-next.ensures.entries (omega (arith, c.requires.inside))

pub loop-k-init : goal.loop-k-init
loop-k-init c = record { sums = no_truths c.args.semiring.add.op c.args.bits.now c.args.trues.now c.requires.none c.requires.all_false }

pub loop-k-preserved : goal.loop-k-preserved
loop-k-preserved c =
    let s = c.loop-k in
    let mul = c.args.semiring.multiply in
    let b = c.args.b.now in
    let row = entries_along c.args.row.index c.args.row.cols.now c.args.row.words.now in
    let line = c.row_near-next in
    let more = row_more mul b c.args.row.index c.args.row.cols.now c.args.row.words.now s.k line.result.0.now line.result.1.now c.requires.lengths c.loop-k-test.true line.ensures.entries in
    let put = c.add_products in
    record { sums = subst (λ ts. AreTruths c.args.semiring.add.op ts put.new.bits put.new.trues) (sym more) (put.ensures (terms_of_row mul (take s.k row) b) s.invariant.sums) }

pub returns : goal.returns
returns c =
    let row = entries_along c.args.row.index c.args.row.cols.now c.args.row.words.now in
    let long = length_row c.args.row.index c.args.row.cols.now c.args.row.words.now c.requires.lengths in
    let all = take_all c.loop-k.k row (omega (arith, c.loop-k-test.false)) in
    subst (λ row. AreTruths c.args.semiring.add.op (terms_of_row c.args.semiring.multiply row c.args.b.now) c.loop-k.bits c.loop-k.trues) all c.loop-k.invariant.sums
