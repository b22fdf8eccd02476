use Rattle.std.proofs.Common.{arith, subst, sym, take}
use Rattle.std.proofs.lemmas.List.{take_all}
use Rattle.store.specs.Fibers.{entries_along}
use Rattle.store.proofs.Places.{length_row}
use Rattle.spgemm.specs.Dense.{AreMarkedSums}
use Rattle.terms.specs.Terms.{terms_of_row}
use Rattle.spgemm.proofs.DenseLaws.{cols_below}
use Rattle.terms.proofs.Terms.{row_more}
use Rattle.spgemm.proofs.many.add_rows_by.Goals as goal

pub add_row_of_b-known-requires-clause-inside : goal.add_row_of_b-known-requires-clause-inside
add_row_of_b-known-requires-clause-inside c = cols_below c.args.b.now _ c.row_near-next.result.0.now c.row_near-next.result.1.now _ c.row_near-next.ensures.lengths c.row_near-next.ensures.entries (omega (arith, c.requires.inside))

pub loop-k-init : goal.loop-k-init
loop-k-init c = record { sums = c.requires.before; bound = omega arith; marked = λ at less. absurd (omega (arith, less)) }

pub loop-k-preserved : goal.loop-k-preserved
loop-k-preserved c =
    let s = c.loop-k in
    let mul = c.args.semiring.multiply in
    let b = c.args.b.now in
    let row = entries_along c.args.row.index c.args.row.cols.now c.args.row.words.now in
    let more = row_more mul b c.args.row.index c.args.row.cols.now c.args.row.words.now s.k c.row_near-next.result.0.now c.row_near-next.result.1.now c.requires.lengths c.loop-k-test.true c.row_near-next.ensures.entries in
    let put = c.add_row_of_b-known in
    record {
      sums = subst (λ ts. AreMarkedSums c.args.semiring.add ts put.new.marks put.new.sums) (sym more) (put.ensures.sums (terms_of_row mul (take s.k row) b) s.invariant.sums);
      bound = omega (arith, put.ensures.bound, c.cols-width.ensures);
      marked = put.ensures.known;
    }

pub returns : goal.returns
returns c =
    let row = entries_along c.args.row.index c.args.row.cols.now c.args.row.words.now in
    let long = length_row c.args.row.index c.args.row.cols.now c.args.row.words.now c.requires.lengths in
    let all = take_all c.loop-k.k row (omega (arith, c.loop-k-test.false)) in
    subst (λ row. AreMarkedSums c.args.semiring.add (terms_of_row c.args.semiring.multiply row c.args.b.now) c.loop-k.marks c.loop-k.sums) all c.loop-k.invariant.sums
