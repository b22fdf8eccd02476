use Rattle.std.proofs.Common.{◌≡◌, ◌<◌, ◌++◌, append-nil, arith, get_or, length, subst, sym}
use Rattle.std.proofs.lemmas.List.{take_all}
use Rattle.model.specs.Entries.{entry_at}
use Rattle.store.specs.Fibers.{entries_along}
use Rattle.store.proofs.Places.{length_row, row_at}
use Rattle.spgemm.specs.Dense.{AreMarkedSums}
use Rattle.terms.specs.Terms.{times_row}
use Rattle.spgemm.proofs.ManyLaws.{known_product}
use Rattle.spgemm.proofs.many.add_known_products.Goals as goal

pub loop-k-init : goal.loop-k-init
loop-k-init c = record { sums = λ marks long marked terms here. subst (λ ts. AreMarkedSums c.args.semiring.add ts marks c.args.sums.now) (sym (append-nil terms)) here }

pub loop-k-preserved : goal.loop-k-preserved
loop-k-preserved c =
    let cols = c.args.cols.now in
    let words = c.args.words.now in
    let row = entries_along 0 cols words in
    let s = c.loop-k in
    let e = entry_at 0 (get_or cols s.k 0) (get_or words s.k 0) in
    let long_row = length_row 0 cols words c.requires.lengths in
    let within : s.k < length row = omega (arith, c.loop-k-test.true) in
    let this = row_at 0 cols words s.k e c.requires.lengths c.loop-k-test.true in
    let inside : e.col < length s.sums = omega (arith, c.requires.inside s.k 0 c.loop-k-test.true, s.auto.sums) in
    rw (c.eval.ensures, c.eval-product.ensures) (record {
      sums = λ marks long marked terms here.
          let same : length marks ≡ length s.sums = omega (arith, s.auto.sums, long) in
          known_product c.args.semiring terms c.args.word row s.k e marks s.sums this within inside same (marked s.k 0 c.loop-k-test.true) (s.invariant.sums marks long marked terms here);
    })

pub returns : goal.returns
returns c = λ marks long marked terms here.
    let row = entries_along 0 c.args.cols.now c.args.words.now in
    let long_row = length_row 0 c.args.cols.now c.args.words.now c.requires.lengths in
    let all = take_all c.loop-k.k row (omega (arith, c.loop-k-test.false)) in
    subst (λ row. AreMarkedSums c.args.semiring.add (terms ++ times_row c.args.semiring.multiply c.args.word row) marks c.loop-k.sums) all (c.loop-k.invariant.sums marks long marked terms here)
