use Rattle.std.proofs.Common.{◌<◌, ◌∙◌, ap, arith, get_or, length, sym}
use Rattle.std.proofs.lemmas.List.{take_all}
use Rattle.model.specs.Entries.{entry_at}
use Rattle.store.specs.Fibers.{entries_along}
use Rattle.store.specs.Forms.{of_bitmap}
use Rattle.store.proofs.Places.{length_row, row_at}
use Rattle.terms.specs.Terms.{sum_at, terms_of_row}
use Rattle.spgemm.proofs.Dots.{dot_none, dot_some}
use Rattle.spgemm.proofs.bitmap_column.sum_row.Goals as goal
use Rattle.spgemm.proofs.bitmap_column.sum_row.Goals.{in-Some, in_default}

pub loop-k-preserved : goal.loop-k-preserved
loop-k-preserved c =
    let u = of_bitmap c.args.u.now in
    let index = c.args.row.index in
    let cols = c.args.row.cols.now in
    let words = c.args.row.words.now in
    let row = entries_along index cols words in
    let s = c.loop-k in
    let add = c.args.semiring.add.op in
    let mul = c.args.semiring.multiply in
    let e = entry_at index (get_or cols s.k 0) (get_or words s.k 0) in
    let long = length_row index cols words c.requires.lengths in
    let within : s.k < length row = omega (arith, c.loop-k-test.true) in
    let this = row_at index cols words s.k e c.requires.lengths c.loop-k-test.true in
    elim c.match-get.branch [
      | in-Some w ↦ rw (w.sum-is, w.sum_with-sum.ensures, w.eval.ensures) (dot_some add mul u row s.k w.in-Some.word e s.sum c.requires.column this within (sym w.in-Some.ensures) s.invariant)
      | in_default w ↦ rw w.sum-is (dot_none add mul u row s.k e s.sum c.requires.column this within (sym w.in_default.ensures) s.invariant)
    ]

pub returns : goal.returns
returns c =
    let row = entries_along c.args.row.index c.args.row.cols.now c.args.row.words.now in
    let long = length_row c.args.row.index c.args.row.cols.now c.args.row.words.now c.requires.lengths in
    c.loop-k.invariant ∙ ap (λ row. sum_at c.args.semiring.add.op 0 (terms_of_row c.args.semiring.multiply row (of_bitmap c.args.u.now))) (take_all c.loop-k.k row (omega (arith, c.loop-k-test.false)))
