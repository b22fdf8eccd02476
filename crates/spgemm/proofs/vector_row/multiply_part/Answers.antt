use Rattle.std.proofs.Common.{arith, false, refl, true}
use Rattle.store.specs.Fibers.{entries_along}
use Rattle.terms.specs.Terms.{terms_of_row}
use Rattle.spgemm.proofs.Parts.{part_all, part_kept, whole_part}
use Rattle.spgemm.proofs.vector_row.multiply_part.Goals as goal

pub returns-in-Some : goal.returns-in-Some
returns-in-Some c =
    let range = c.args.range.now in
    let index = c.args.row.index in
    let terms = terms_of_row c.args.semiring.multiply (entries_along index c.args.row.cols.now c.args.row.words.now) c.args.a.now in
    rw c.in-Some.is (part_kept c.multiply_row_under.result c.in-Some.mask c.args.semiring.add.op index range.start range.end (entries_along index c.column_in.result.0.now c.column_in.result.1.now) terms c.args.lists.now c.multiply_row_under.new.lists
    c.requires.index (rw c.requires.index c.column_in.ensures.entries) c.multiply_row_under.ensures.row)

pub returns-in-None : goal.returns-in-None
returns-in-None c =
    let range = c.args.range.now in
    let row = entries_along c.args.row.index c.args.row.cols.now c.args.row.words.now in
    rw c.in-None.is (whole_part c.multiply_whole_row.result c.args.semiring.add.op c.args.semiring.multiply c.args.row.index range.start range.end row c.args.a.now c.args.lists.now c.multiply_whole_row.new.lists c.if-range-eq0.true (omega (arith, c.cols.ensures, c.if-cols-range.true)) c.multiply_whole_row.ensures.row)

pub returns-in-None-2 : goal.returns-in-None-2
returns-in-None-2 c =
    let range = c.args.range.now in
    let terms = terms_of_row c.args.semiring.multiply (entries_along c.args.row.index c.args.row.cols.now c.args.row.words.now) c.args.a.now in
    rw c.in-None.is (part_all c.multiply_row_kept.result (record { valued = false; complement = true }) c.args.semiring.add.op c.args.row.index range.start range.end terms c.args.lists.now c.multiply_row_kept.new.lists refl c.multiply_row_kept.ensures.row)
