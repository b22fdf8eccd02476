use Rattle.std.proofs.Common.{◌∙◌, arith, inl, inr, length}
use Rattle.store.specs.Fibers.{entries_along}
use Rattle.terms.specs.Terms.{terms_of_row}
use Rattle.spgemm.proofs.DenseLaws.{below_width, dense_open}
use Rattle.spgemm.proofs.dense.sum_at_once.Goals as goal

pub gather-requires-clause-end : goal.gather-requires-clause-end
gather-requires-clause-end c =
    let room = c.requires.room in
    let inside = c.requires.inside in
    let same = c.add_rows-reach.auto.bits in
    let end = c.add_rows-reach.ensures.bound (omega arith) in
    omega arith

pub gather-requires-clause-before : goal.gather-requires-clause-before
gather-requires-clause-before c = λ at less. c.add_rows-reach.ensures.others at (inl less) ∙ c.requires.none at

pub gather-requires-clause-behind : goal.gather-requires-clause-behind
gather-requires-clause-behind c = λ at le. c.add_rows-reach.ensures.others at (inr le) ∙ c.requires.none at

pub returns-clause-row : goal.returns-clause-row
returns-clause-row c =
    let b = c.args.b.now in
    let row = entries_along c.args.row.index c.args.row.cols.now c.args.row.words.now in
    let terms = terms_of_row c.args.semiring.multiply row b in
    let put = c.in_ok-gather.ensures in
    let sums = c.add_rows-reach.new.sums in
    dense_open c.args.semiring.add.op c.args.row.index terms c.add_rows-reach.new.bits sums c.args.lists.now c.gather.new.lists
    (below_width c.args.semiring.multiply row b (length sums) (omega (arith, c.requires.inside, c.add_rows-reach.auto.sums))) c.add_rows-reach.ensures.sums put.ends put.inner put.words
