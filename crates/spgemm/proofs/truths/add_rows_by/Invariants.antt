use Rattle.std.proofs.Common.{take}
use Rattle.store.specs.Fibers.{entries_along}
use Rattle.terms.specs.Terms.{terms_of_row}
use Rattle.spgemm.specs.Truths.{AreTruths}
use Rattle.spgemm.proofs.truths.add_rows_by.Given as goal

abbrev pub invariant-loop-k : goal.invariant-loop-k
invariant-loop-k l = record {
  sums : AreTruths l.semiring.add.op (terms_of_row l.semiring.multiply (take l.k (entries_along l.row.index l.row.cols.now l.row.words.now)) l.b) l.bits l.trues;
}
