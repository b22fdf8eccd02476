use Rattle.std.proofs.Common.{take}
use Rattle.lanes.specs.Bits.{has_bit}
use Rattle.store.specs.Fibers.{entries_along}
use Rattle.spgemm.specs.Dense.{AreColumnSums}
use Rattle.terms.specs.Terms.{kept_terms, terms_of_row}
use Rattle.spgemm.proofs.few_kept.add_rows_by.Given as goal

abbrev pub invariant-loop-k : goal.invariant-loop-k
invariant-loop-k l = record {
  sums : AreColumnSums l.semiring.add.op
      (kept_terms (has_bit l.kept) (terms_of_row l.semiring.multiply (take l.k (entries_along l.row.index l.row.cols.now l.row.words.now)) l.b)) l.bits l.sums;
}
