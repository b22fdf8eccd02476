use Rattle.std.proofs.Common.{◌++◌, List, take}
use Rattle.lanes.specs.Bits.{has_bit}
use Rattle.store.specs.Fibers.{entries_along}
use Rattle.spgemm.specs.Dense.{AreColumnSums}
use Rattle.terms.specs.Terms.{kept_terms, times_row}
use Rattle.terms.specs.declared.term.Term.{Term}
use Rattle.spgemm.proofs.few_kept.add_products.Given as goal

abbrev pub invariant-loop-k : goal.invariant-loop-k
invariant-loop-k l = record {
  sums : (terms : List Term) → AreColumnSums l.semiring.add.op terms l.initial.bits l.initial.sums
      → AreColumnSums l.semiring.add.op (terms ++ kept_terms (has_bit l.kept) (times_row l.semiring.multiply l.word (take l.k (entries_along 0 l.cols l.words)))) l.bits l.sums;
}
