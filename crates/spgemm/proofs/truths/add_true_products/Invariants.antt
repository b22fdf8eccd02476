use Rattle.std.proofs.Common.{◌++◌, List, take}
use Rattle.store.specs.Fibers.{entries_along}
use Rattle.terms.specs.Terms.{times_row}
use Rattle.spgemm.specs.Truths.{AreTruths}
use Rattle.terms.specs.declared.term.Term.{Term}
use Rattle.spgemm.proofs.truths.add_true_products.Given as goal

abbrev pub invariant-loop-k : goal.invariant-loop-k
invariant-loop-k l = record {
  sums : (terms : List Term) → AreTruths l.fn.semiring.add.op terms l.initial.bits l.initial.bits
      → AreTruths l.fn.semiring.add.op (terms ++ times_row l.fn.semiring.multiply l.word (take l.k (entries_along 0 l.cols l.words))) l.bits l.bits;
}
