use Rattle.std.proofs.Common.{◌≡◌, ◌++◌, ℕ, List, false, get_or, take, true}
use Rattle.store.specs.Fibers.{entries_along}
use Rattle.spgemm.specs.Dense.{AreMarkedSums}
use Rattle.terms.specs.Terms.{times_row}
use Rattle.terms.specs.declared.term.Term.{Term}
use Rattle.spgemm.proofs.many.add_products.Given as goal

abbrev pub invariant-loop-k : goal.invariant-loop-k
invariant-loop-k l = record {
  sums : (terms : List Term) → AreMarkedSums l.semiring.add terms l.initial.marks l.initial.sums
      → AreMarkedSums l.semiring.add (terms ++ times_row l.semiring.multiply l.word (take l.k (entries_along 0 l.cols l.words))) l.marks l.sums;
  stay : (at : ℕ) → get_or l.initial.marks at false ≡ true → get_or l.marks at false ≡ true;
}
