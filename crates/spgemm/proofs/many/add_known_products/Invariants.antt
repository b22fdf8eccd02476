use Rattle.std.proofs.Common.{◌≡◌, ◌++◌, Bool, List, false, get_or, length, take, true}
use Rattle.std.specs.List.{All}
use Rattle.store.specs.Fibers.{entries_along}
use Rattle.spgemm.specs.Dense.{AreMarkedSums}
use Rattle.terms.specs.Terms.{times_row}
use Rattle.terms.specs.declared.term.Term.{Term}
use Rattle.spgemm.proofs.many.add_known_products.Given as goal

abbrev pub invariant-loop-k : goal.invariant-loop-k
invariant-loop-k l = record {
  sums : (marks : List Bool) → length marks ≡ length l.initial.sums → All (λ col. get_or marks col false ≡ true) l.cols
      → (terms : List Term) → AreMarkedSums l.semiring.add terms marks l.initial.sums
      → AreMarkedSums l.semiring.add (terms ++ times_row l.semiring.multiply l.word (take l.k (entries_along 0 l.cols l.words))) marks l.sums;
}
