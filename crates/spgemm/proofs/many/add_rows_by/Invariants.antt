use Rattle.std.proofs.Common.{◌≡◌, ◌<◌, ◌≤◌, ℕ, false, get_or, take, true}
use Rattle.store.specs.Fibers.{entries_along}
use Rattle.spgemm.specs.Dense.{AreMarkedSums}
use Rattle.terms.specs.Terms.{terms_of_row}
use Rattle.spgemm.proofs.many.add_rows_by.Given as goal

abbrev pub invariant-loop-k : goal.invariant-loop-k
invariant-loop-k l = record {
  sums : AreMarkedSums l.semiring.add (terms_of_row l.semiring.multiply (take l.k (entries_along l.row.index l.row.cols.now l.row.words.now)) l.b) l.marks l.sums;
  bound : l.known ≤ l.b.cols;
  marked : (at : ℕ) → at < l.known → get_or l.marks at false ≡ true;
}
