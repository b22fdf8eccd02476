use Rattle.std.proofs.Common.{◌≡◌, ◌<◌, ◌≤◌, ℕ, false, get_or, length, true}
use Rattle.spgemm.proofs.WalkLaws.{AreWalked}
use Rattle.spgemm.proofs.along.add_along_by.Given as goal

abbrev pub invariant-loop-line : goal.invariant-loop-line
invariant-loop-line l = record {
  walked : AreWalked l.semiring l.b l.row.index l.row.cols.now l.row.words.now l.marks l.sums l.rest.entries;
  bound : l.known ≤ l.b.cols;
  marked : (at : ℕ) → at < l.known → get_or l.marks at false ≡ true;
}

abbrev pub decreases-loop-line : goal.decreases-loop-line
decreases-loop-line l = length l.rest.entries
