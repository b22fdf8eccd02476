use Rattle.std.proofs.Common.{◌≡◌, ◌+◌, ◌∷◌, length}
use Rattle.elementwise.proofs.RowSums.{AreSummed}
use Rattle.elementwise.proofs.reduce.write_sums.Given as goal

abbrev pub invariant-loop-at : goal.invariant-loop-at
invariant-loop-at l = record {
  rows_long : length l.rows ≡ length l.fibers.others.now + 1;
  sums_long : length l.sums ≡ length l.fibers.others.now + 1;
  summed : AreSummed l.monoid.kind l.monoid.op.domain l.fibers.from (l.fibers.head ∷ l.fibers.others.now) l.fibers.words.now l.rows l.sums l.at l.start;
}
