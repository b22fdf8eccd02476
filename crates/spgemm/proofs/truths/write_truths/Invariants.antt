use Rattle.spgemm.proofs.TruthLaws.{AreWritten}
use Rattle.spgemm.proofs.truths.write_truths.Given as goal

abbrev pub invariant-loop-at : goal.invariant-loop-at
invariant-loop-at l = record { written : AreWritten l.trues l.sums l.at }
