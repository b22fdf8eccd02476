use Rattle.elementwise.specs.Mapped.{answer_by, as_they_lie}
use Rattle.elementwise.proofs.Answered.{AreAnswered}
use Rattle.elementwise.proofs.indexed.write_fibers.Given as goal

abbrev pub invariant-loop-at : goal.invariant-loop-at
invariant-loop-at l = AreAnswered (as_they_lie l.is_column (answer_by l.op l.s)) l.ends l.inner l.fn.words l.words l.at l.start
