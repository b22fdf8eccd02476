use Rattle.elementwise.specs.Kept.{is_passed}
use Rattle.elementwise.proofs.Passed.{ArePassed}
use Rattle.elementwise.proofs.passing.pass_part.Given as goal

abbrev pub invariant-loop-k : goal.invariant-loop-k
invariant-loop-k l = ArePassed (is_passed l.test l.outer) l.inner l.words l.count l.fn.to_inner l.fn.to_words l.to_inner l.to_words l.k l.kept
