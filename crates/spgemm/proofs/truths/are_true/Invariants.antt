use Rattle.std.proofs.Common.{◌<◌, ◌≢◌, ℕ, get_or}
use Rattle.terms.specs.Terms.{apply}
use Rattle.spgemm.proofs.truths.are_true.Given as goal

abbrev pub invariant-loop-k : goal.invariant-loop-k
invariant-loop-k l = record {
  trues : (n : ℕ) → n < l.k → apply l.multiply l.word (get_or l.others n 0) ≢ 0;
}
