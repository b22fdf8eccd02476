use Rattle.std.proofs.Common.{◌≡◌, ◌<◌, ◌≤◌, get_or, ℕ}
use Rattle.algebra.specs.Operators.{eval_of}
use Rattle.lanes.proofs.present.unite_both.Given as goal

abbrev pub invariant-loop-k : goal.invariant-loop-k
invariant-loop-k l = record {
  before : (i : ℕ) → i < l.base → get_or l.out i 0 ≡ get_or l.fn.out i 0;
  here : (i : ℕ) → l.base ≤ i → i < l.k → get_or l.out i 0 ≡ eval_of l.op.kind l.op.domain (get_or l.a i 0) (get_or l.b i 0);
}
