use Rattle.std.proofs.Common.{◌≡◌, ◌<◌, ◌≤◌, get_or, ℕ}
use Rattle.lanes.specs.Bits.{has_bit, united_at}
use Rattle.lanes.proofs.present.unite_rest.Given as goal

abbrev pub invariant-loop-k : goal.invariant-loop-k
invariant-loop-k l = record {
  before : (i : ℕ) → i < l.base → get_or l.out i 0 ≡ get_or l.fn.out i 0;
  here : (i : ℕ) → l.base ≤ i → i < l.k → get_or l.out i 0 ≡ united_at l.op.kind l.op.domain (has_bit l.left i) (has_bit l.right i) (get_or l.a i 0) (get_or l.b i 0);
}
