use Rattle.std.proofs.Common.{◌≡◌, ◌-◌, ◌<◌, ◌≤◌, eqb, get_or, ℕ}
use Rattle.std.specs.Int.{bit_at}
use Rattle.lanes.specs.Bits.{united_at}
use Rattle.lanes.proofs.present.unite_some.Given as goal

abbrev pub invariant-loop-k : goal.invariant-loop-k
invariant-loop-k l = record {
  before : (i : ℕ) → i < l.base → get_or l.out i 0 ≡ get_or l.fn.out i 0;
  here : (i : ℕ) → l.base ≤ i → i < l.k → get_or l.out i 0 ≡ united_at l.op.kind l.op.domain (eqb (bit_at l.left (i - l.base)) 1) (eqb (bit_at l.right (i - l.base)) 1) (get_or l.a i 0) (get_or l.b i 0);
}
