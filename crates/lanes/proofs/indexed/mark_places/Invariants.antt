use Rattle.std.proofs.Common.{◌≡◌, ◌*◌, ◌+◌, ◌/◌, ◌%◌, ◌<◌, ℕ, get_or, length}
use Rattle.algebra.specs.IndexOperators.{passes}
use Rattle.lanes.specs.Bits.{has_bit}
use Rattle.lanes.proofs.indexed.mark_places.Given as goal

abbrev pub invariant-loop-at : goal.invariant-loop-at
invariant-loop-at l = record {
  long : length l.bits ≡ length l.fn.bits;
  made : (k : ℕ) → k < 64 * l.at → has_bit l.bits k
      ≡ passes l.op.kind l.op.domain (get_or l.words k 0) ((l.base + k) / l.cols) ((l.base + k) % l.cols) l.s;
}
