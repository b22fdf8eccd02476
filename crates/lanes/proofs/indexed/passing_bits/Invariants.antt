use Rattle.std.proofs.Common.{◌≡◌, ◌*◌, ◌+◌, ◌/◌, ◌%◌, ◌<◌, ◌≤◌, ℕ, eqb, get_or}
use Rattle.std.specs.Int.{bit_at}
use Rattle.algebra.specs.IndexOperators.{passes}
use Rattle.lanes.proofs.indexed.passing_bits.Given as goal

abbrev pub invariant-loop-k : goal.invariant-loop-k
invariant-loop-k l = record {
  place : l.row * l.cols + l.col ≡ l.base + l.k;
  col : l.col < l.cols;
  row : l.row ≤ l.base + l.k;
  done : (at : ℕ) → at < l.k → eqb (bit_at l.bits at) 1
      ≡ passes l.op.kind l.op.domain (get_or l.words at 0) ((l.base + at) / l.cols) ((l.base + at) % l.cols) l.s;
  left : (at : ℕ) → l.k ≤ at → bit_at l.bits at ≡ 0;
}
