use Rattle.std.proofs.Common.{◌≡◌, ◌<◌, ◌≤◌, ℕ, eqb, false, get_or}
use Rattle.std.specs.Int.{bit_at}
use Rattle.lanes.proofs.bits.packed.Given as goal

abbrev pub invariant-loop-k : goal.invariant-loop-k
invariant-loop-k l = record {
  done : (at : ℕ) → at < l.k → eqb (bit_at l.word at) 1 ≡ get_or l.marks at false;
  left : (at : ℕ) → l.k ≤ at → bit_at l.word at ≡ 0;
}
