use Rattle.std.proofs.Common.{◌≡◌, ◌*◌, ◌<◌, ℕ, false, get_or, length}
use Rattle.lanes.specs.Bits.{has_bit}
use Rattle.spgemm.proofs.many.set_marked.Given as goal

abbrev pub invariant-loop-at : goal.invariant-loop-at
invariant-loop-at l = record {
  long : length l.bits ≡ length l.initial.bits;
  done : (at : ℕ) → at < 64 * l.at → has_bit l.bits at ≡ get_or l.marks at false;
}
