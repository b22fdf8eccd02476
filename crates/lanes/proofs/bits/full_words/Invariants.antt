use Rattle.std.proofs.Common.{◌≡◌, ◌-◌, ◌*◌, ◌<◌, ◌≤◌, ℕ, length, true}
use Rattle.lanes.specs.Bits.{has_bit}
use Rattle.lanes.proofs.bits.full_words.Given as goal

abbrev pub invariant-loop-count : goal.invariant-loop-count
invariant-loop-count l = record {
  bound : l.count ≤ length l.bits;
  full : (at : ℕ) → at < 64 * l.count → has_bit l.bits at ≡ true;
}

abbrev pub decreases-loop-count : goal.decreases-loop-count
decreases-loop-count l = length l.bits - l.count
