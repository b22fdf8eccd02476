use Rattle.std.proofs.Common.{◌≡◌, ◌*◌, ◌<◌, get_or, ℕ}
use Rattle.lanes.specs.Bits.{has_bit, united_at}
use Rattle.lanes.proofs.present.unite_present_by.Given as goal

abbrev pub invariant-loop-at : goal.invariant-loop-at
invariant-loop-at l = (i : ℕ) → i < 64 * l.at → get_or l.out i 0 ≡ united_at l.op.kind l.op.domain (has_bit l.left i) (has_bit l.right i) (get_or l.a i 0) (get_or l.b i 0)
