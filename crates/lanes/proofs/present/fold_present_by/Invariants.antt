use Rattle.std.proofs.Common.{◌≡◌, ◌*◌, take}
use Rattle.lanes.specs.Bits.{present_words}
use Rattle.lanes.specs.Lists.{fold_of}
use Rattle.lanes.proofs.present.fold_present_by.Given as goal

abbrev pub invariant-loop-at : goal.invariant-loop-at
invariant-loop-at l = l.sum ≡ fold_of l.monoid.kind l.monoid.op.domain (present_words l.bits (take (l.at * 64) l.words))
