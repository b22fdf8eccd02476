use Rattle.std.proofs.Common.{◌≡◌, take}
use Rattle.lanes.specs.Bits.{present_words}
use Rattle.lanes.specs.Lists.{fold_of}
use Rattle.lanes.proofs.present.fold_rest.Given as goal

abbrev pub invariant-loop-k : goal.invariant-loop-k
invariant-loop-k l = l.sum ≡ fold_of l.monoid.kind l.monoid.op.domain (present_words l.bits (take l.k l.words))
