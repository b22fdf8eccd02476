use Rattle.std.proofs.Common.{◌≡◌, take}
use Rattle.lanes.specs.Lists.{fold_of}
use Rattle.elementwise.proofs.reduce.sum_row.Given as goal

abbrev pub invariant-loop-word : goal.invariant-loop-word
invariant-loop-word l = l.sum ≡ fold_of l.monoid.kind l.monoid.op.domain (take l.word-index l.words)
