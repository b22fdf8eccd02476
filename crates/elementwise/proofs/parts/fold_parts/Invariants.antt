use Rattle.std.proofs.Common.{◌≡◌, ◌<◌, ◌^◌, take}
use Rattle.std.specs.List.{All}
use Rattle.elementwise.specs.Sums.{words_of}
use Rattle.lanes.specs.Lists.{fold_of}
use Rattle.elementwise.proofs.parts.fold_parts.Given as goal

abbrev pub invariant-loop-k : goal.invariant-loop-k
invariant-loop-k l = record {
  sum : l.sum ≡ fold_of l.monoid.kind l.monoid.op.domain (words_of (take l.k l.parts));
  words : All (λ word. word < 2 ^ 64) (words_of (take l.k l.parts));
}
