use Rattle.std.proofs.Common.{◌≡◌, ◌++◌, ℕ, List, take}
use Rattle.lanes.specs.Lists.{fold_of}
use Rattle.elementwise.proofs.parts.fold_on.Given as goal

abbrev pub invariant-loop-k : goal.invariant-loop-k
invariant-loop-k l = (others : List ℕ) → l.initial.sum ≡ fold_of l.monoid.kind l.monoid.op.domain others
    → l.all ≡ fold_of l.monoid.kind l.monoid.op.domain (others ++ take l.k l.words)
