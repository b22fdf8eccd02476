use Rattle.std.proofs.Common.{◌≡◌, ◌-◌, drop, take}
use Rattle.std.specs.List.{fold}
use Rattle.algebra.specs.Operators.{eval_of}
use Rattle.lanes.proofs.present.fold_all.Given as goal

abbrev pub invariant-loop-k : goal.invariant-loop-k
invariant-loop-k l = l.sum ≡ fold (eval_of l.monoid.op.kind l.monoid.op.domain) l.before (take (l.k - l.base) (drop l.base l.words))
