use Rattle.std.proofs.Common.{◌≡◌, length, map, take}
use Rattle.store.specs.Fibers.{end_back}
use Rattle.masks.proofs.alike.are_same.Given as goal

abbrev pub invariant-loop-k : goal.invariant-loop-k
invariant-loop-k l = record {
  long : length l.a ≡ length l.b;
  same : map (end_back l.a_from) (take l.k l.a) ≡ map (end_back l.b_from) (take l.k l.b);
}
