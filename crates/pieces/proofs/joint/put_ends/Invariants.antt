use Rattle.std.proofs.Common.{◌≡◌, ◌++◌, map, take}
use Rattle.store.specs.Fibers.{end_on}
use Rattle.pieces.proofs.joint.put_ends.Given as goal

-- the fibers so far stand behind the others
abbrev pub invariant-loop-fiber : goal.invariant-loop-fiber
invariant-loop-fiber l = l.ends.items ≡ l.initial.ends.items ++ map (end_on l.from) (take l.fiber-index l.part)
