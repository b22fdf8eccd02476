use Rattle.std.proofs.Common.{◌≡◌, ◌++◌}
use Rattle.pieces.specs.Joints.{words_in}
use Rattle.pieces.proofs.joint.joined.Given as goal

-- what is to come stands behind what is there
abbrev pub invariant-loop-part : goal.invariant-loop-part
invariant-loop-part l = l.list.items ++ words_in l.part-iterator.rest.items ≡ words_in l.fn.parts.items
