use Rattle.std.proofs.Common.{take}
use Rattle.std.specs.List.{All}
use Rattle.patch.specs.Edits.{IsSet}
use Rattle.patch.proofs.merging.are_sets.Given as goal

-- those so far set entries
abbrev pub invariant-loop-edit : goal.invariant-loop-edit
invariant-loop-edit l = All IsSet (take l.edit-index l.edits)
