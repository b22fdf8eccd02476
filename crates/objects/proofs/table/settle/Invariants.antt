use Rattle.std.proofs.Common.{◌-◌, ◌^◌}
use Rattle.model.specs.Marks.{Settles}
use Rattle.objects.specs.Tables.{state_in}
use Rattle.objects.proofs.table.settle.Given as goal

-- the values so far came to be there, where they could
abbrev pub invariant-loop-number : goal.invariant-loop-number
invariant-loop-number g l = Settles (state_in l.initial.table) (state_in l.table)

-- each number is greater than those before
abbrev pub decreases-loop-number : goal.decreases-loop-number
decreases-loop-number g l = 2 ^ 64 - l.from
