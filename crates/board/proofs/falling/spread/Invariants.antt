use Rattle.std.proofs.Common.{◌≡◌, List, map}
use Rattle.board.specs.Falling.{IsFalling}
use Rattle.board.specs.Falls.{KeepsReady, fallen_below}
use Rattle.stages.specs.Progress.{Progress}
use Rattle.stages.specs.Slots.{task_of}
use Rattle.stages.specs.Stages.{progress_of}
use Rattle.board.proofs.falling.spread.Given as goal

abbrev pub invariant-loop-number : goal.invariant-loop-number
invariant-loop-number g l = IsFalling l.number (map task_of l.slots) l.stages.items l.holds l.reads.items
    × ((ps : List Progress) → map progress_of l.fn.stages.items ≡ fallen_below (map task_of l.slots) l.fn.first ps → map progress_of l.stages.items ≡ fallen_below (map task_of l.slots) l.number ps)
    × KeepsReady (map task_of l.slots) (map progress_of l.fn.stages.items) (map progress_of l.stages.items)
