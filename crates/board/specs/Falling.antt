-- What is true of a board while slots fail, from the lowest on.
use Rattle.std.specs.Prelude.{ℕ, List, map}
use Rattle.stages.specs.Flows.{FlowsBelow}
use Rattle.board.specs.Sound.{IsCounted, IsKept}
use Rattle.stages.specs.Stages.{progress_of}
use Rattle.stages.specs.Tasks.{Task}
use Rattle.stages.specs.declared.stage.Stage.{Stage}

-- slots below n rest on none that failed
pub record IsFalling (n : ℕ) (ts : List Task) (stages : List Stage) (holds reads : List ℕ) : Type 0 where
  pub flows : FlowsBelow n ts (map progress_of stages)
  pub counted : IsCounted ts (map progress_of stages) holds reads
  pub kept : IsKept ts stages holds reads
