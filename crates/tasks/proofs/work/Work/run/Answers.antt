use Rattle.std.proofs.Math.Logic.{∥∥₁_elim}
use Rattle.tasks.proofs.WorkLaws.{work-prop}
use Rattle.tasks.proofs.work.Work.run.Goals as goal

pub outcome_of-outcome-requires : goal.outcome_of-outcome-requires
outcome_of-outcome-requires g c = ∥∥₁_elim c.args.self.work (work-prop c.args.self.piece) (λ work. work)
