-- What was made hasn't failed.
use Rattle.std.proofs.Common.{◌∙◌, map, sym}
use Rattle.stages.specs.Stages.{progress_of}
use Rattle.board.proofs.FitLaws.{each_kept}
use Rattle.board.proofs.admitting.may_wait.Goals as goal

pub returns-then-made : goal.returns-then-made
returns-then-made c = c.if-made.true ∙ sym (each_kept (map progress_of c.args.stages.now) c.args.inputs.now (c.requires c.if-made.true))
