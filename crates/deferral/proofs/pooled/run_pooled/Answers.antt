use Rattle.deferral.proofs.NoneLaws.{none_ran}
use Rattle.deferral.proofs.pooled.run_pooled.Goals as goal

pub returns-in_err-log-clause-err : goal.returns-in_err-log-clause-err
returns-in_err-log-clause-err g c =
    none_ran c.from_residual.result (g.S.Sources.held c.args.sources.now) c.args.script.now c.args.out.now.items
