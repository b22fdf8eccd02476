use Rattle.deferral.proofs.NoneLaws.{none_ran}
use Rattle.deferral.proofs.pooled.run_over_pool.Goals as goal

pub returns-in_err-handle-clause-err : goal.returns-in_err-handle-clause-err
returns-in_err-handle-clause-err g c =
    none_ran c.from_residual.result (g.S.Sources.held c.args.sources.now) c.args.script.now c.args.out.now.items

pub returns-in_err-pool-clause-err : goal.returns-in_err-pool-clause-err
returns-in_err-pool-clause-err g c =
    none_ran c.from_residual-in_err-pool.result (g.S.Sources.held c.args.sources.now) c.args.script.now c.args.out.now.items
