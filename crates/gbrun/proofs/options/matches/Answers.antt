use Rattle.std.specs.Prelude.{codes}
use Rattle.std.proofs.lemmas.Result.{IfOk-weaker}
use Rattle.gbrun.proofs.CommandLines.{fails_by_command_line, first_value-command_line, one_text-command_line}
use Rattle.gbrun.proofs.options.matches.Goals as goal

pub returns-clause-fails : goal.returns-clause-fails
returns-clause-fails c = fails_by_command_line c.in_ok-command.field-0 _ c.try_get_matches_from.result c.in_ok-command.ensures c.try_get_matches_from.ensures.kinds

pub returns-clause-order : goal.returns-clause-order
returns-clause-order c =
    IfOk-weaker c.try_get_matches_from.result _ _ (λ m has. first_value-command_line c.in_ok-command.field-0 _ m (codes "order") c.in_ok-command.ensures has)
    c.try_get_matches_from.ensures.matches

pub returns-clause-script : goal.returns-clause-script
returns-clause-script c =
    IfOk-weaker c.try_get_matches_from.result _ _ (λ m has. first_value-command_line c.in_ok-command.field-0 _ m (codes "script") c.in_ok-command.ensures has)
    c.try_get_matches_from.ensures.matches

pub returns-clause-workers : goal.returns-clause-workers
returns-clause-workers c =
    IfOk-weaker c.try_get_matches_from.result _ _ (λ m has. one_text-command_line c.in_ok-command.field-0 _ m (codes "workers") c.in_ok-command.ensures has)
    c.try_get_matches_from.ensures.matches

pub returns-clause-rows : goal.returns-clause-rows
returns-clause-rows c =
    IfOk-weaker c.try_get_matches_from.result _ _ (λ m has. one_text-command_line c.in_ok-command.field-0 _ m (codes "rows") c.in_ok-command.ensures has)
    c.try_get_matches_from.ensures.matches
