-- What is computed are words of the domain that the table gives.
use Rattle.std.proofs.Common.{◌≡◌, ◌∙◌, ap, sym}
use Rattle.kernel.proofs.Accepted.{task-accepts, task-known, task-offered, task-words}
use Rattle.kernel.proofs.MaskLaws.{agrees-cast, under-cast}
use Rattle.kernel.specs.Tasks.{operation_of}
use Rattle.model.specs.declared.call.Operation.{Operation}
use Rattle.model.specs.declared.shape.Signature.{Signature}
use Rattle.model.specs.Object.{signature_of}
use Rattle.model.specs.Operations.{operation}
use Rattle.model.specs.Renamed.{renamed_operation}
use Rattle.model.specs.Table.{plan_of}
use Rattle.kernel.proofs.computing.cast_rows.Goals as goal

pub operation_rows-requires-clause-accepts : goal.operation_rows-requires-clause-accepts
operation_rows-requires-clause-accepts c = task-accepts c.args.task.now

pub operation_rows-requires-clause-offered : goal.operation_rows-requires-clause-offered
operation_rows-requires-clause-offered c = task-offered c.args.task.now

pub returns-clause-rows : goal.returns-clause-rows
returns-clause-rows c =
    let task = c.args.task.now in
    let sig = task.out.c.signature in
    let domain : c.answer_of-from.result ≡ (plan_of sig (renamed_operation signature_of (operation_of task))).domain =
    c.answer_of-from.ensures ∙ ap (λ (p : Operation Signature). (plan_of sig p).domain) (sym (task-known task)) in
    let cast = rw domain at c.block_in_domain.ensures in
    agrees-cast c.args.mask c.args.range.start c.args.range.end _ _ sig.domain (operation sig (operation_of task)) c.in_ok-block.block c.block_in_domain.result
    (task-words task) c.in_ok-block.ensures.rows cast.first cast.past cast.cols cast.content

pub returns-clause-under : goal.returns-clause-under
returns-clause-under c product =
    under-cast c.args.mask c.args.range.start c.args.range.end c.answer_of-from.result c.args.task.now.out.c.signature.domain c.in_ok-block.block c.block_in_domain.result
    (c.in_ok-block.ensures.under product) c.block_in_domain.ensures.content
