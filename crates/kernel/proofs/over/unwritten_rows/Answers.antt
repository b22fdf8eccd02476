-- What is computed of the stores, the old one among them.
use Rattle.std.proofs.Common.{◌≡◌, ◌∙◌, Some}
use Rattle.std.proofs.lemmas.Result.{IfOk-weaker}
use Rattle.calls.specs.declared.role.Role.{Role}
use Rattle.calls.specs.Recipes.{known_by_role, operation_with, out_with}
use Rattle.kernel.specs.Overs.{beside}
use Rattle.kernel.specs.Takes.{map_in, maps_in}
use Rattle.kernel.proofs.OverLaws.{maps-beside, takes-beside, unwritten-task}
use Rattle.model.specs.Object.{Content, rows_of}
use Rattle.kernel.proofs.over.unwritten_rows.Goals as goal

pub taken-task-requires-clause-inputs : goal.taken-task-requires-clause-inputs
taken-task-requires-clause-inputs c =
    let accepted = c.args.accepted.now in
    takes-beside (known_by_role accepted.out accepted.operation) c.args.old c.args.stores.now c.requires.inputs

pub returns : goal.returns
returns c =
    let accepted = c.args.accepted.now in
    let maps : Role → Content = λ role. map_in (beside c.args.old.now c.args.stores.now role) in
    let same : maps_in (record c.args.stores.now { old = Some c.args.old }) ≡ maps = λ x role. maps-beside c.args.old c.args.stores.now role x in
    IfOk-weaker c.computed_rows.result _ _
    (λ block agrees. unwritten-task c.taken-task.result c.mask_of-mask.result (out_with accepted.out maps) (operation_with accepted.operation maps) (rows_of accepted.out.c.shape) block
    (c.taken-task.ensures.out ∙ (λ x. out_with accepted.out (same x)))
    (c.taken-task.ensures.operation ∙ (λ x. operation_with accepted.operation (same x)))
    c.mask_of-mask.ensures.set agrees)
    (rw c.rows-2.ensures at c.computed_rows.ensures.rows)
