use Rattle.store.specs.Stored.{content_of}
use Rattle.patch.specs.declared.edits.Edit.TheVariants.{Set}
use Rattle.patch.proofs.EditLaws.{edited-again, on_err}
use Rattle.patch.proofs.edits.apply.Goals as goal

pub apply_one-requires : goal.apply_one-requires
apply_one-requires c =
    let here = c.loop-edit.invariant in
    rw (here.rows, here.cols) (c.requires c.loop-edit.edit-index (Set 0 0 0) c.loop-edit-test.true)

pub returns-in_err-apply_one-clause-meaning : goal.returns-in_err-apply_one-clause-meaning
returns-in_err-apply_one-clause-meaning c i j =
    let old = content_of c.args.store.now in
    let k = c.loop-edit.edit-index in
    rw c.in_err-apply_one.ensures.refused (edited-again c.args.edits.now k (content_of c.loop-edit.store) old c.loop-edit.invariant.done i j)

pub returns-clause-meaning : goal.returns-clause-meaning
returns-clause-meaning c i j = edited-again c.args.edits.now c.loop-edit.edit-index (content_of c.loop-edit.store) (content_of c.args.store.now) c.loop-edit.invariant.done i j

pub returns-in_err-apply_one-clause-partly : goal.returns-in_err-apply_one-clause-partly
returns-in_err-apply_one-clause-partly c =
    on_err _ c.from_residual.result (c.loop-edit.edit-index, rw c.in_err-apply_one.ensures.refused c.loop-edit.invariant.done)
