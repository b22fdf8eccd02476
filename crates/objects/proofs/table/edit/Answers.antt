-- Only this object was written.
use Rattle.std.proofs.Common.{◌∙◌, ap}
use Rattle.std.proofs.lemmas.Result.{on_err_weaker, on_ok_weaker}
use Rattle.model.specs.Object.{Object}
use Rattle.objects.specs.Tables.{state_in, with_kept}
use Rattle.objects.specs.Waiting.{edited_object}
use Rattle.objects.specs.declared.table.Table.{Table}
use Rattle.objects.proofs.TableLaws.{object_there, on_err_both, on_ok_both, state_same, state_written}
use Rattle.objects.proofs.table.edit.Goals as goal

pub returns-clause-edited : goal.returns-clause-edited
returns-clause-edited g c =
    let new : Table g.row.R.Denot g.row.R-Ticket.Denot g.R.Runner = record { by_number = c.get_mut.follows.lender c.edit.new.object } in
    let state = state_in c.args.table.now in
    let written = state_written c.args.table.now new c.args.object c.in-Some.kept.now c.edit.new.object c.in-Some.ensures.value (c.get_mut.follows.holds c.edit.new.object) in
    let there = object_there c.args.table.now new c.args.object c.in-Some.kept.now c.edit.new.object c.in-Some.ensures.value (c.get_mut.follows.holds c.edit.new.object) in
    on_ok_weaker c.edit.result (λ both. written
    ∙ (λ t. with_kept state c.args.object ((both.0 ∙ ap (λ (o : Object). edited_object o c.args.edit) there) t) (both.1 t)))
    (on_ok_both _ _ c.edit.result c.edit.ensures.edited c.edit.ensures.open)

pub returns-clause-refused : goal.returns-clause-refused
returns-clause-refused g c =
    let new : Table g.row.R.Denot g.row.R-Ticket.Denot g.R.Runner = record { by_number = c.get_mut.follows.lender c.edit.new.object } in
    on_err_weaker c.edit.result (λ both. state_same c.args.table.now new c.args.object c.in-Some.kept.now c.edit.new.object c.in-Some.ensures.value (c.get_mut.follows.holds c.edit.new.object) both.0 both.1)
    (on_err_both _ _ c.edit.result c.edit.ensures.same c.edit.ensures.mark)
