-- The object stands under its number, and all others as they stood.
use Rattle.std.proofs.Common.{◌≡◌, ◌∙◌, ◌+◌, Bool, false, is_some, ap, nat_cmp}
use Rattle.std.specs.Prelude.{if◌then◌else◌}
use Rattle.std.specs.BTreeMap.{get}
use Rattle.model.specs.Marks.{with_mark}
use Rattle.model.specs.Run.{with_object}
use Rattle.objects.specs.Tables.{same_object, state_in}
use Rattle.objects.specs.declared.table.Table.{Table}
use Rattle.objects.proofs.TableLaws.{none_there, state_inserted}
use Rattle.objects.proofs.table.insert.Goals as goal

pub returns-clause-made : goal.returns-clause-made
returns-clause-made g c =
    let new : Table g.row.R.Denot g.row.R-Ticket.Denot g.R.Runner = record { by_number = c.insert.new.self } in
    let state = state_in c.args.table.now in
    let none : is_some c.in_ok-insert.field-0 ≡ false = ap is_some c.in_ok-insert.ensures.old ∙ none_there (get nat_cmp c.args.table.now.by_number c.args.object.0) c.requires.new in
    state_inserted c.args.table.now new c.args.object c.new-kept.result (state.environment.count + 1) (c.in_ok-insert.ensures.updates.0) (c.in_ok-insert.ensures.len ∙ ap (λ (b : Bool). state.environment.count + (if b then 0 else 1)) none)
    ∙ (λ t. with_mark same_object state (with_object same_object state.environment c.args.object (c.new-kept.ensures.object t) (state.environment.count + 1)) c.args.object (c.new-kept.ensures.mark t))
