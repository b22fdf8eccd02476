-- Only this object was written, and it is the object that it was.
use Rattle.objects.specs.declared.table.Table.{Table}
use Rattle.objects.proofs.TableLaws.{state_same}
use Rattle.objects.proofs.table.give.Goals as goal

pub returns-clause-state : goal.returns-clause-state
returns-clause-state g c =
    let new : Table g.row.R.Denot g.row.R-Ticket.Denot g.R.Runner = record { by_number = c.get_mut.follows.lender c.give.new.object } in
    state_same c.args.table.now new c.args.object c.in-Some.kept.now c.give.new.object c.in-Some.ensures.value (c.get_mut.follows.holds c.give.new.object) c.give.ensures.object c.give.ensures.mark
