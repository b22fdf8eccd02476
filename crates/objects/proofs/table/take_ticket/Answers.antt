-- Only this object was written, and it is the object that it was.
use Rattle.objects.specs.declared.table.Table.{Table}
use Rattle.objects.proofs.TableLaws.{state_same}
use Rattle.objects.proofs.table.take_ticket.Goals as goal

pub returns : goal.returns
returns g c =
    let new : Table g.row.R.Denot g.row.R-Ticket.Denot g.R.Runner = record { by_number = c.get_mut.follows.lender c.take_ticket.new.object } in
    record {
      state = state_same c.args.table.now new c.args.object c.in-Some.kept.now c.take_ticket.new.object c.in-Some.ensures.value (c.get_mut.follows.holds c.take_ticket.new.object) c.take_ticket.ensures.object c.take_ticket.ensures.mark;
    }
