-- Only this object was written, and its value may have come to be there.
use Rattle.objects.specs.declared.table.Table.{Table}
use Rattle.objects.proofs.TableLaws.{settles_written}
use Rattle.objects.proofs.table.settle_one.Goals as goal

pub returns-in-Some : goal.returns-in-Some
returns-in-Some g c =
    let new : Table g.row.R.Denot g.row.R-Ticket.Denot g.R.Runner = record { by_number = c.get_mut.follows.lender c.settle.new.object } in
    settles_written c.args.table.now new c.args.object c.in-Some.kept.now c.settle.new.object c.in-Some.ensures.value (c.get_mut.follows.holds c.settle.new.object) c.settle.ensures.object c.settle.ensures.mark
