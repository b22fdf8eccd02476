-- Only this object was written.
use Rattle.objects.specs.declared.table.Table.{Table}
use Rattle.objects.proofs.TableLaws.{finishes_reads}
use Rattle.objects.proofs.table.finish.Goals as goal

pub returns-clause-ends : goal.returns-clause-ends
returns-clause-ends g c =
    let new : Table g.row.R.Denot g.row.R-Ticket.Denot g.R.Runner = record { by_number = c.get_mut.follows.lender c.finish.new.object } in
    finishes_reads c.args.table.now new c.args.object c.in-Some.kept.now c.finish.new.object c.in-Some.ensures.value (c.get_mut.follows.holds c.finish.new.object) c.finish.result c.finish.ensures.ends
