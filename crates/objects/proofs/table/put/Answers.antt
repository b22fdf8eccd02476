-- Only this object was written.
use Rattle.std.proofs.Common.{◌∙◌}
use Rattle.objects.specs.Tables.{state_in, with_kept}
use Rattle.objects.specs.declared.table.Table.{Table}
use Rattle.objects.proofs.TableLaws.{state_written}
use Rattle.objects.proofs.table.put.Goals as goal

pub returns : goal.returns
returns g c =
    let new : Table g.row.R.Denot g.row.R-Ticket.Denot g.R.Runner = record { by_number = c.get_mut.follows.lender c.replace.new.object } in
    record {
      state = state_written c.args.table.now new c.args.object c.in-Some.kept.now c.replace.new.object c.in-Some.ensures.value (c.get_mut.follows.holds c.replace.new.object)
          ∙ (λ t. with_kept (state_in c.args.table.now) c.args.object (c.replace.ensures.object t) (c.replace.ensures.mark t));
    }
