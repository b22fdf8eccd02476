-- Where nothing is told of the object it isn't there, and a text without memory leaves it as it was.
use Rattle.std.proofs.Common.{◌≡◌, Err, Ok, rules}
use Rattle.model.specs.declared.status.Status.TheVariants as status
use Rattle.script.proofs.PrintLaws.{refused_print, untold}
use Rattle.script.proofs.printing.print.Goals as goal

pub returns-in_err-shape-clause-performed : goal.returns-in_err-shape-clause-performed
returns-in_err-shape-clause-performed g c =
    let refused : c.from_residual.result ≡ Err c.in_err-shape.field-0.0 = search rules in
    rw refused (untold (λ o. o.shape) c.args.session.now c.args.object c.in_err-shape.field-0.0 c.in_err-shape.ensures)

pub returns-in_err-write_by-clause-performed : goal.returns-in_err-write_by-clause-performed
returns-in_err-write_by-clause-performed g c =
    let refused : c.from_residual-in_err-write_by.result ≡ Err status.OutOfMemory = search rules in
    let lent : c.store.result ≡ Ok c.in_ok-store.store = search rules in
    rw refused (refused_print c.args.session.now c.store.follows.lender-at-none c.args.object c.store.result c.in_ok-store.store lent c.store.follows.holds-at-none)
