-- A role without a ticket is one whose object has none.
use Rattle.std.proofs.Common.{◌≡◌, false, true}
use Rattle.calls.specs.declared.role.Role.TheVariants.{Old, Mask, First, Second}
use Rattle.session.proofs.operating.tickets_of.Goals as goal

pub returns-in_err-ticket_if-clause-ready : goal.returns-in_err-ticket_if-clause-ready
returns-in_err-ticket_if-clause-ready g c ready =
    let no : false ≡ true = c.in_err-ticket_if.ensures.ready (ready Old) in absurd (cc (no))

pub returns-in_err-ticket_if-2-clause-ready : goal.returns-in_err-ticket_if-2-clause-ready
returns-in_err-ticket_if-2-clause-ready g c ready =
    let no : false ≡ true = c.in_err-ticket_if-2.ensures.ready (ready Mask) in absurd (cc (no))

pub returns-in_err-ticket_if-3-clause-ready : goal.returns-in_err-ticket_if-3-clause-ready
returns-in_err-ticket_if-3-clause-ready g c ready =
    let no : false ≡ true = c.in_err-ticket_if-3.ensures.ready (ready First) in absurd (cc (no))

pub returns-in_err-ticket_if-4-clause-ready : goal.returns-in_err-ticket_if-4-clause-ready
returns-in_err-ticket_if-4-clause-ready g c ready =
    let no : false ≡ true = c.in_err-ticket_if-4.ensures.ready (ready Second) in absurd (cc (no))
