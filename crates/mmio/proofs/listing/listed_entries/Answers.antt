-- A text that is listed to its end lists as many entries as were announced, or fewer.
use Rattle.std.proofs.Common.{◌<◌, ◌∙◌, ap, sym, arith, inr, Err}
use Rattle.mmio.specs.Listing.{located}
use Rattle.mmio.proofs.ListingLaws.{lists-all, lists-few}
use Rattle.mmio.proofs.listing.listed_entries.Goals as goal

pub returns-in-Ok-clause-ok : goal.returns-in-Ok-clause-ok
returns-in-Ok-clause-ok g c =
    let found = c.in-Ok.listed in
    lists-all c.args.domain c.args.heading c.args.text.now (g.C.Collects.entries_of found.entries) found.lines c.in-Ok.ensures.ok (omega (arith, c.if-list_lines-heading.true))

pub returns-in-Ok-2-clause-err : goal.returns-in-Ok-2-clause-err
returns-in-Ok-2-clause-err g c =
    let found = c.in-Ok.listed in
    let few : found.lines < c.args.heading.entries = omega (arith, c.if-list_lines-heading.false, c.in-Ok.ensures.most) in
    let wrong = lists-few c.args.domain c.args.heading c.args.text.now (g.C.Collects.entries_of found.entries) found.lines c.in-Ok.ensures.ok few in
    inr (ap (located c.args.file.now) wrong ∙ ap Err (sym c.fault_at_end.ensures))
