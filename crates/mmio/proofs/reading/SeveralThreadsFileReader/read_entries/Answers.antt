-- What the parts list behind the heading is the matrix.
use Rattle.std.proofs.Common.{◌∙◌, ap, arith}
use Rattle.mmio.specs.Listing.{located, matrix_of}
use Rattle.mmio.proofs.ListingLaws.{lists-all, matrix_listed-is}
use Rattle.mmio.proofs.reading.SeveralThreadsFileReader.read_entries.Goals as goal

pub returns-in-Ok-clause-ok : goal.returns-in-Ok-clause-ok
returns-in-Ok-clause-ok g c =
    let h = c.in_ok-heading.heading in
    let found = c.in-Ok.listed in
    let listed = lists-all c.args.domain h c.in_ok-heading.rest.now found.entries found.lines c.in-Ok.ensures (omega (arith, c.if-list_beside-heading.true)) in
    c.in_ok-heading.ensures ∙ ap (located c.args.bytes.now) (matrix_listed-is _ _ _ ∙ ap (matrix_of h) listed)
