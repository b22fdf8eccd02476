-- Of nothing there are no lines.
use Rattle.std.proofs.Common.{◌≡◌, length, arith}
use Rattle.std.proofs.lemmas.Bool.Decides.{nat_tests}
use Rattle.model.specs.Grammar.{lines_of}
use Rattle.mmio.proofs.ListingLaws.{lines_of-none}
use Rattle.mmio.proofs.faults.count_lines.Goals as goal

pub returns-clause-number : goal.returns-clause-number
returns-clause-number c =
    let none : length c.loop-rest.rest.now ≡ 0 = grind (arith, nat_tests) in
    let last : length (lines_of c.loop-rest.rest.now) ≡ 0 = lines_of-none c.loop-rest.rest.now none in
    let all = c.loop-rest.invariant.number in
    omega (arith, all, last)
