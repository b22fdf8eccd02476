-- A line that says something is the first one; others are no part.
use Rattle.std.proofs.Common.{◌≡◌, sym, ◌∙◌, arith, length}
use Rattle.std.proofs.lemmas.Bool.Decides.{nat_tests}
use Rattle.mmio.proofs.ListingLaws.{told_in-none, told_in-silent, told_in-told}
use Rattle.mmio.proofs.told.first_told.Goals as goal

pub returns-then-is_told-clause-lines : goal.returns-then-is_told-clause-lines
returns-then-is_told-clause-lines c =
    c.loop-rest.invariant.told ∙ told_in-told _ _ _ c.without_blanks-line.result.now c.first_line.ensures.lines c.without_blanks-line.ensures.words (sym c.if-is_told.ensures)

pub loop-rest-preserved : goal.loop-rest-preserved
loop-rest-preserved c = record {
  told = c.loop-rest.invariant.told ∙ told_in-silent _ _ _ c.without_blanks-line.result.now c.first_line.ensures.lines c.without_blanks-line.ensures.words (sym c.if-is_told.ensures);
  within = omega (arith, c.first_line.ensures.shorter);
}

pub returns-clause-lines : goal.returns-clause-lines
returns-clause-lines c =
    let none : length c.loop-rest.rest.now ≡ 0 = grind (arith, nat_tests) in
    c.loop-rest.invariant.told ∙ told_in-none c.loop-rest.rest.now none
