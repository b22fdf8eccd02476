-- Each line does a step of the listing.
use Rattle.std.proofs.Common.{◌≡◌, ◌==◌, ◌-◌, ◌+◌, ◌≤◌, true, false, ◌∙◌, sym, arith}
use Rattle.std.proofs.lemmas.Bool.Decides.{nat_tests}
use Rattle.mmio.proofs.ListingLaws.{has_listed-line, listed_from-many, listed_from-wrong, listed_so_far}
use Rattle.mmio.proofs.listing.list_lines.Goals as goal

pub returns-then-lines-heading-clause-err : goal.returns-then-lines-heading-clause-err
returns-then-lines-heading-clause-err g c =
    let h = c.args.heading in
    let none : (h.entries - c.loop-said.lines == 0) ≡ true = grind (arith, nat_tests, c.if-lines-heading.true) in
    listed_so_far c.args.domain h c.args.text.now c.loop-said.rest.now (g.C.Collects.entries_of c.loop-said.entries) c.loop-said.lines c.loop-said.invariant
    ∙ listed_from-many c.args.domain h (h.entries - c.loop-said.lines) (g.C.Collects.entries_of c.loop-said.entries) _ _ _ c.in-Some.ensures.lines.told none

pub returns-in-Err-clause-err : goal.returns-in-Err-clause-err
returns-in-Err-clause-err g c =
    let h = c.args.heading in
    let some : (h.entries - c.loop-said.lines == 0) ≡ false = grind (arith, nat_tests, c.if-lines-heading.false, c.loop-said.invariant.most) in
    let is = sym c.in-Err.is ∙ c.in-Some.ensures.lines.is in
    listed_so_far c.args.domain h c.args.text.now c.loop-said.rest.now (g.C.Collects.entries_of c.loop-said.entries) c.loop-said.lines c.loop-said.invariant
    ∙ listed_from-wrong c.args.domain h (h.entries - c.loop-said.lines) (g.C.Collects.entries_of c.loop-said.entries) _ _ _ _ c.in-Some.ensures.lines.told some is

pub loop-said-preserved : goal.loop-said-preserved
loop-said-preserved g c =
    let h = c.args.heading in
    let most : c.loop-said.lines + 1 ≤ h.entries = grind (arith, nat_tests, c.if-lines-heading.false, c.loop-said.invariant.most) in
    let said = sym c.in-Some.ensures.lines.is ∙ c.in-Ok.is in
    rw c.in_ok-push.ensures.ok (has_listed-line c.args.domain h c.args.text.now c.loop-said.rest.now c.in-Some.behind.now (g.C.Collects.entries_of c.loop-said.entries) c.loop-said.lines _ c.in-Ok.entry c.loop-said.invariant c.in-Some.ensures.lines.told said most)
