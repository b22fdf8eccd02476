use Rattle.std.proofs.Common.{◌<◌, ◌≤◌, ◌-◌, ◌∙◌, arith, get_or, length, sym}
use Rattle.std.proofs.lemmas.Bool.Decides.{nat_tests}
use Rattle.masks.proofs.FullLaws.{around, ends_around}
use Rattle.masks.proofs.full.is_around.Goals as goal

pub returns-then-last-first-clause-no : goal.returns-then-last-first-clause-no
returns-then-last-first-clause-no c = λ no some some' is.
    let ends = ends_around c.args.full.now c.args.other.now some some' is in
    grind (arith, nat_tests)

pub returns-then-first-other-clause-yes : goal.returns-then-first-other-clause-yes
returns-then-first-other-clause-yes c = λ high.
    let full = c.args.full.now in
    let other = c.args.other.now in
    let some = sym c.is_empty.ensures ∙ c.if-is_empty.false in
    let some' = sym c.is_empty-else-is_empty.ensures ∙ c.if-is_empty-2.false in
    let filled : 0 < length full = grind (arith, nat_tests) in
    let filled' : 0 < length other = grind (arith, nat_tests) in
    let below : get_or other (length other - 1) 0 ≤ get_or full (length full - 1) 0 = grind (arith, nat_tests) in
    around full other c.requires.full c.requires.other filled filled' c.if-last-first.false c.if-first-other.true below

pub returns-then-first-other-clause-no : goal.returns-then-first-other-clause-no
returns-then-first-other-clause-no c = λ no some some' is.
    let ends = ends_around c.args.full.now c.args.other.now some some' is in
    grind (arith, nat_tests)

pub returns-else-first-other-clause-no : goal.returns-else-first-other-clause-no
returns-else-first-other-clause-no c = λ no some some' is.
    let ends = ends_around c.args.full.now c.args.other.now some some' is in
    grind (arith, nat_tests)
