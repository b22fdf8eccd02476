use Rattle.std.proofs.Common.{◌<◌, ◌-◌, ◌∙◌, arith, get_or, length, sym}
use Rattle.std.proofs.lemmas.Bool.{eqb-true}
use Rattle.std.proofs.lemmas.Bool.Decides.{nat_tests}
use Rattle.masks.proofs.FullLaws.{around}
use Rattle.spgemm.proofs.along.are_consecutive.Goals as goal

pub returns-clause-steps : goal.returns-clause-steps
returns-clause-steps c = λ is.
    let cols = c.args.cols.now in
    let some = sym c.is_empty.ensures ∙ c.if-is_empty.false in
    let filled : 0 < length cols = grind (arith, nat_tests) in
    let wide = eqb-true (get_or cols (length cols - 1) 0 - get_or cols 0 0) (length cols - 1) is in
    (around cols cols c.requires.rising c.requires.rising filled filled wide (omega arith) (omega arith)).steps
