-- One fiber's indices rise.
use Rattle.std.proofs.Common.{arith}
use Rattle.std.proofs.lemmas.Bool.Decides.{nat_tests}
use Rattle.masks.proofs.PairLaws.{one_rises}
use Rattle.masks.proofs.alike.have_same_inner.Goals as goal

pub are_same_run-requires-clause-a : goal.are_same_run-requires-clause-a
are_same_run-requires-clause-a c =
    let a = c.args.a.now in
    one_rises a.from a.head a.others.now a.inner.now a.words.now c.requires.a c.requires.some (grind (arith, nat_tests))

pub are_same_run-requires-clause-b : goal.are_same_run-requires-clause-b
are_same_run-requires-clause-b c =
    let b = c.args.b.now in
    one_rises b.from b.head b.others.now b.inner.now b.words.now c.requires.b (omega (arith, c.requires.some, c.requires.count)) (grind (arith, nat_tests))
