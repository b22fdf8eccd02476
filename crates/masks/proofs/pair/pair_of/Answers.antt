use Rattle.std.proofs.Common.{◌∙◌, sym}
use Rattle.masks.proofs.PairLaws.{outer_is}
use Rattle.masks.proofs.pair.pair_of.Goals as goal

pub returns-then-right_outer-outer-clause-none : goal.returns-then-right_outer-outer-clause-none
returns-then-right_outer-outer-clause-none c = λ outer some some' same same'.
    let left = c.in_ok-outer in
    let right = c.in_ok-right_outer in
    let at = outer_is left.outer outer c.args.left.now.entries left.left.inner.now left.left.words.now left.ensures.entries some same in
    let at' = outer_is right.right_outer outer c.args.right.now.entries right.right.inner.now right.right.words.now right.ensures.entries some' same' in
    absurd (c.if-right_outer-outer.true (at' ∙ sym at))
