-- An operator's answers for words as they are stored are those for the values in its domain.
use Rattle.std.proofs.Common.{◌∙◌, ap}
use Rattle.algebra.specs.Operators.{eval_of}
use Rattle.elementwise.specs.Alone.{alone_by}
use Rattle.model.specs.ElementWise.{of_both, of_either}
use Rattle.store.specs.Forms.{sparse_of}
use Rattle.store.specs.Stored.{content_of}
use Rattle.kernel.proofs.Computed.{intersection-computed, union-computed}
use Rattle.kernel.proofs.MaskLaws.{if_rows}
use Rattle.kernel.proofs.elements.combined_rows.Goals as goal

pub returns-in-Union : goal.returns-in-Union
returns-in-Union c =
    let a = c.args.a in
    let b = c.args.b in
    let op = c.in-Some.op in
    let named = c.in-Some.ensures.1 in
    let left = c.in_ok-a.ensures in
    let right = c.in_ok-b.ensures in
    let rows = rw (c.get.ensures, c.get-in-Union.ensures) at c.union_rows.ensures in
    let first = rw (← named) at c.requires.takes_first in
    let second = rw (← named) at c.requires.takes_second in
    let made = of_either (alone_by op) (alone_by op) (eval_of op.kind op.domain) in
    rw (c.in-Union.is, ← named) (if_rows c.union_rows.result c.args.range.start c.args.range.end _ _ _ _ (left.cols_are ∙ a.cols)
    (λ i j low high. ap (λ w. made w (content_of (sparse_of c.in_ok-b.b) i j)) (left.words i j low high)
    ∙ ap (made (content_of a.store.now i j)) (right.words i j low high) ∙ union-computed a b op first second i j)
    rows.first rows.past rows.cols rows.words)

pub returns : goal.returns
returns c =
    let a = c.args.a in
    let b = c.args.b in
    let op = c.in-Some.op in
    let named = c.in-Some.ensures.1 in
    let left = c.in_ok-a.ensures in
    let right = c.in_ok-b.ensures in
    let rows = rw (c.get-in-Intersection.ensures, c.get-in-Intersection-2.ensures) at c.intersect_rows.ensures in
    let first = rw (← named) at c.requires.takes_first in
    let second = rw (← named) at c.requires.takes_second in
    let made = of_both (eval_of op.kind op.domain) in
    rw (c.in-Intersection.is, ← named) (if_rows c.intersect_rows.result c.args.range.start c.args.range.end _ _ _ _ (left.cols_are ∙ a.cols)
    (λ i j low high. ap (λ w. made w (content_of (sparse_of c.in_ok-b.b) i j)) (left.words i j low high)
    ∙ ap (made (content_of a.store.now i j)) (right.words i j low high) ∙ intersection-computed a b op first second i j)
    rows.first rows.past rows.cols rows.words)
