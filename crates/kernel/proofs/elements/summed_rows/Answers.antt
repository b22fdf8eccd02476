-- A sum of the words as they are stored is the sum of the values in the monoid's domain.
use Rattle.std.proofs.Common.{◌∙◌, ◌==◌, None, ap, cond, refl}
use Rattle.elementwise.specs.Sums.{folded}
use Rattle.model.specs.Reductions.{row_words}
use Rattle.store.specs.Forms.{sparse_of}
use Rattle.store.specs.Stored.{content_of}
use Rattle.kernel.proofs.Computed.{sums-computed}
use Rattle.kernel.proofs.MaskLaws.{if_rows}
use Rattle.kernel.proofs.RowLaws.{words_there}
use Rattle.kernel.proofs.elements.summed_rows.Goals as goal

pub returns : goal.returns
returns c =
    let a = c.args.a in
    let monoid = c.in-Some.monoid in
    let named = c.in-Some.ensures.1 in
    let lists = c.in_ok-a.ensures in
    let stored = sparse_of c.in_ok-a.a in
    let rows = rw c.get.ensures at c.reduce_rows.ensures in
    let takes = rw (← named) at c.requires.takes in
    rw (← named) (if_rows c.reduce_rows.result c.args.range.start c.args.range.end _ _ _ _ refl
    (λ i j low high. ap (λ n. cond (j == 0) (folded monoid (row_words n (content_of stored) i)) None) lists.cols_are
    ∙ ap (λ ws. cond (j == 0) (folded monoid ws) None) (words_there a.store.now.cols (content_of stored) (content_of a.store.now) i (λ k. lists.words i k low high))
    ∙ sums-computed a monoid takes i j)
    rows.first rows.past rows.cols rows.words)
