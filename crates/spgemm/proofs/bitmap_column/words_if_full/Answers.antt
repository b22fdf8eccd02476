use Rattle.std.proofs.Common.{◌≡◌, ◌*◌, ◌∙◌, arith, length, sym}
use Rattle.spgemm.proofs.RowSums.{known_word}
use Rattle.spgemm.proofs.bitmap_column.words_if_full.Goals as goal

pub returns-then-nvals-rows-clause-known : goal.returns-then-nvals-rows-clause-known
returns-then-nvals-rows-clause-known c = λ k within.
    let u = c.args.u.now in
    let long : length c.words.result.now ≡ u.rows * 1 = rw c.requires at c.words.ensures.length in
    let full : length u.entries ≡ u.rows = sym c.nvals.ensures.number ∙ c.if-nvals-rows.true ∙ c.rows.ensures.rows in
    known_word u c.words.result.now k c.requires c.nvals.ensures.order c.nvals.ensures.inside full c.words.ensures.words (omega (arith, within, long))
