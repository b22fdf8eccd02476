use Rattle.std.proofs.Common.{◌∙◌}
use Rattle.spgemm.proofs.BitmapSums.{product_down}
use Rattle.spgemm.proofs.PartialLaws.{all_terms}
use Rattle.spgemm.proofs.bitmap_product.product_of.Goals as goal

pub returns-clause-content : goal.returns-clause-content
returns-clause-content c = λ i j.
    let f = c.args.factors in
    let made = c.of_bits-made.result in
    product_down f.semiring f.u.now f.a.now made c.in_ok-bits.bits.items c.in_ok-bits.words.items i j
    (record {
      sums = rw (← all_terms f f.a.now.rows) c.in_ok-bits.ensures.sums;
      each = c.in_ok-bits.ensures.words;
      rows = c.of_bits-made.ensures.rows ∙ c.cols.ensures;
      cols = c.of_bits-made.ensures.cols;
      inside = c.rows-3.ensures.inside;
      words_are = rw c.cols.ensures at c.of_bits-made.ensures.content;
    })
    c.requires.vector c.requires.inner c.rows.ensures.inside c.rows-2.ensures.within
