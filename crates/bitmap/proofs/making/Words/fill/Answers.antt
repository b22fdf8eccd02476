use Rattle.std.proofs.Common.{◌+◌, ◌-◌, ◌∙◌, ap, arith, get_or, length}
use Rattle.algebra.specs.Operators.{eval_of}
use Rattle.lanes.specs.Bits.{AreUnited}
use Rattle.bitmap.proofs.PartLaws.{united_part, zipped_part}
use Rattle.bitmap.proofs.making.Words.fill.Goals as goal

pub returns-in-Zipped-clause-words : goal.returns-in-Zipped-clause-words
returns-in-Zipped-clause-words c =
    let made = c.in-Zipped in
    let start = c.args.start in
    let n = (start + length c.args.part.now) - start in
    let fits = rw made.is at c.requires.fits in
    let inside = rw made.is at c.requires.inside in
    rw made.is (λ k within.
    ap (λ words. get_or words k 0) c.zip_words.ensures
    ∙ zipped_part (eval_of made.op.kind made.op.domain) made.a.now made.b.now start n k fits (omega arith) (omega arith))

pub returns-in-United-clause-words : goal.returns-in-United-clause-words
unfolding AreUnited
returns-in-United-clause-words c =
    let made = c.in-United in
    let start = c.args.start in
    let n = (start + length c.args.part.now) - start in
    rw made.is (λ k within.
    c.unite_present.ensures k (omega arith)
    ∙ united_part made.op.kind made.op.domain made.left.now made.right.now made.a.now made.b.now start n k c.requires.bits (omega arith))
