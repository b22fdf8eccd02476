use Rattle.std.proofs.Common.{◌≡◌, length, rules}
use Rattle.bitmap.proofs.FullLaws.{full_is, places_full}
use Rattle.bitmap.proofs.bitmap.Bitmap.full.Goals as goal

pub invariant_of-result : goal.invariant_of-result
invariant_of-result c =
    let words = c.args.words.items in
    let places : c.len.result ≡ length words = search rules in
    let count : c.len-2.result ≡ length words = search rules in
    rw count (places_full c.args.rows c.args.cols c.in-Ok.bits.items words c.requires.small c.requires.words (rw places at c.in-Ok.ensures.length) (rw places at c.in-Ok.ensures.set))

pub returns-clause-content : goal.returns-clause-content
returns-clause-content c =
    let words = c.args.words.items in
    let places : c.len.result ≡ length words = search rules in
    full_is c.args.rows c.args.cols c.in-Ok.bits.items words (rw places at c.in-Ok.ensures.set) c.requires.words
