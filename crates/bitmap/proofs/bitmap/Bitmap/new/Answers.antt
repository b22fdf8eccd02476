use Rattle.std.proofs.Common.{◌≡◌, ◌+◌, ◌*◌, ◌/◌, replicate, rules}
use Rattle.bitmap.proofs.KeptPlaces.{places_none}
use Rattle.bitmap.proofs.PlaceLaws.{none_held}
use Rattle.bitmap.proofs.bitmap.Bitmap.new.Goals as goal

pub invariant_of-result : goal.invariant_of-result
invariant_of-result c =
    let bits : c.in_ok-bits.bits.items ≡ replicate (c.args.rows * c.args.cols / 64 + 1) 0 = search rules in
    let words : c.in_ok-words.words.items ≡ replicate (c.args.rows * c.args.cols) 0 = search rules in
    places_none c.args.rows c.args.cols c.in_ok-bits.bits.items c.in_ok-words.words.items c.requires words bits

pub returns-clause-content : goal.returns-clause-content
returns-clause-content c =
    let bits : c.in_ok-bits.bits.items ≡ replicate (c.args.rows * c.args.cols / 64 + 1) 0 = search rules in
    let words : c.in_ok-words.words.items ≡ replicate (c.args.rows * c.args.cols) 0 = search rules in
    rw (bits, words) (none_held c.args.rows c.args.cols (c.args.rows * c.args.cols / 64 + 1) (c.args.rows * c.args.cols))
