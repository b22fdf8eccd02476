use Rattle.std.proofs.Common.{◌≡◌, length, arith}
use Rattle.algebra.specs.OperatorNames.{op_named}
use Rattle.store.specs.Stored.{content_of}
use Rattle.masks.proofs.InPlaceLaws.{over_words}
use Rattle.masks.proofs.in_place.accumulate_rows.Goals as goal

pub returns-clause-words : goal.returns-clause-words
returns-clause-words c i j =
    let rows = c.args.rows.now in
    let all : c.loop-k.k ≡ length rows = omega arith in
    over_words (op_named c.args.op) (content_of c.args.store.now) rows c.args.words.now c.loop-k.words i j c.requires (rw all at c.loop-k.invariant)
