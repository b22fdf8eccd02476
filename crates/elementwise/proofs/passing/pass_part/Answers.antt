use Rattle.std.proofs.Common.{refl, arith}
use mir.Val.{bool_byte}
use Rattle.elementwise.specs.Kept.{is_passed}
use Rattle.elementwise.proofs.Passed.{passed_indices, passed_more, passed_none, passed_words}
use Rattle.elementwise.proofs.passing.pass_part.Goals as goal

pub loop-k-init : goal.loop-k-init
loop-k-init c = passed_none (is_passed c.args.test c.args.outer) c.args.inner.now c.args.words.now c.args.count c.args.to_inner.now c.args.to_words.now

pub returns-clause-inner : goal.returns-clause-inner
returns-clause-inner c =
    let done = c.loop-k-test.false in
    passed_indices (is_passed c.args.test c.args.outer) c.args.inner.now c.args.words.now c.args.count c.args.to_inner.now c.args.to_words.now c.loop-k.to_inner c.loop-k.to_words c.loop-k.k c.loop-k.kept c.loop-k.invariant (omega arith)

pub returns-clause-words : goal.returns-clause-words
returns-clause-words c =
    let done = c.loop-k-test.false in
    passed_words (is_passed c.args.test c.args.outer) c.args.inner.now c.args.words.now c.args.count c.args.to_inner.now c.args.to_words.now c.loop-k.to_inner c.loop-k.to_words c.loop-k.k c.loop-k.kept c.loop-k.invariant (omega arith)

pub loop-k-preserved : goal.loop-k-preserved
loop-k-preserved c =
    let s = c.loop-k in
    let within = c.loop-k-test.true in
    let same = c.requires.lengths in
    let room = c.requires.inner in
    let room_words = c.requires.words in
    let fewer = s.invariant.fewer in
    let long = s.invariant.inner_long in
    let words_long = s.invariant.words_long in
    rw c.from-kept.ensures (passed_more (is_passed c.args.test c.args.outer) c.args.inner.now c.args.words.now c.args.count c.args.to_inner.now c.args.to_words.now s.to_inner s.to_words s.k s.kept c.passes.result bool_byte refl refl s.invariant within same (omega arith) (omega arith) c.passes.ensures)
