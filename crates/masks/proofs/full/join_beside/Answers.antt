use Rattle.std.proofs.Common.{rules, ◌<◌, ◌∙◌, ap, arith, get_or}
use Rattle.std.proofs.lemmas.List.{with_items_is}
use Rattle.masks.specs.Joins.{both_beside}
use Rattle.masks.proofs.JoinedWords.{zipped}
use Rattle.masks.proofs.full.join_beside.Goals as goal

pub returns-clause-words : goal.returns-clause-words
returns-clause-words c = λ k within.
    let s = c.loop-k in
    let f = both_beside c.args.side c.args.by in
    let beside = s.beside.items in
    let others = c.args.other.words.now in
    let is = with_items_is c.resize-2.new.self c.join_sides.new.words (search rules) in
    let lent = c.deref.ensures.value in
    let inside : k < s.k = omega (arith, c.loop-k-test.false) in
    let made = rw lent at c.join_sides.ensures.words in
    rw (is, made) (zipped f beside others k (omega (arith, s.invariant.long)) (omega (arith, s.invariant.long, c.requires.other_words))
    ∙ ap (λ w. f w (get_or others k 0)) (s.invariant.words k inside))
