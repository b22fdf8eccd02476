-- The places of the merge, with the words of the join.
use Rattle.std.proofs.Common.{rules, arith}
use Rattle.std.proofs.lemmas.List.{with_items_is}
use Rattle.masks.proofs.Joins.{places_joined}
use Rattle.masks.proofs.join.join_fibers.Goals as goal

pub returns-clause-joined : goal.returns-clause-joined
returns-clause-joined c =
    let m = c.merge_fibers.new in
    let inner_is = with_items_is c.make_room.new.self.lists.inner m.inner (search rules) in
    let words_are = with_items_is c.resize.new.self c.join_words.new.words (search rules) in
    rw (inner_is, words_are) (places_joined c.args.by c.args.left.entries c.args.right.entries c.in_ok-count.count m.ends.items m.inner m.lefts m.rights m.sides c.join_words.new.words c.in_ok-count.ensures.merged
    (let bound = c.in_ok-count.ensures.bound in let long = c.in_ok-count.ensures.inner_length in omega arith) (search rules))
