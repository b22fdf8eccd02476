-- The positions that both sides have.
use Rattle.std.proofs.Common.{◌≡◌, take, rules, arith}
use Rattle.std.proofs.lemmas.List.{with_items_is}
use Rattle.algebra.specs.Operators.{eval_of}
use Rattle.lanes.specs.Lists.{zip_with}
use Rattle.elementwise.proofs.FiberPairs.{entries_met, flat_met}
use Rattle.elementwise.proofs.intersect.intersect_fibers.Goals as goal

pub returns-clause-met : goal.returns-clause-met
returns-clause-met c =
    let m = c.pair_fibers.new in
    let count = c.in_ok-count.count in
    let f = eval_of c.args.op.kind c.args.op.domain in
    let a = c.args.left.entries in
    let b = c.args.right.entries in
    let met = c.in_ok-count.ensures.met in
    let bound = c.in_ok-count.ensures.bound in
    let inner_long = c.in_ok-count.ensures.inner_length in
    let lefts_long = c.in_ok-count.ensures.lefts_length in
    let rights_long = c.in_ok-count.ensures.rights_length in
    let inner_is = with_items_is c.make_room.new.self.lists.inner m.inner (search rules) in
    let made : c.zip_words.new.out ≡ zip_with f (take count m.lefts) (take count m.rights) = search rules in
    let words_are = with_items_is c.resize.new.self c.zip_words.new.out (search rules) in
    rw (inner_is, words_are) (record {
      flat = flat_met f a b count m.ends.items m.inner m.lefts m.rights c.zip_words.new.out met c.len-most.ensures.order (omega arith) (omega arith) (omega arith) made;
      whole = entries_met f a b count m.ends.items m.inner m.lefts m.rights c.zip_words.new.out met made;
    })
