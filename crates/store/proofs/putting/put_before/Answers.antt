-- What stands before the gap and behind it rises, so the place among the first part is that in the whole.
use Rattle.std.proofs.Common.{◌<◌, ◌+◌, ◌-◌, ◌∙◌, arith, rules}
use Rattle.std.proofs.lemmas.List.{take-set-le}
use Rattle.store.proofs.PutLaws.{around_rises, has_absent, has_found, put_absent, put_found}
use Rattle.store.proofs.putting.put_before.Goals as goal

pub seek_back-requires-clause-rises : goal.seek_back-requires-clause-rises
seek_back-requires-clause-rises c = around_rises c.args.left c.args.gap c.args.inner.now c.args.words.now c.requires.lengths c.requires.inside c.requires.order

pub returns-in-Ok : goal.returns-in-Ok
returns-in-Ok c =
    let moved = c.move_behind in
    let moved_words = c.move_behind-in-Ok in
    let put = put_found c.args.row c.args.word c.in-Ok.at c.args.left c.args.gap c.args.inner.now c.args.words.now moved.new.list moved_words.new.list c.requires.lengths c.requires.inside c.requires.order c.in-Ok.ensures.found moved.ensures.length moved_words.ensures.length moved.ensures.around moved_words.ensures.around in
    record {
      inner_length = moved.ensures.length;
      words_length = search rules;
      high = search rules;
      gap = rw (has_found c.args.row c.in-Ok.at c.args.left c.args.inner.now (omega arith) c.in-Ok.ensures.found) (omega arith);
      kept = moved.ensures.kept;
      behind = put.behind;
      above = put.above;
      set = put.set;
    }

pub overflow_sub-gap : goal.overflow_sub-gap
overflow_sub-gap c =
    let room : 0 < c.args.gap = c.requires.room (has_absent c.args.row c.in-Err.at c.args.left c.args.inner.now (omega arith) c.in-Err.ensures.absent) in omega arith

pub bounds-inner-at : goal.bounds-inner-at
bounds-inner-at c =
    let room : 0 < c.args.gap = c.requires.room (has_absent c.args.row c.in-Err.at c.args.left c.args.inner.now (omega arith) c.in-Err.ensures.absent) in
    let high = c.in-Err.ensures.absent.high in
    let long = c.move_behind-in-Err.ensures.length in
    omega arith

pub bounds-words-at-in-Err : goal.bounds-words-at-in-Err
bounds-words-at-in-Err c =
    let room : 0 < c.args.gap = c.requires.room (has_absent c.args.row c.in-Err.at c.args.left c.args.inner.now (omega arith) c.in-Err.ensures.absent) in
    let high = c.in-Err.ensures.absent.high in
    let long = c.move_behind-in-Err-2.ensures.length in
    omega arith

pub returns-in-Err : goal.returns-in-Err
returns-in-Err c =
    let moved = c.move_behind-in-Err in
    let moved_words = c.move_behind-in-Err-2 in
    let none = has_absent c.args.row c.in-Err.at c.args.left c.args.inner.now (omega arith) c.in-Err.ensures.absent in
    let room : 0 < c.args.gap = c.requires.room none in
    let put = put_absent c.args.row c.args.word c.in-Err.at c.args.left c.args.gap (c.args.gap - 1) c.args.inner.now c.args.words.now moved.new.list moved_words.new.list (omega arith) c.requires.lengths c.requires.inside c.requires.order c.requires.above c.in-Err.ensures.absent moved.ensures.length moved_words.ensures.length moved.ensures.around moved_words.ensures.around in
    record {
      inner_length = search rules;
      words_length = search rules;
      high = search rules;
      gap = rw none (omega arith);
      kept = take-set-le c.in-Err.at moved.new.list (c.in-Err.at + (c.args.gap - 1)) c.args.row (omega arith) ∙ moved.ensures.kept;
      behind = put.behind;
      above = put.above;
      set = put.set;
    }
