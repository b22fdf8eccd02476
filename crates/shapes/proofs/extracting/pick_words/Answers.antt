use Rattle.std.proofs.Common.{◌∙◌, refl}
use Rattle.shapes.proofs.PickLaws.{put_more, put_none, put_skip}
use Rattle.shapes.proofs.extracting.pick_words.Goals as goal
use Rattle.shapes.proofs.extracting.pick_words.Goals.{in-Some+in_ok-push+in_ok-push-2, in_default}

pub loop-k-init : goal.loop-k-init
loop-k-init c = put_none c.args.row_cols.now c.args.words.now c.args.cols.now c.args.lists.now

pub loop-k-preserved : goal.loop-k-preserved
loop-k-preserved c =
    let cs = c.args.row_cols.now in
    let ws = c.args.words.now in
    let here = c.loop-k.invariant in
    elim c.match-find_word.branch [
      | in-Some+in_ok-push+in_ok-push-2 w ↦
          rw w.lists-is (put_more cs ws c.args.cols.now c.loop-k.k w.in-Some.word c.args.lists.now c.loop-k.lists (record { ends = c.loop-k.lists.ends; inner = w.push.new.self; words = w.push-in-Some.new.self }) c.loop-k-test.true
          (λ i. c.find_word.ensures i ∙ w.in-Some.is) here refl w.in_ok-push.ensures.items w.in_ok-push-2.ensures.items)
      | in_default w ↦ rw w.lists-is (put_skip cs ws c.args.cols.now c.loop-k.k c.args.lists.now c.loop-k.lists c.loop-k-test.true (λ i. c.find_word.ensures i ∙ w.in_default.is) here)
    ]
