use Rattle.std.proofs.Common.{◌≡◌, ◌∙◌, ap, get_or, refl, sym}
use Rattle.shapes.specs.Lists.{has_index}
use Rattle.shapes.specs.Sides.{on_side}
use Rattle.shapes.proofs.SideLaws.{pass_kept, put_kept}
use Rattle.shapes.proofs.putting.keep_words.Goals as goal
use Rattle.shapes.proofs.putting.keep_words.Goals.{then-is_on+in_ok-push+in_ok-push-2, else-is_on}

pub loop-k-preserved : goal.loop-k-preserved
loop-k-preserved c =
    let cs = c.args.cols.now in
    let ws = c.args.words.now in
    let sorted = c.args.members.now.sorted.now in
    let is : on_side c.args.inside (has_index sorted (get_or cs c.loop-k.k 0)) ≡ c.is_on.result = sym (c.is_on.ensures ∙ ap (on_side c.args.inside) c.has.ensures) in
    elim c.if-is_on.branch [
      | then-is_on+in_ok-push+in_ok-push-2 w ↦
          rw w.lists-is (put_kept c.args.inside sorted cs ws c.loop-k.k c.args.lists.now c.loop-k.lists (record { ends = c.loop-k.lists.ends; inner = w.push.new.self; words = w.push-then-is_on.new.self }) c.requires.lengths c.loop-k-test.true (is ∙ w.if-is_on.true) c.loop-k.invariant refl
          w.in_ok-push.ensures.items w.in_ok-push-2.ensures.items)
      | else-is_on w ↦ rw w.lists-is (pass_kept c.args.inside sorted cs ws c.loop-k.k c.args.lists.now c.loop-k.lists c.requires.lengths c.loop-k-test.true (is ∙ w.if-is_on.false) c.loop-k.invariant)
    ]
