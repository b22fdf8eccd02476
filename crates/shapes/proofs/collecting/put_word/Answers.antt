use Rattle.std.proofs.Common.{◌∙◌, ℕ, arith, get_or, map}
use Rattle.std.proofs.lemmas.List.{get_or-map, length-map}
use Rattle.model.specs.Entries.{entry_at}
use Rattle.shapes.proofs.ListLaws.{push_more}
use Rattle.shapes.proofs.collecting.put_word.Goals as goal

pub loop-col-preserved : goal.loop-col-preserved
loop-col-preserved c =
    let f = λ (col : ℕ). entry_at c.args.index col c.args.word in
    let cols = c.args.cols.now in
    let k = c.loop-col.col-index in
    let d = entry_at 0 0 0 in
    c.in_ok-push.ensures.items ∙ push_more c.args.entries.now.items c.loop-col.entries.items (map f cols) k (f (get_or cols k 0)) d c.loop-col.invariant (omega (arith, length-map cols f, c.loop-col-test.true)) (get_or-map f cols k 0 d c.loop-col-test.true)
