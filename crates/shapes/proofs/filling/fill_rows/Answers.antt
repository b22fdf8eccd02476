use Rattle.std.proofs.Common.{◌≡◌, ◌∙◌, arith, length}
use Rattle.std.specs.Prelude.{replicate}
use Rattle.shapes.proofs.FillLaws.{filling_end, filling_more, filling_none}
use Rattle.shapes.proofs.filling.fill_rows.Goals as goal

pub loop-k-init : goal.loop-k-init
loop-k-init c first past size up inside cols_inside =
    let made = c.in_ok-lists.ensures in
    filling_none c.args.rows.now c.args.cols.now c.args.word first past size c.in_ok-lists.lists up inside made.ends made.inner made.words

pub loop-k-preserved : goal.loop-k-preserved
loop-k-preserved c first past size up inside cols_inside =
    let words : c.deref.result.now ≡ replicate (length c.args.cols.now) c.args.word = c.deref.ensures.value ∙ c.in_ok-words.ensures in
    let put = rw words at c.in_ok-put_row.ensures in
    filling_more c.args.rows.now c.args.cols.now c.args.word c.loop-k.k first past size c.loop-k.lists c.put_row.new.lists c.requires.rows c.requires.cols inside cols_inside c.loop-k-test.true (c.loop-k.invariant first past size up inside cols_inside) put

pub returns : goal.returns
returns c first past size up inside cols_inside =
    filling_end c.args.rows.now c.args.cols.now c.args.word c.loop-k.k first past size c.loop-k.lists (omega (arith, c.loop-k-test.false)) (c.loop-k.invariant first past size up inside cols_inside)
