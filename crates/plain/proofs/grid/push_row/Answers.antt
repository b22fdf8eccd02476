-- A column's word, where there is one, is one entry more.
use Rattle.plain.proofs.GridLaws.{row-more, walk-start}
use Rattle.plain.proofs.grid.push_row.Goals as goal

pub loop-col-init : goal.loop-col-init
loop-col-init g c = walk-start _ c.args.out.now.items

pub loop-col-preserved : goal.loop-col-preserved
loop-col-preserved g c =
    row-more (g.M.Mapping.content c.args.mapping.now) c.args.row c.loop-col.col c.args.out.now.items c.loop-col.out.items c.push_word.new.out.items
    c.loop-col.invariant (rw c.at.ensures at c.in_ok-push_word.ensures)
