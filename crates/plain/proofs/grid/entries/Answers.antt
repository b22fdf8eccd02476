-- The rows, one after the other.
use Rattle.std.proofs.Common.{◌∙◌, rules}
use Rattle.plain.proofs.GridLaws.{rows-more, rows-start}
use Rattle.plain.proofs.grid.entries.Goals as goal

pub loop-row-init : goal.loop-row-init
loop-row-init g c = c.new-out.ensures.items ∙ rows-start c.cols-cols.result (g.M.Mapping.content c.args.mapping.now)

pub loop-row-preserved : goal.loop-row-preserved
loop-row-preserved g c =
    rows-more c.cols-cols.result c.loop-row.row (g.M.Mapping.content c.args.mapping.now) c.loop-row.out.items c.push_row.new.out.items c.loop-row.invariant (search rules)
