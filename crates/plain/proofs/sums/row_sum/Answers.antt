-- One column more at each turn.
use Rattle.std.proofs.Common.{◌≡◌, refl}
use Rattle.algebra.specs.Operators.{combines_by, eval_of}
use Rattle.model.specs.Entries.{count_from}
use Rattle.plain.proofs.SumLaws.{row-more}
use Rattle.plain.proofs.sums.row_sum.Goals as goal

pub loop-col-init : goal.loop-col-init
unfolding count_from
loop-col-init g c = refl

pub loop-col-preserved : goal.loop-col-preserved
loop-col-preserved g c =
    let monoid = c.args.monoid in
    let same : monoid.op.kind ≡ combines_by monoid.kind = cc in
    row-more (eval_of (combines_by monoid.kind) monoid.op.domain) (g.M.Mapping.content c.args.mapping.now) c.args.row c.loop-col.col
    c.loop-col.sum c.at.result c.added-sum.result c.loop-col.invariant c.at.ensures (rw same at c.added-sum.ensures)
