use Rattle.std.proofs.Common.{arith}
use Rattle.spgemm.proofs.row.sum_row.Goals as goal

pub sum_at_once-requires-clause-inside : goal.sum_at_once-requires-clause-inside
sum_at_once-requires-clause-inside c =
    let below = c.expects_compact.ensures c.if-not-expects_compact.false in
    let cols = c.cols.ensures in
    rw c.deref_mut-2.ensures.value (omega arith)
