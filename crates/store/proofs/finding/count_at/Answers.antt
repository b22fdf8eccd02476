use Rattle.std.proofs.Common.{arith}
use Rattle.store.proofs.Windows.{below_near, from_near}
use Rattle.store.proofs.finding.count_at.Goals as goal

pub returns-then-outer-ends-clause-before : goal.returns-then-outer-ends-clause-before
returns-then-outer-ends-clause-before c =
    let within = c.if-place-ends.true in
    below_near c.args.ends.now c.args.place c.args.outer _ c.requires c.if-place-gt0.true (omega arith) c.if-ends-place.true

pub returns-then-outer-ends-clause-behind : goal.returns-then-outer-ends-clause-behind
returns-then-outer-ends-clause-behind c = from_near c.args.ends.now c.args.place c.args.outer _ c.requires c.if-place-ends.true c.if-outer-ends.true
