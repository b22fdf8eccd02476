use Rattle.std.proofs.Common.{arith}
use Rattle.store.specs.Fibers.{end_at}
use Rattle.store.proofs.Windows.{first_below, others_from}
use Rattle.store.proofs.finding.count_without_gaps.Goals as goal

pub returns-clause-before : goal.returns-clause-before
returns-clause-before c = first_below c.args.ends.now c.requires (end_at 0 0) c.if-ends-count.false c.min.result c.args.outer (omega (arith, c.min.ensures)) (omega (arith, c.min.ensures))

pub returns-clause-behind : goal.returns-clause-behind
returns-clause-behind c = others_from c.args.ends.now c.requires (end_at 0 0) c.if-ends-count.false c.min.result c.args.outer (λ few. omega (arith, c.min.ensures))
