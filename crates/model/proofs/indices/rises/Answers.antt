use Rattle.std.proofs.Common.{arith, sym}
use Rattle.model.proofs.IndexLaws.{neighbours_distinct, neighbours_same}
use Rattle.model.proofs.indices.rises.Goals as goal

pub returns-then-sorted-k : goal.returns-then-sorted-k
returns-then-sorted-k c = sym (neighbours_same c.args.sorted.now c.loop-k.k (omega arith) (omega arith) c.if-sorted-k.true)

pub returns : goal.returns
returns c = sym (neighbours_distinct c.args.sorted.now c.requires (λ k some within. c.loop-k.invariant k some (omega arith)))
