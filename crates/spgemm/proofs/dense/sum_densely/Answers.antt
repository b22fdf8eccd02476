use Rattle.std.proofs.Common.{length}
use Rattle.spgemm.proofs.DenseLaws.{below_width}
use Rattle.spgemm.proofs.dense.sum_densely.Goals as goal

pub add_terms-requires-clause-inside : goal.add_terms-requires-clause-inside
add_terms-requires-clause-inside c = rw c.requires.terms.are_those (below_width c.args.semiring.multiply _ c.args.b.now (length c.args.sums.now) c.requires.inside)
