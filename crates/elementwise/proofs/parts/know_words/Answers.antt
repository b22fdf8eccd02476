use Rattle.std.proofs.Common.{arith}
use Rattle.elementwise.proofs.FoldLaws.{are_small}
use Rattle.elementwise.proofs.parts.know_words.Goals as goal

pub returns : goal.returns
returns c = are_small c.args.words.now (λ k. omega (arith, c.type_inv.words k))
