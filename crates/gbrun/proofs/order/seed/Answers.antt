use Rattle.std.proofs.Common.{rules}
use Rattle.gbrun.proofs.order.seed.Goals as goal
use Rattle.gbrun.proofs.Seeds.{result_ok-parse}

pub returns : goal.returns
returns c = search (rules, result_ok-parse c.args.digits.now c.parse.result c.parse.ensures.value.0)
