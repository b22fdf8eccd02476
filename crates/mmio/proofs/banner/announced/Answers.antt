-- A banner has five words.
use Rattle.mmio.proofs.HeadLaws.{kind_announced-count}
use Rattle.mmio.proofs.banner.announced.Goals as goal

pub returns-in_default : goal.returns-in_default
returns-in_default c = kind_announced-count c.args.domain _ c.in_default.ensures
