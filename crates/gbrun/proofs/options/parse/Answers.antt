use Rattle.gbrun.proofs.CommandLines.{led_comes}
use Rattle.gbrun.proofs.options.parse.Goals as goal

pub returns-in-Err : goal.returns-in-Err
returns-in-Err c = led_comes _ _ c.told.result c.told.ensures c.in-Err.ensures.fails
