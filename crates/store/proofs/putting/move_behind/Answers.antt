use Rattle.std.proofs.Common.{◌∙◌, ap}
use Rattle.store.specs.Puts.{around}
use Rattle.store.proofs.PutLaws.{around_moved}
use Rattle.store.proofs.putting.move_behind.Goals as goal

pub returns-then-gap-gt0-clause-around : goal.returns-then-gap-gt0-clause-around
returns-then-gap-gt0-clause-around c =
    let at = c.args.at in
    ap (around at c.args.gap) c.copy_within.ensures.after ∙ around_moved at c.args.left c.args.gap c.args.list.now c.requires.low c.requires.inside
