-- What is copied is the run, and what it is copied over is the gap.
use Rattle.store.proofs.PutLaws.{around_copied}
use Rattle.store.proofs.putting.move_part.Goals as goal

pub returns-clause-around : goal.returns-clause-around
returns-clause-around c =
    let parts = c.split_at_mut-low in
    around_copied c.args.from c.args.end c.args.gap c.args.list.now parts.result.0.now parts.result.1.now c.copy_from_slice.new.self
    c.requires.low c.requires.fits c.requires.inside parts.ensures.front parts.ensures.back c.copy_from_slice.ensures.after
