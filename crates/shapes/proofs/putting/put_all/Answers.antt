use Rattle.store.specs.Stored.{content_of}
use Rattle.shapes.proofs.SideLaws.{all_put}
use Rattle.shapes.proofs.putting.put_all.Goals as goal

pub returns-clause-words : goal.returns-clause-words
returns-clause-words c i j less =
    let new = c.args.new in
    let old = c.args.old.now in
    all_put new.first new.past old.rows old.cols i j new.entries (content_of old) c.requires.end (rw c.requires.columns at c.fibers.ensures.inside) c.rows-rows.ensures.within less
