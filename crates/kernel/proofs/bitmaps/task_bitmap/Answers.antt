-- What is computed is written everywhere.
use Rattle.kernel.proofs.BitmapLaws.{all-written}
use Rattle.kernel.proofs.bitmaps.task_bitmap.Goals as goal

pub returns : goal.returns
returns g c =
    let had = c.in_ok-computed.ensures in
    let left = c.in_ok-written.ensures in
    all-written c.args.task.now c.in-Some.writing c.in-Some-2.computed c.in_ok-written.written c.in-Some.ensures
    (rw c.in-Some-2.is at had.region) c.rows.ensures.inside (rw c.in-Some-2.is at had.all) left.rows left.cols left.content
