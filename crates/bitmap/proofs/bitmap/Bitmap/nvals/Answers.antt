use Rattle.bitmap.specs.Bitmaps.{held}
use Rattle.bitmap.proofs.OrderLaws.{entries_inside, entries_order}
use Rattle.bitmap.proofs.bitmap.Bitmap.nvals.Goals as goal

pub returns-clause-order : goal.returns-clause-order
returns-clause-order c =
    let s = c.self.inside in
    rw (← c.self.view_is) (entries_order s.rows s.cols (held s.cols s.bits.items s.words.items))

pub returns-clause-inside : goal.returns-clause-inside
returns-clause-inside c =
    let s = c.self.inside in
    rw (← c.self.view_is) (entries_inside s.rows s.cols (held s.cols s.bits.items s.words.items))
