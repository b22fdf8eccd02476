use Rattle.bitmap.specs.Bitmaps.{held}
use Rattle.bitmap.proofs.OrderLaws.{entries_inside}
use Rattle.bitmap.proofs.bitmap.Bitmap.row_parts.Goals as goal

pub returns-clause-inside : goal.returns-clause-inside
returns-clause-inside c =
    let s = c.self.inside in
    rw (← c.self.view_is) (entries_inside s.rows s.cols (held s.cols s.bits.items s.words.items))
