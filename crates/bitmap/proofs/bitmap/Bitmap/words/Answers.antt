use Rattle.bitmap.proofs.KernelLaws.{word_held}
use Rattle.bitmap.proofs.bitmap.Bitmap.words.Goals as goal

pub returns-clause-words : goal.returns-clause-words
returns-clause-words c =
    let s = c.self.inside in
    rw (← c.self.view_is, c.deref.ensures.value) (word_held s.rows s.cols s.bits.items s.words.items)
