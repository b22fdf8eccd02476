use Rattle.std.proofs.Common.{◌∙◌, ap}
use Rattle.lanes.specs.Lists.{fold_of}
use Rattle.bitmap.proofs.PlacedEntries.{present_are}
use Rattle.bitmap.proofs.bitmap.Bitmap.fold.Goals as goal

pub returns : goal.returns
returns c =
    let s = c.self.inside in
    let m = c.args.monoid in
    rw (← c.self.view_is) (c.fold_present.ensures ∙ rw (c.deref.ensures.value, c.deref-2.ensures.value) (ap (fold_of m.kind m.op.domain) (present_are s.rows s.cols s.bits.items s.words.items c.self.invariant.word_each)))
