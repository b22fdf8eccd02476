use Rattle.std.proofs.Common.{◌≡◌, ◌*◌, ◌∙◌, get_or, length, refl, sym}
use Rattle.std.specs.List.{each_same}
use Rattle.bitmap.proofs.KernelLaws.{kept_of, places_kept}
use Rattle.bitmap.proofs.bitmap.Bitmap.with_words.Goals as goal

pub invariant_of-result : goal.invariant_of-result
invariant_of-result c =
    let s = c.self.inside in
    let bits : c.in_ok-bits.bits.items ≡ s.bits.items = each_same s.bits.items c.in_ok-bits.bits.items c.in_ok-bits.ensures.cases.0 in
    let long : length c.args.words.items ≡ s.rows * s.cols = rw (← c.self.view_is) at c.requires in
    rw bits (places_kept s.rows s.cols s.count s.bits.items s.words.items c.args.words.items c.self.invariant (long ∙ sym c.self.invariant.word_each))

pub returns-clause-content : goal.returns-clause-content
returns-clause-content c =
    let s = c.self.inside in
    let bits : c.in_ok-bits.bits.items ≡ s.bits.items = each_same s.bits.items c.in_ok-bits.bits.items c.in_ok-bits.ensures.cases.0 in
    rw (← c.self.view_is, bits) (kept_of s.rows s.cols s.bits.items s.words.items c.args.words.items (λ at word. get_or c.args.words.items at 0) (λ at within. refl))
