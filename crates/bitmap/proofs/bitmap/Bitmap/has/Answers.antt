use Rattle.std.proofs.Common.{◌≡◌, ◌&&◌, ◌∙◌, ap, arith, false, is_some, ltb, sym}
use Rattle.std.proofs.lemmas.Bool.Decides.{nat_tests}
use Rattle.lanes.specs.Bits.{has_bit}
use Rattle.bitmap.specs.Bitmaps.{place_of}
use Rattle.bitmap.proofs.PlaceLaws.{bit_is_some, held_is, none_outside}
use Rattle.bitmap.proofs.bitmap.Bitmap.has.Goals as goal
use Rattle.bitmap.proofs.bitmap.Bitmap.has.Goals.{then-i-self-via-then-i-self, then-i-self-via-else-i-self+then-j-self}

pub returns-then-i-self : goal.returns-then-i-self
returns-then-i-self c =
    let s = c.self.inside in
    rw (← c.self.view_is) (elim c.then-i-self.branch [
      | then-i-self-via-then-i-self w ↦ let out : (ltb c.args.i s.rows && ltb c.args.j s.cols) ≡ false = grind (arith, nat_tests, w.if-i-self.true) in ap is_some (sym (none_outside s.rows s.cols s.bits.items s.words.items c.args.i c.args.j out))
      | then-i-self-via-else-i-self+then-j-self w ↦ let out : (ltb c.args.i s.rows && ltb c.args.j s.cols) ≡ false = grind (arith, nat_tests, w.if-j-self.true) in ap is_some (sym (none_outside s.rows s.cols s.bits.items s.words.items c.args.i c.args.j out))
    ])

pub returns : goal.returns
returns c =
    let s = c.self.inside in
    let bits = s.bits.items in
    let words = s.words.items in
    let at = place_of s.cols c.args.i c.args.j in
    let place_is : c.place.result ≡ place_of s.cols c.args.i c.args.j = rw (← c.self.view_is) at c.place.ensures.is in
    let bit : c.has_bit.result ≡ has_bit bits at = c.has_bit.ensures ∙ ap (λ bs. has_bit bs c.place.result) c.deref.ensures.value ∙ ap (has_bit bits) place_is in
    let is = held_is s.rows s.cols bits words c.args.i c.args.j (omega (arith, c.if-i-self.false)) (omega (arith, c.if-j-self.false)) in
    rw (← c.self.view_is) (bit ∙ sym (ap is_some is ∙ bit_is_some bits words at))
