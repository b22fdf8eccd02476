use mir.Val.{bool_byte}
use Rattle.std.proofs.Common.{◌≡◌, ◌&&◌, ◌∙◌, ap, arith, false, length, ltb}
use Rattle.std.specs.Vec.{vec_len, with_items}
use Rattle.std.proofs.lemmas.Bool.Decides.{nat_tests}
use Rattle.std.proofs.lemmas.List.{with_items_is}
use Rattle.lanes.specs.Bits.{has_bit}
use Rattle.bitmap.specs.Bitmaps.{place_of}
use Rattle.bitmap.proofs.KeptPlaces.{places_removed, was_counted}
use Rattle.bitmap.proofs.PlaceLaws.{cleared, removed_is, removed_outside}
use Rattle.bitmap.proofs.bitmap.Bitmap.remove.Goals as goal
use Rattle.bitmap.proofs.bitmap.Bitmap.remove.Goals.{else-i-self-via-then-i-self+else-j-self, else-i-self-via-else-i-self}

pub overflow_sub-self : goal.overflow_sub-self
overflow_sub-self c =
    let s = c.self.inside in
    let at = place_of s.cols c.args.i c.args.j in
    let place_is : c.place-at.result ≡ place_of s.cols c.args.i c.args.j = rw (← c.self.view_is) at c.place-at.ensures.is in
    let less : c.from.result ≡ bool_byte (has_bit s.bits.items at) = c.from.ensures ∙ ap bool_byte (c.has_bit.ensures ∙ ap (λ bs. has_bit bs c.place-at.result) c.deref.ensures.value ∙ ap (has_bit s.bits.items) place_is) in
    rw less (was_counted s.rows s.cols s.count c.args.i c.args.j s.bits.items s.words.items c.self.invariant (omega (arith, c.if-i-self.true)) (omega (arith, c.if-j-self.true)))

pub invariant_of-self : goal.invariant_of-self
invariant_of-self c =
    let s = c.self.inside in
    let at = place_of s.cols c.args.i c.args.j in
    let place_is : c.place-at.result ≡ place_of s.cols c.args.i c.args.j = rw (← c.self.view_is) at c.place-at.ensures.is in
    let long : length c.clear_bit.new.bits ≡ vec_len s.bits = omega arith in
    let back = with_items_is s.bits c.clear_bit.new.bits long in
    let gone = cleared at c.place-at.result s.bits.items c.deref_mut.result.now c.clear_bit.new.bits (with_items s.bits c.clear_bit.new.bits).items place_is c.deref_mut.ensures.value c.clear_bit.ensures back in
    let same : length (with_items s.bits c.clear_bit.new.bits).items ≡ length s.bits.items = ap length back ∙ long ∙ s.bits.ok.0 in
    let less : c.from.result ≡ bool_byte (has_bit s.bits.items at) = c.from.ensures ∙ ap bool_byte (c.has_bit.ensures ∙ ap (λ bs. has_bit bs c.place-at.result) c.deref.ensures.value ∙ ap (has_bit s.bits.items) place_is) in
    rw less (places_removed s.rows s.cols s.count c.args.i c.args.j s.bits.items s.words.items (with_items s.bits c.clear_bit.new.bits).items c.self.invariant (omega (arith, c.if-i-self.true)) (omega (arith, c.if-j-self.true)) gone same)

pub returns-then-j-self-clause-content : goal.returns-then-j-self-clause-content
returns-then-j-self-clause-content c =
    let s = c.self.inside in
    let at = place_of s.cols c.args.i c.args.j in
    let place_is : c.place-at.result ≡ place_of s.cols c.args.i c.args.j = rw (← c.self.view_is) at c.place-at.ensures.is in
    let long : length c.clear_bit.new.bits ≡ vec_len s.bits = omega arith in
    let gone = cleared at c.place-at.result s.bits.items c.deref_mut.result.now c.clear_bit.new.bits (with_items s.bits c.clear_bit.new.bits).items place_is c.deref_mut.ensures.value c.clear_bit.ensures (with_items_is s.bits c.clear_bit.new.bits long) in
    rw (← c.self.view_is) (removed_is s.rows s.cols c.args.i c.args.j s.bits.items s.words.items (with_items s.bits c.clear_bit.new.bits).items (omega (arith, c.if-j-self.true)) gone (omega (arith, c.if-i-self.true)))

pub returns-else-i-self-clause-content : goal.returns-else-i-self-clause-content
returns-else-i-self-clause-content c =
    let s = c.self.inside in
    rw (← c.self.view_is) (elim c.else-i-self.branch [
      | else-i-self-via-then-i-self+else-j-self w ↦ let out : (ltb c.args.i s.rows && ltb c.args.j s.cols) ≡ false = grind (arith, nat_tests, w.if-j-self.false) in removed_outside s.rows s.cols c.args.i c.args.j s.bits.items s.words.items out
      | else-i-self-via-else-i-self w ↦ let out : (ltb c.args.i s.rows && ltb c.args.j s.cols) ≡ false = grind (arith, nat_tests, w.if-i-self.false) in removed_outside s.rows s.cols c.args.i c.args.j s.bits.items s.words.items out
    ])
