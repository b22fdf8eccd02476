use mir.Val.{bool_byte}
use Rattle.std.proofs.Common.{◌≡◌, ◌<◌, ◌∙◌, ap, arith, length, not}
use Rattle.std.specs.Vec.{vec_len, with_items, with_item}
use Rattle.std.proofs.lemmas.List.{with_items_is}
use Rattle.lanes.specs.Bits.{has_bit}
use Rattle.bitmap.specs.Bitmaps.{place_of}
use Rattle.bitmap.proofs.KeptPlaces.{byte_most, few, places_set}
use Rattle.bitmap.proofs.PlaceLaws.{place_inside, set_is, set_written}
use Rattle.bitmap.proofs.bitmap.Bitmap.set.Goals as goal

pub overflow_add-self : goal.overflow_add-self
overflow_add-self c =
    let s = c.self.inside in
    let most = few s.rows s.cols s.count s.bits.items s.words.items c.self.invariant in
    let one = byte_most (not c.has_bit.result) in
    let is = c.from.ensures in
    omega arith

pub invariant_of-self : goal.invariant_of-self
invariant_of-self c =
    let s = c.self.inside in
    let at = place_of s.cols c.args.i c.args.j in
    let place_is : c.place-at.result ≡ place_of s.cols c.args.i c.args.j = rw (← c.self.view_is) at c.place-at.ensures.is in
    let row : c.args.i < s.rows = rw (← c.self.view_is) at c.requires.row in
    let col : c.args.j < s.cols = rw (← c.self.view_is) at c.requires.col in
    let long : length c.set_bit.new.bits ≡ vec_len s.bits = omega arith in
    let inside = place_inside s.rows s.cols c.args.i c.args.j row col in
    let each = c.self.invariant.word_each in
    let back = with_items_is s.bits c.set_bit.new.bits long in
    let put = set_written at c.args.word c.place-at.result s.bits.items s.words.items c.deref_mut.result.now c.set_bit.new.bits (with_items s.bits c.set_bit.new.bits).items place_is (omega arith) c.deref_mut.ensures.value c.set_bit.ensures.bit back in
    let same : length (with_items s.bits c.set_bit.new.bits).items ≡ length s.bits.items = ap length back ∙ long ∙ s.bits.ok.0 in
    let more : c.from.result ≡ bool_byte (not (has_bit s.bits.items at)) = c.from.ensures ∙ ap (λ b. bool_byte (not b)) (c.has_bit.ensures ∙ ap (λ bs. has_bit bs c.place-at.result) c.deref.ensures.value ∙ ap (has_bit s.bits.items) place_is) in
    rw more (places_set s.rows s.cols s.count c.args.i c.args.j c.args.word s.bits.items s.words.items (with_items s.bits c.set_bit.new.bits).items (with_item s.words c.place-at.result c.args.word).items c.self.invariant row col put same)

pub returns-clause-content : goal.returns-clause-content
returns-clause-content c =
    let s = c.self.inside in
    let at = place_of s.cols c.args.i c.args.j in
    let place_is : c.place-at.result ≡ place_of s.cols c.args.i c.args.j = rw (← c.self.view_is) at c.place-at.ensures.is in
    let row : c.args.i < s.rows = rw (← c.self.view_is) at c.requires.row in
    let col : c.args.j < s.cols = rw (← c.self.view_is) at c.requires.col in
    let long : length c.set_bit.new.bits ≡ vec_len s.bits = omega arith in
    let inside = place_inside s.rows s.cols c.args.i c.args.j row col in
    let each = c.self.invariant.word_each in
    let put = set_written at c.args.word c.place-at.result s.bits.items s.words.items c.deref_mut.result.now c.set_bit.new.bits (with_items s.bits c.set_bit.new.bits).items place_is (omega arith) c.deref_mut.ensures.value c.set_bit.ensures.bit (with_items_is s.bits c.set_bit.new.bits long) in
    rw (← c.self.view_is) (set_is s.rows s.cols c.args.i c.args.j c.args.word s.bits.items s.words.items (with_items s.bits c.set_bit.new.bits).items (with_item s.words c.place-at.result c.args.word).items col put row)
