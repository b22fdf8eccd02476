use Rattle.std.proofs.Common.{◌≡◌, ◌<◌, ◌+◌, ◌-◌, ◌&&◌, arith, bit_and, false, ltb}
use Rattle.std.proofs.lemmas.Bool.Decides.{nat_tests}
use Rattle.bitmap.specs.Bitmaps.{place_of}
use Rattle.bitmap.proofs.PlaceLaws.{none_outside}
use Rattle.bitmap.proofs.RowLaws.{row_bits, row_held, row_inside}
use Rattle.bitmap.proofs.bitmap.Bitmap.row_from.Goals as goal
use Rattle.bitmap.proofs.bitmap.Bitmap.row_from.Goals.{then-i-self-via-then-i-self, then-i-self-via-else-i-self+then-j-self}
use Rattle.std.proofs.lemmas.Nat.Bits.{bit_at-zero}

pub returns-then-i-self-clause-content : goal.returns-then-i-self-clause-content
returns-then-i-self-clause-content c = λ k small.
    let s = c.self.inside in
    let out : (ltb c.args.i s.rows && ltb (c.args.j + k) s.cols) ≡ false = elim c.then-i-self.branch [
      | then-i-self-via-then-i-self w ↦ grind (arith, nat_tests, w.if-i-self.true)
      | then-i-self-via-else-i-self+then-j-self w ↦ grind (arith, nat_tests, w.if-j-self.true)
    ] in
    rw (← c.self.view_is, bit_at-zero k) (none_outside s.rows s.cols s.bits.items s.words.items c.args.i (c.args.j + k) out)

pub returns-clause-content : goal.returns-clause-content
returns-clause-content c =
    let s = c.self.inside in
    let i = c.args.i in
    let j = c.args.j in
    let row : i < s.rows = omega (arith, c.if-i-self.false) in
    let col : j < s.cols = omega (arith, c.if-j-self.false) in
    let place_is : c.place-at.result ≡ place_of s.cols i j = rw (← c.self.view_is) at c.place-at.ensures.is in
    let bits_are = row_bits s.bits.items c.deref.result.now c.bits_from.result c.lowest_bits.result (place_of s.cols i j) c.place-at.result (s.cols - j) c.deref.ensures.value place_is c.bits_from.ensures c.lowest_bits.ensures in
    rw (← c.self.view_is, c.deref-2.ensures.value, place_is) (λ k small. row_held s.rows s.cols i j k (bit_and c.bits_from.result c.lowest_bits.result) s.bits.items s.words.items row col (bits_are k small))

pub returns-clause-inside : goal.returns-clause-inside
returns-clause-inside c =
    let s = c.self.inside in
    let i = c.args.i in
    let j = c.args.j in
    let row : i < s.rows = omega (arith, c.if-i-self.false) in
    let col : j < s.cols = omega (arith, c.if-j-self.false) in
    let place_is : c.place-at.result ≡ place_of s.cols i j = rw (← c.self.view_is) at c.place-at.ensures.is in
    let bits_are = row_bits s.bits.items c.deref.result.now c.bits_from.result c.lowest_bits.result (place_of s.cols i j) c.place-at.result (s.cols - j) c.deref.ensures.value place_is c.bits_from.ensures c.lowest_bits.ensures in
    rw (c.deref-2.ensures.value, place_is) (λ k small. row_inside s.rows s.cols i j k (bit_and c.bits_from.result c.lowest_bits.result) s.bits.items s.words.items c.self.invariant.word_each row col (bits_are k small))
