use Rattle.std.proofs.Common.{◌≡◌, ◌≤◌, ◌∙◌, arith, get_or, length, sym}
use Rattle.std.proofs.lemmas.List.{get_or_default, get_or_past}
use Rattle.bitmap.proofs.PlaceLaws.{row_bit_of}
use Rattle.bitmap.proofs.bitmap.Bitmap.present.Goals as goal

pub returns-then-at-len : goal.returns-then-at-len
returns-then-at-len c =
    let s = c.self.inside in
    let one : s.cols ≡ 1 = rw (← c.self.view_is) at c.requires in
    let is : c.index.result.now ≡ get_or s.bits.items c.args.at 0 = c.index.ensures ∙ get_or_default s.bits.items c.args.at _ 0 (omega (arith, c.if-at-len.true, c.len.ensures, c.self.inside.bits.ok.0)) in
    rw (← c.self.view_is) (λ k small. row_bit_of s.rows s.cols s.count s.bits.items s.words.items c.args.at k c.index.result.now one c.self.invariant small is)

pub returns-else-at-len : goal.returns-else-at-len
returns-else-at-len c =
    let s = c.self.inside in
    let one : s.cols ≡ 1 = rw (← c.self.view_is) at c.requires in
    let past : length s.bits.items ≤ c.args.at = omega (arith, c.if-at-len.false, c.len.ensures) in
    rw (← c.self.view_is) (λ k small. row_bit_of s.rows s.cols s.count s.bits.items s.words.items c.args.at k 0 one c.self.invariant small (sym (get_or_past s.bits.items c.args.at 0 past)))
