use Rattle.std.proofs.Common.{◌≡◌, ◌^◌, ◌*◌, ◌%◌, ◌-◌, ◌<◌, arith, false, inl, inr, ltb, refl, true}
use Rattle.std.proofs.Math.Pow.{pow-lt}
use Rattle.std.proofs.lemmas.Bool.{cases_lt}
use Rattle.std.proofs.lemmas.Bool.Decides.{nat_tests}
use Rattle.std.proofs.lemmas.Nat.Bits.{bit_at_ones, bit_at_ones_above}
use Rattle.lanes.proofs.bits.lowest_bits.Goals as goal

pub returns-then-count-lt64 : goal.returns-then-count-lt64
returns-then-count-lt64 c = λ k small.
    let n = c.args.count in
    let less : 2 ^ n < 2 ^ 64 = pow-lt {j = 64} (omega (arith, c.if-count-lt64.true)) in
    let fits : 2 ^ n < 18446744073709551616 = less in
    let is : 1 * 2 ^ n % 18446744073709551616 - 1 ≡ 2 ^ n - 1 = omega arith in
    elim (cases_lt k n) [
      | inl low ↦ let yes : ltb k n ≡ true = grind (arith, nat_tests) in rw (is, bit_at_ones n k low, yes) refl
      | inr high ↦ let no : ltb k n ≡ false = grind (arith, nat_tests) in rw (is, bit_at_ones_above n k high, no) refl
    ]

pub returns-else-count-lt64 : goal.returns-else-count-lt64
returns-else-count-lt64 c = λ k small.
    let low : k < c.args.count = omega (arith, c.if-count-lt64.false) in
    let yes : ltb k c.args.count ≡ true = grind (arith, nat_tests) in
    rw (bit_at_ones 64 k small, yes) refl
