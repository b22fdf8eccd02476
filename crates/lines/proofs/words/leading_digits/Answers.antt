-- So few digits write less than 10^19, which is below 2^64.
use Rattle.std.proofs.Common.{◌<◌, ◌≤◌, ◌^◌, arith}
use Rattle.std.proofs.Math.Nat.{pow-le-pow_right}
use Rattle.lines.proofs.words.leading_digits.Goals as goal

pub overflow_mul-value : goal.overflow_mul-value
overflow_mul-value c =
    let fewer : c.loop-count.count ≤ 18 = omega (arith, c.loop-count.invariant.few, c.if-count-eq-SAFE_DIGITS.false) in
    let most : 10 ^ c.loop-count.count ≤ 10 ^ 18 = pow-le-pow_right {n = 10} (omega arith) {i = c.loop-count.count} {j = 18} fewer in
    let small : c.loop-count.value < 10 ^ c.loop-count.count = c.loop-count.invariant.small in
    omega arith

pub overflow_add-value : goal.overflow_add-value
overflow_add-value c =
    let fewer : c.loop-count.count ≤ 18 = omega (arith, c.loop-count.invariant.few, c.if-count-eq-SAFE_DIGITS.false) in
    let most : 10 ^ c.loop-count.count ≤ 10 ^ 18 = pow-le-pow_right {n = 10} (omega arith) {i = c.loop-count.count} {j = 18} fewer in
    let small : c.loop-count.value < 10 ^ c.loop-count.count = c.loop-count.invariant.small in
    let byte = c.type_inv.word c.loop-count.count in
    let digit : c.from.result < 256 = rw c.from.ensures (omega arith) in
    omega arith
