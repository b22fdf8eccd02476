-- More digits write no less, so a part that is too large says that all is.
use Rattle.std.proofs.Common.{◌≡◌, ◌^◌, ◌≤◌, arith, refl}
use Rattle.std.proofs.lemmas.List.{take_all}
use Rattle.model.specs.Grammar.{digits_value}
use Rattle.mmio.proofs.DigitLaws.{in_64_bits-none, in_64_bits-some, digits_value-next}
use Rattle.mmio.proofs.digits.long_value.Goals as goal

pub returns-in_err-checked_mul : goal.returns-in_err-checked_mul
returns-in_err-checked_mul c =
    let next = digits_value-next c.args.word.now c.loop-byte.byte-index (omega arith) in
    let large : 2 ^ 64 ≤ digits_value c.args.word.now = grind arith in
    let none = in_64_bits-none _ large in
    cc

pub returns-in_err-value : goal.returns-in_err-value
returns-in_err-value c =
    let next = digits_value-next c.args.word.now c.loop-byte.byte-index (omega arith) in
    let large : 2 ^ 64 ≤ digits_value c.args.word.now = grind arith in
    let none = in_64_bits-none _ large in
    cc

pub returns : goal.returns
returns c =
    let all = take_all c.loop-byte.byte-index c.args.word.now (omega arith) in
    let value : digits_value c.args.word.now ≡ c.loop-byte.value = grind arith in
    let some = in_64_bits-some c.loop-byte.value (omega arith) in
    rw (value, some) refl
