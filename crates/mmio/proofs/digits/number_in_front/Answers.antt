-- The digits are the word at the front where a blank or the end follows them.
use Rattle.std.proofs.Common.{◌≡◌, take, drop, arith, true, refl}
use Rattle.std.proofs.lemmas.Bool.Decides.{nat_tests}
use Rattle.std.proofs.lemmas.List.{length-take-le}
use Rattle.mmio.specs.Fronts.{is_apart}
use Rattle.mmio.proofs.DigitLaws.{short_in_64_bits}
use Rattle.mmio.proofs.FrontLaws.{are_digits-cut, front_of-cut}
use Rattle.mmio.proofs.digits.number_in_front.Goals as goal

pub returns-then-is_empty-clause-found : goal.returns-then-is_empty-clause-found
returns-then-is_empty-clause-found c =
    let cut = are_digits-cut c.leading_digits-count.result.0 c.args.text.now c.leading_digits-count.ensures.within c.leading_digits-count.ensures.digits c.leading_digits-count.ensures.ends in
    grind (arith, nat_tests)

pub returns-then-count-le-MOST_SHORT-clause-found : goal.returns-then-count-le-MOST_SHORT-clause-found
returns-then-count-le-MOST_SHORT-clause-found c =
    let cut = are_digits-cut c.leading_digits-count.result.0 c.args.text.now c.leading_digits-count.ensures.within c.leading_digits-count.ensures.digits c.leading_digits-count.ensures.ends in
    grind (arith, nat_tests)

pub returns-then-count-le-MOST_SHORT-clause-value : goal.returns-then-count-le-MOST_SHORT-clause-value
returns-then-count-le-MOST_SHORT-clause-value c =
    let apart : is_apart (drop c.leading_digits-count.result.0 c.args.text.now) ≡ true = grind (arith, nat_tests) in
    let front = front_of-cut c.leading_digits-count.result.0 c.args.text.now c.leading_digits-count.ensures.digits apart in
    let long = length-take-le c.leading_digits-count.result.0 c.args.text.now c.leading_digits-count.ensures.within in
    let value = short_in_64_bits (take c.leading_digits-count.result.0 c.args.text.now) c.leading_digits-count.ensures.digits (omega arith) in
    rw (front.0, value, c.leading_digits-count.ensures.value) refl

pub returns-then-count-le-MOST_SHORT-clause-rest : goal.returns-then-count-le-MOST_SHORT-clause-rest
returns-then-count-le-MOST_SHORT-clause-rest c =
    let apart : is_apart (drop c.leading_digits-count.result.0 c.args.text.now) ≡ true = grind (arith, nat_tests) in
    let front = front_of-cut c.leading_digits-count.result.0 c.args.text.now c.leading_digits-count.ensures.digits apart in
    grind arith

pub returns-else-count-le-MOST_SHORT-clause-found : goal.returns-else-count-le-MOST_SHORT-clause-found
returns-else-count-le-MOST_SHORT-clause-found c =
    let cut = are_digits-cut c.leading_digits-count.result.0 c.args.text.now c.leading_digits-count.ensures.within c.leading_digits-count.ensures.digits c.leading_digits-count.ensures.ends in
    grind (arith, nat_tests)

pub returns-else-count-le-MOST_SHORT-clause-value : goal.returns-else-count-le-MOST_SHORT-clause-value
returns-else-count-le-MOST_SHORT-clause-value c =
    let apart : is_apart (drop c.leading_digits-count.result.0 c.args.text.now) ≡ true = grind (arith, nat_tests) in
    let front = front_of-cut c.leading_digits-count.result.0 c.args.text.now c.leading_digits-count.ensures.digits apart in
    grind arith

pub returns-else-count-le-MOST_SHORT-clause-rest : goal.returns-else-count-le-MOST_SHORT-clause-rest
returns-else-count-le-MOST_SHORT-clause-rest c =
    let apart : is_apart (drop c.leading_digits-count.result.0 c.args.text.now) ≡ true = grind (arith, nat_tests) in
    let front = front_of-cut c.leading_digits-count.result.0 c.args.text.now c.leading_digits-count.ensures.digits apart in
    grind arith
