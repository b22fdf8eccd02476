-- A number of 64 bits has at most 20 digits.
use Rattle.std.proofs.Common.{◌≤◌, arith, decimal, length}
use Rattle.std.proofs.lemmas.Fmt.{length-decimal-le}
use Rattle.mmio.proofs.texts.put_number.Goals as goal

pub write_digits-requires : goal.write_digits-requires
write_digits-requires c =
    let most : length (decimal c.args.number) ≤ 20 = length-decimal-le 20 c.args.number (omega arith) (omega arith) (omega arith) in
    (omega arith, omega arith)

pub returns-clause-few : goal.returns-clause-few
returns-clause-few c =
    let most : length (decimal c.args.number) ≤ 20 = length-decimal-le 20 c.args.number (omega arith) (omega arith) (omega arith) in
    omega (arith, c.write_digits.ensures.start)

pub returns-clause-fewer : goal.returns-clause-fewer
returns-clause-fewer c = λ small.
    let most : length (decimal c.args.number) ≤ 19 = length-decimal-le 19 c.args.number (omega arith) small (omega arith) in
    omega (arith, c.write_digits.ensures.start)
