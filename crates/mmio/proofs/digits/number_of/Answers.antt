-- The digits up to the byte that was asked for.
use Rattle.std.proofs.Common.{arith}
use Rattle.std.proofs.lemmas.Bool.Decides.{nat_tests}
use Rattle.std.proofs.lemmas.List.{take_rest}
use Rattle.mmio.proofs.UsualLaws.{number_before_at, number_behind}
use Rattle.mmio.proofs.digits.number_of.Goals as goal
use Rattle.mmio.proofs.digits.number_of.Goals.{then-count-eq0-via-then-count-eq0, then-count-eq0-via-else-count-eq0+then-count-gt-MOST_SHORT, then-count-eq0-via-else-count-eq0+else-count-gt-MOST_SHORT+then-count-text, then-count-eq0-via-else-count-eq0+else-count-gt-MOST_SHORT+else-count-text+then-text-count}

pub returns-clause-number : goal.returns-clause-number
returns-clause-number c =
    let found = c.requires in
    rw take_rest (number_before_at c.args.text.now c.args.count c.args.end c.args.value
    (grind (arith, nat_tests)) (grind (arith, nat_tests)) (grind (arith, nat_tests)) found.digits (grind (arith, nat_tests)) found.value)

pub returns-then-count-eq0-clause-none : goal.returns-then-count-eq0-clause-none
returns-then-count-eq0-clause-none c = λ digits rest parts are other.
    let found = c.requires in
    let behind = number_behind c.args.text.now c.args.count c.args.end digits rest found.within found.digits found.ends parts are other in
    let same = behind.0 in
    let some = behind.1 in
    let inside = behind.2 in
    let byte = behind.3 in
    elim c.then-count-eq0.branch [
      | then-count-eq0-via-then-count-eq0 w ↦ grind (arith, nat_tests)
      | then-count-eq0-via-else-count-eq0+then-count-gt-MOST_SHORT w ↦ grind (arith, nat_tests)
      | then-count-eq0-via-else-count-eq0+else-count-gt-MOST_SHORT+then-count-text w ↦ grind (arith, nat_tests)
      | then-count-eq0-via-else-count-eq0+else-count-gt-MOST_SHORT+else-count-text+then-text-count w ↦ grind (arith, nat_tests)
    ]
