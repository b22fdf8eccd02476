-- A fourth part is one too many.
use Rattle.std.proofs.Common.{sym}
use Rattle.lines.proofs.Splits.{semiring_name_of-four_parts}
use Rattle.lines.proofs.kinds.semiring_name.Goals as goal

pub returns-in-Some : goal.returns-in-Some
returns-in-Some c = sym (semiring_name_of-four_parts c.args.word.now c.in_ok-add.rest.now c.in_ok-multiply.domain.now c.in-Some.field-0.1.now c.in_ok-add.add.now c.in_ok-multiply.multiply.now c.in-Some.field-0.0.now c.in_ok-add.ensures.parts c.in_ok-multiply.ensures.parts c.in-Some.ensures.parts)
