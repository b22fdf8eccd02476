-- A third part is one too many.
use Rattle.std.proofs.Common.{sym}
use Rattle.lines.proofs.Splits.{dotted_of-three_parts}
use Rattle.lines.proofs.kinds.dotted.Goals as goal

pub returns-in-Some : goal.returns-in-Some
returns-in-Some c = sym (dotted_of-three_parts c.args.word.now c.in_ok-name.domain.now c.in-Some.field-0.1.now c.in_ok-name.name.now c.in-Some.field-0.0.now c.in_ok-name.ensures.parts c.in-Some.ensures.parts)
