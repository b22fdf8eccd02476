-- The parts by the place of the first such byte.
use Rattle.std.proofs.Common.{◌==◌, sym}
use Rattle.std.proofs.lemmas.List.{take_rest}
use Rattle.lines.proofs.Splits.{one_part, first_part}
use Rattle.lines.proofs.kinds.cut.Goals as goal

pub returns-in-Some-clause-parts : goal.returns-in-Some-clause-parts
returns-in-Some-clause-parts c = rw take_rest (first_part (λ b. b == c.args.byte) c.args.word.now 0 c.in-Some.at (sym c.in-Some.ensures))

pub returns-in-None-clause-parts : goal.returns-in-None-clause-parts
returns-in-None-clause-parts c = one_part (λ b. b == c.args.byte) c.args.word.now (sym c.in-None.ensures)
