-- The line that the first line feed ends, or the whole text.
use Rattle.std.proofs.lemmas.List.{take_rest}
use Rattle.lines.proofs.LineLaws.{lines_of-first, lines_of-last}
use Rattle.lines.proofs.cutting.first_line.Goals as goal

pub returns-in-Some-clause-lines : goal.returns-in-Some-clause-lines
returns-in-Some-clause-lines c = rw (take_rest, c.without_carriage_return.ensures) (lines_of-first c.args.text.now c.in-Some.at c.in-Some.ensures)

pub returns-in-None-clause-lines : goal.returns-in-None-clause-lines
returns-in-None-clause-lines c = rw c.without_carriage_return-in-None.ensures (lines_of-last c.args.text.now c.in-None.ensures c.requires)
