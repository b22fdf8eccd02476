-- A part of all words is that part of what they are.
use Rattle.lines.proofs.RowLaws.{middle_of-map}
use Rattle.lines.proofs.operations.middle.Goals as goal

pub returns : goal.returns
returns c = middle_of-map (λ word. word.now) c.args.words.now c.requires
