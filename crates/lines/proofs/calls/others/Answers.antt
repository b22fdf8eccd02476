-- A part of all words is that part of what they are.
use Rattle.lines.proofs.RowLaws.{drop_one-map}
use Rattle.lines.proofs.calls.others.Goals as goal

pub returns : goal.returns
returns c = drop_one-map (λ word. word.now) c.args.words.now
