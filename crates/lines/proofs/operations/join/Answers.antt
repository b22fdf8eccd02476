-- Fewer words are no operation's.
use Rattle.std.proofs.Common.{arith, sym}
use Rattle.lines.proofs.RowLaws.{operate_of-few}
use Rattle.lines.proofs.operations.join.Goals as goal

pub returns-then-words-lt5 : goal.returns-then-words-lt5
returns-then-words-lt5 c = sym (operate_of-few (λ word. word.now) c.args.words.now (omega arith))
