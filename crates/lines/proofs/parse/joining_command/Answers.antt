-- What the operation is.
use Rattle.std.proofs.Common.{None, map, sym}
use Rattle.lines.specs.Joining.{joining_word}
use Rattle.lines.proofs.RowLaws.{joined_command}
use Rattle.lines.proofs.parse.joining_command.Goals as goal

pub returns : goal.returns
returns c = joined_command (map (λ word. word.now) c.args.words.now) (joining_word c.args.joining) c.requires.word c.requires.joins _ (sym c.in-Some.ensures)

pub returns-in_default : goal.returns-in_default
returns-in_default c = joined_command (map (λ word. word.now) c.args.words.now) (joining_word c.args.joining) c.requires.word c.requires.joins None (sym c.in_default.ensures)
