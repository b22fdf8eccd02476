-- No words are no load.
use Rattle.std.proofs.Common.{rules, sym}
use Rattle.lines.proofs.LoadLaws.{no_words}
use Rattle.lines.proofs.loads.is_load.Goals as goal

pub returns-then-is_empty : goal.returns-then-is_empty
returns-then-is_empty c = sym (no_words (λ word. word.now) c.args.words.now (search rules))
