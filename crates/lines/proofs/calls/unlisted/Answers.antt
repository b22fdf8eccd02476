-- The calls that are left are those of a name alone.
use Rattle.std.proofs.Common.{◌∙◌, map, rules, sym}
use Rattle.lines.proofs.RowLaws.{said_bare}
use Rattle.lines.proofs.calls.unlisted.Goals as goal

pub returns : goal.returns
returns c =
    c.bare.ensures
    ∙ sym (said_bare c.args.called.now (map (λ word. word.now) c.args.words.now) (search rules) (search rules) (search rules) (search rules) (search rules) (search rules) (search rules) (search rules) (search rules) (search rules))
