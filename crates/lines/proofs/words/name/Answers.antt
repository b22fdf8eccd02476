-- The bytes of a name are text.
use Rattle.std.proofs.Common.{◌≡◌, true, rules}
use Rattle.std.specs.Str.{IsUtf8}
use Rattle.model.specs.Grammar.{is_name}
use Rattle.lines.proofs.Names.{IsOk-where, IsUtf8-name}
use Rattle.lines.proofs.words.name.Goals as goal

pub unwrap-requires : goal.unwrap-requires
unwrap-requires c =
    let named : is_name c.args.word.now ≡ true = search rules in
    IsOk-where _ _ (IsUtf8 c.args.word.now) c.from_utf8.result c.from_utf8.ensures.cases (IsUtf8-name c.args.word.now named)
