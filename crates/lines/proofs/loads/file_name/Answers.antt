-- The bytes of a file's name are text.
use Rattle.std.proofs.Common.{◌≡◌, true, rules}
use Rattle.std.specs.Str.{IsUtf8}
use Rattle.model.specs.Grammar.{is_file_name}
use Rattle.lines.proofs.LoadLaws.{IsUtf8-file_name}
use Rattle.lines.proofs.Names.{IsOk-where}
use Rattle.lines.proofs.loads.file_name.Goals as goal

pub unwrap-requires : goal.unwrap-requires
unwrap-requires c =
    let named : is_file_name c.args.word.now ≡ true = search rules in
    IsOk-where _ _ (IsUtf8 c.args.word.now) c.from_utf8.result c.from_utf8.ensures.cases (IsUtf8-file_name c.args.word.now named)
