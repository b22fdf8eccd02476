-- The row of the word that was found, or those of operations that name no region.
use Rattle.std.proofs.Common.{◌∙◌, codes, rules, sym}
use Rattle.model.specs.Grammar.{operations}
use Rattle.lines.proofs.RowLaws.{read_or_syntax, said_as, said_of_one}
use Rattle.lines.proofs.operations.operation.Goals as goal

pub returns-then-eq-3 : goal.returns-then-eq-3
returns-then-eq-3 c = said_as operations _ c.args.called.now (codes "fill") _ c.fill.result (search rules) c.fill.ensures

pub returns : goal.returns
returns c = read_or_syntax _ _ c.of_one.result _ c.ok_or.ensures.value (c.of_one.ensures ∙ sym (said_of_one c.args.called.now _ c.requires (search rules) (search rules) (search rules)))
