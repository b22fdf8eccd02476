-- The row of the word that was found, or none.
use Rattle.std.proofs.Common.{codes, rules, sym}
use Rattle.model.specs.Grammar.{operations_of_one, said_by}
use Rattle.lines.proofs.RowLaws.{none_said, said_same}
use Rattle.lines.proofs.operations.of_one.Goals as goal

pub returns-then-eq : goal.returns-then-eq
unfolding said_by
returns-then-eq c = said_same operations_of_one c.args.called.now (codes "apply") _ _ (search rules) c.apply.ensures

pub returns-then-eq-2 : goal.returns-then-eq-2
unfolding said_by
returns-then-eq-2 c = said_same operations_of_one c.args.called.now (codes "applyindex") _ _ (search rules) c.apply_index.ensures

pub returns-then-eq-3 : goal.returns-then-eq-3
unfolding said_by
returns-then-eq-3 c = said_same operations_of_one c.args.called.now (codes "applyfirst") _ _ (search rules) c.apply_first.ensures

pub returns-then-eq-4 : goal.returns-then-eq-4
unfolding said_by
returns-then-eq-4 c = said_same operations_of_one c.args.called.now (codes "applysecond") _ _ (search rules) c.apply_second.ensures

pub returns-then-eq-5 : goal.returns-then-eq-5
unfolding said_by
returns-then-eq-5 c = said_same operations_of_one c.args.called.now (codes "select") _ _ (search rules) c.select.ensures

pub returns-then-eq-6 : goal.returns-then-eq-6
unfolding said_by
returns-then-eq-6 c = said_same operations_of_one c.args.called.now (codes "reducerows") _ _ (search rules) c.reduce_rows.ensures

pub returns-then-eq-7 : goal.returns-then-eq-7
unfolding said_by
returns-then-eq-7 c = said_same operations_of_one c.args.called.now (codes "transpose") _ _ (search rules) c.transpose.ensures

pub returns : goal.returns
returns c = sym (none_said operations_of_one c.args.called.now _ (search rules))
