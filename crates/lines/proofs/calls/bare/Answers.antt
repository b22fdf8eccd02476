-- The row of the word that was found, or none.
use Rattle.std.proofs.Common.{codes, rules, sym}
use Rattle.lines.specs.Meaning.{bare_calls}
use Rattle.model.specs.Grammar.{said_by}
use Rattle.lines.proofs.RowLaws.{none_said, said_same}
use Rattle.lines.proofs.calls.bare.Goals as goal

pub returns-then-eq : goal.returns-then-eq
unfolding said_by
returns-then-eq c = said_same bare_calls c.args.called.now (codes "free") _ _ (search rules) c.act.ensures

pub returns-then-eq-2 : goal.returns-then-eq-2
unfolding said_by
returns-then-eq-2 c = said_same bare_calls c.args.called.now (codes "clear") _ _ (search rules) c.act-then-eq-2.ensures

pub returns-then-eq-3 : goal.returns-then-eq-3
unfolding said_by
returns-then-eq-3 c = said_same bare_calls c.args.called.now (codes "nvals") _ _ (search rules) c.act-then-eq-3.ensures

pub returns-then-eq-4 : goal.returns-then-eq-4
unfolding said_by
returns-then-eq-4 c = said_same bare_calls c.args.called.now (codes "print") _ _ (search rules) c.act-then-eq-4.ensures

pub returns : goal.returns
returns c = sym (none_said bare_calls c.args.called.now _ (search rules))
