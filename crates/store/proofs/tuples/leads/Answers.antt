-- What goes on from the first entry of rows goes on from all.
use Rattle.store.specs.Fibers.{entries_in}
use Rattle.store.proofs.JoinLaws.{before_first, before_its_first}
use Rattle.store.proofs.tuples.leads.Goals as goal

pub returns-in-Some-clause-yes : goal.returns-in-Some-clause-yes
returns-in-Some-clause-yes c is =
    before_first (entries_in c.args.rows.now) (entries_in c.args.more.now) c.in-Some.first c.in-Some.ensures c.requires.more.order (c.goes_on.ensures.yes is)

pub returns-in-Some-clause-no : goal.returns-in-Some-clause-no
returns-in-Some-clause-no c is some before =
    c.goes_on.ensures.no is (before_its_first (entries_in c.args.rows.now) (entries_in c.args.more.now) c.in-Some.first c.in-Some.ensures before)
