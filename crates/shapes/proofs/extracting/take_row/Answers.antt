use Rattle.shapes.proofs.PickLaws.{ok_taken}
use Rattle.shapes.proofs.extracting.take_row.Goals as goal

pub returns-in-Some : goal.returns-in-Some
returns-in-Some c = rw c.in-Some.ensures c.pick_row.ensures

pub returns-in-None : goal.returns-in-None
returns-in-None c = rw c.in-None.ensures (ok_taken c.args.index c.args.row_cols.now c.args.words.now c.args.lists.now c.put_row.new.lists c.put_row.result c.put_row.ensures)
