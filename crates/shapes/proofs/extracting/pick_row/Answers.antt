use Rattle.shapes.proofs.PickLaws.{ok_closed}
use Rattle.shapes.proofs.extracting.pick_row.Goals as goal

pub returns : goal.returns
returns c = ok_closed c.args.index c.args.row_cols.now c.args.words.now c.args.cols.now c.args.lists.now c.pick_words.new.lists c.close.new.self c.close.result c.in_ok-pick_words.ensures c.close.ensures.inner c.close.ensures.words c.close.ensures.ends
