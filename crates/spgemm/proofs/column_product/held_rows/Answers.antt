use Rattle.spgemm.proofs.ColumnRows.{column_lets}
use Rattle.spgemm.proofs.SlotRows.{counted_slots}
use Rattle.spgemm.proofs.column_product.held_rows.Goals as goal

pub returns-clause-rising : goal.returns-clause-rising
returns-clause-rising c =
    (counted_slots c.args.mask.test.valued 0 c.column_in.result.0.now c.column_in.result.1.now c.hold.new.self.cols.items c.column_in.ensures.rising c.in_ok-hold.ensures.cols).rising

pub returns-clause-held : goal.returns-clause-held
returns-clause-held c = λ i low high.
    let mask = c.args.mask in
    let rows = c.column_in.result.0.now in
    let words = c.column_in.result.1.now in
    let slots = c.hold.new.self.cols.items in
    column_lets mask c.args.range.now.start c.args.range.now.end rows words slots i low high c.column_in.ensures.entries (counted_slots mask.test.valued 0 rows words slots c.column_in.ensures.rising c.in_ok-hold.ensures.cols)
