use Rattle.std.proofs.Common.{◌≡◌, ◌∙◌, length}
use Rattle.std.specs.Prelude.{replicate}
use Rattle.shapes.proofs.FillLaws.{column_filled}
use Rattle.shapes.proofs.filling.fill_column.Goals as goal

pub returns : goal.returns
returns c =
    let words : c.deref.result.now ≡ replicate (length c.args.rows.now) c.args.word = c.deref.ensures.value ∙ c.in_ok-words.ensures in
    column_filled c.args.rows.now c.args.word c.new-lists.result c.put_row.new.lists c.requires c.new-lists.ensures.ends c.new-lists.ensures.inner c.new-lists.ensures.words (rw words at c.in_ok-put_row.ensures)
