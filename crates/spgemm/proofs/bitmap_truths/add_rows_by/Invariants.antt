use Rattle.std.proofs.Common.{◌-◌, ◌≤◌, if◌then◌else◌}
use Rattle.bitmap.specs.Bitmaps.{row_part}
use Rattle.model.specs.Entries.{word_at}
use Rattle.model.specs.Object.{transposed_content}
use Rattle.terms.specs.Terms.{terms_of_row}
use Rattle.spgemm.specs.Truths.{AreTruths}
use Rattle.spgemm.proofs.bitmap_truths.add_rows_by.Given as goal

-- the terms of the rows so far are summed
abbrev pub invariant-loop-row : goal.invariant-loop-row
invariant-loop-row l = record {
  low : l.fn.rows.start ≤ l.from;
  high : l.from ≤ l.fn.rows.end;
  sums : AreTruths l.semiring.add.op (terms_of_row l.semiring.multiply (row_part (transposed_content (word_at l.u.entries)) 0 l.fn.rows.start (l.from - l.fn.rows.start)) l.a) l.bits (if l.all_true then l.bits else l.trues);
}

abbrev pub decreases-loop-row : goal.decreases-loop-row
decreases-loop-row l = l.fn.rows.end - l.from
