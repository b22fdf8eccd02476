use Rattle.std.proofs.Common.{◌≡◌, ◌∙◌, ◌+◌, ◌<◌, ◌^◌, ap, arith, length, sym}
use Rattle.std.proofs.lemmas.Bool.Decides.{nat_tests}
use Rattle.store.specs.declared.blocks.RowSpan.{RowSpan}
use Rattle.store.specs.Blocks.{entries_in_parts}
use Rattle.store.specs.Stored.{AreIn, IsBlock, IsStored}
use Rattle.store.proofs.BlockLaws.{block_stored, count_stored, parts_pushed, parts_stored}
use Rattle.store.proofs.SpanLaws.{spans_pushed}
use Rattle.store.proofs.blocks.Blocks.push.Goals as goal

pub invariant_of-self-else-is_err : goal.invariant_of-self-else-is_err
invariant_of-self-else-is_err c =
    let b = c.self.inside in
    let parts = b.parts.items in
    let part = c.from_block-part in
    let block = c.args.block in
    let rows_are : b.rows ≡ c.args.self.now.rows = ap (λ s. s.rows) c.self.view_is in
    let cols_are : b.cols ≡ c.args.self.now.cols = ap (λ s. s.cols) c.self.view_is in
    let entries_are : entries_in_parts parts ≡ c.args.self.now.entries = ap (λ s. s.entries) c.self.view_is in
    let same_cols : block.cols ≡ b.cols = c.requires.cols ∙ sym cols_are in
    let past = c.requires.past in
    let in_rows : IsBlock block.first block.past b.cols part.result.entries = rw (part.ensures.entries, ← same_cols) part.ensures.block in
    let front : AreIn 0 block.first b.cols (entries_in_parts parts) = rw (entries_are, cols_are) c.requires.front in
    let old = parts_stored b.rows b.cols parts c.self.invariant.are.each c.self.invariant.are.apart in
    let count : c.nvals.result ≡ length (entries_in_parts parts) = c.nvals.ensures ∙ rw (← c.self.view_is) (count_stored b.rows b.cols (entries_in_parts parts) old) in
    let new : IsStored b.rows b.cols part.result.entries = block_stored b.rows b.cols block.first block.past part.result.entries (omega arith) in_rows in
    let part_rows : part.result.rows ≡ b.rows = part.ensures.rows in
    let part_cols : part.result.cols ≡ b.cols = part.ensures.cols ∙ same_cols in
    let added : c.nvals-2.result ≡ length part.result.entries = rw (part_rows, part_cols) at c.nvals-2.ensures ∙ count_stored b.rows b.cols part.result.entries new in
    let sum = c.checked_add.ensures in
    let none = c.is_none.ensures in
    let test = c.if-is_none.false in
    let fits : length (entries_in_parts parts) + length part.result.entries < 2 ^ 64 = rw (← count, ← added) (grind (arith, nat_tests)) in
    let span : RowSpan = record { first = c.first.result; past = c.past.result } in
    let put = rw c.if-is_err.ensures.negation at c.push-2.ensures.items in
    let more = parts_pushed b.rows b.cols block.first block.past parts part.result c.self.invariant.are part.ensures.rows (part.ensures.cols ∙ same_cols) (omega arith) in_rows front fits in
    rw (c.in_ok-push.ensures.items, put) (spans_pushed b.rows b.cols b.spans.items parts span part.result c.self.invariant more (rw (c.first.ensures, c.past.ensures) in_rows))
