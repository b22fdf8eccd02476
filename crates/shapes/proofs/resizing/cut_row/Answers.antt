use Rattle.std.proofs.Common.{◌≡◌, ltb, rules, true, false}
use Rattle.std.specs.List.Sorted.{IsPartitionPoint}
use Rattle.std.proofs.lemmas.List.Sorted.{IsPartitionPoint-from_clause, IsPartitionedBy-ltb}
use Rattle.store.proofs.RangeLaws.{rising_not_falling}
use Rattle.shapes.proofs.Going.{cut_ok}
use Rattle.shapes.proofs.resizing.cut_row.Goals as goal

pub returns : goal.returns
returns c =
    let cs = c.args.row.cols.now in
    let n = c.partition_point-count.result in
    let point : IsPartitionPoint (λ col. ltb col c.args.cols ≡ true) (λ col. ltb col c.args.cols ≡ false) cs n =
    IsPartitionPoint-from_clause (λ col. ltb col c.args.cols) cs n c.partition_point-count.ensures.partitioned (IsPartitionedBy-ltb (λ col. col) cs c.args.cols (rising_not_falling cs c.requires.rising)) (λ a r f' k. search rules) in
    cut_ok c.args.row.index c.args.cols n cs c.args.row.words.now c.args.lists.now c.put_row.new.lists c.put_row.result c.requires.lengths c.requires.rising point c.put_row.ensures
