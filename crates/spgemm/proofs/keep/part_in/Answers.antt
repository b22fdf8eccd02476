use Rattle.std.proofs.Common.{◌≡◌, ltb, false, rules, take, true}
use Rattle.std.specs.List.Sorted.{IsPartitionPoint}
use Rattle.std.proofs.lemmas.List.Sorted.{IsPartitionPoint-from_clause, IsPartitionedBy-ltb, IsNonDecreasingBy-take}
use Rattle.store.proofs.RangeLaws.{rising_not_falling}
use Rattle.spgemm.proofs.KeptRows.{part_found, part_whole}
use Rattle.spgemm.proofs.keep.part_in.Goals as goal

pub returns : goal.returns
returns c =
    let cols = c.args.inner.now in
    let range = c.args.range.now in
    let high = c.partition_point-end.result in
    let low = c.partition_point-start.result in
    let rise = rising_not_falling cols c.requires.rising in
    let end : IsPartitionPoint (λ col. ltb col range.end ≡ true) (λ col. ltb col range.end ≡ false) cols high =
    IsPartitionPoint-from_clause (λ col. ltb col range.end) cols high c.partition_point-end.ensures.partitioned (IsPartitionedBy-ltb (λ col. col) cols range.end rise) (λ a r f' k. search rules) in
    let start : IsPartitionPoint (λ col. ltb col range.start ≡ true) (λ col. ltb col range.start ≡ false) (take high cols) low =
    IsPartitionPoint-from_clause (λ col. ltb col range.start) (take high cols) low c.partition_point-start.ensures.partitioned (IsPartitionedBy-ltb (λ col. col) (take high cols) range.start (IsNonDecreasingBy-take (λ col. col) high cols rise)) (λ a r f' k. search rules) in
    part_found range.start range.end cols low high c.partition_point-end.ensures.bound c.partition_point-start.ensures.bound end start

pub returns-then-cols-range : goal.returns-then-cols-range
returns-then-cols-range c = part_whole c.args.range.now.start c.args.range.now.end c.args.cols c.args.inner.now c.if-range-eq0.true c.if-cols-range.true c.requires.inside
