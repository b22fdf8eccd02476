use Rattle.std.proofs.Common.{◌≡◌, ◌+◌, ◌-◌, arith, drop, length, length-drop, length-take, ltb, rules}
use Rattle.std.proofs.lemmas.List.{take_rest}
use Rattle.std.proofs.lemmas.List.Sorted.{IsNonDecreasingBy-drop, IsPartitionPoint-from_clause, IsPartitionedBy-ltb}
use Rattle.shapes.proofs.spans.span_in.Goals as goal

pub returns-clause-high : goal.returns-clause-high
returns-clause-high c =
    let xs = c.args.sorted.now in
    let low = c.partition_point-low.result in
    omega (arith, c.partition_point-low.ensures.bound, c.partition_point-count.ensures.bound, length-take (length xs - low) (drop low xs), length-drop low xs)

pub returns-clause-from : goal.returns-clause-from
returns-clause-from c =
    let xs = c.args.sorted.now in
    let first = c.args.first in
    IsPartitionPoint-from_clause (λ x. ltb x first) xs c.partition_point-low.result c.partition_point-low.ensures.partitioned (IsPartitionedBy-ltb (λ x. x) xs first c.requires) (λ a r f' k. search rules)

pub returns-clause-before : goal.returns-clause-before
returns-clause-before c =
    let xs = c.args.sorted.now in
    let past = c.args.past in
    let n = c.partition_point-low.result in
    let m = c.partition_point-count.result in
    let count : n + m - n ≡ m = omega arith in
    rw count (IsPartitionPoint-from_clause (λ x. ltb x past) (drop n xs) m (rw (take_rest xs n) at c.partition_point-count.ensures.partitioned) (IsPartitionedBy-ltb (λ x. x) (drop n xs) past (IsNonDecreasingBy-drop (λ x. x) n xs c.requires)) (λ a r f' k. search rules))
