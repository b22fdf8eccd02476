use Rattle.std.proofs.Common.{◌≡◌, arith, false, get_or, leb, rules, true}
use Rattle.std.specs.List.Sorted.{IsPartitionPoint}
use Rattle.std.proofs.lemmas.Bool.Decides.{nat_tests}
use Rattle.std.proofs.lemmas.List.Sorted.{IsPartitionPoint-from_clause, IsPartitionedBy-leb}
use Rattle.store.proofs.RangeLaws.{rising_not_falling}
use Rattle.spgemm.proofs.slot_sums.count_up_to.Goals as goal

pub returns-in-Some-clause-behind : goal.returns-in-Some-clause-behind
returns-in-Some-clause-behind c = λ at low within.
    let cols = c.args.cols.now in
    let count = c.partition_point.result in
    let pointed : IsPartitionPoint (λ col. leb col c.args.last ≡ true) (λ col. leb col c.args.last ≡ false) cols count =
    IsPartitionPoint-from_clause (λ col. leb col c.args.last) cols count c.partition_point.ensures.partitioned (IsPartitionedBy-leb (λ col. col) cols c.args.last (rising_not_falling cols c.requires)) (λ a r f' k. search rules) in
    let high : leb (get_or cols at 0) c.args.last ≡ false = pointed.1 at 0 low within in
    grind (arith, nat_tests)
