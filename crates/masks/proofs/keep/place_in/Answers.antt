-- Behind the indices that are searched none is below the one that is looked up.
use Rattle.std.proofs.Common.{◌≡◌, ◌∙◌, ℕ, ◌+◌, ◌-◌, ◌<◌, ◌≤◌, ltb, true, false, ap, get_or, length, rules, arith, drop, take, inl, inr}
use Rattle.std.specs.List.{AllPairs}
use Rattle.std.specs.List.Sorted.{IsPartitionPoint}
use Rattle.std.proofs.lemmas.Bool.{cases_lt, ltb-true}
use Rattle.std.proofs.lemmas.Bool.Decides.{nat_tests}
use Rattle.std.proofs.lemmas.List.{get_or-drop, get_or-take, length-drop, length-take-le}
use Rattle.std.proofs.lemmas.List.Sorted.{IsPartitionPoint-from_clause, IsPartitionedBy-ltb}
use Rattle.store.proofs.RangeLaws.{rising_not_falling}
use Rattle.masks.proofs.keep.place_in.Goals as goal
use Rattle.masks.proofs.keep.place_in.Goals.{After-partition_point}

rising_near : (xs : _) (m : ℕ) → m ≤ length xs → AllPairs (λ a b. a < b) xs → AllPairs (λ a b. a < b) (take m xs)
rising_near xs m bound rises i j d less within =
    let inside : j < m = omega (arith, within, length-take-le m xs bound) in
    rw (get_or-take m xs i d (omega (arith, less, inside)), get_or-take m xs j d inside) (rises i j d less (omega (arith, inside, bound)))

pointed : (c : After-partition_point) → IsPartitionPoint (λ x. ltb x c.args.index ≡ true)
    (λ x. ltb x c.args.index ≡ false) (take c.most_below.result c.args.inner.now) c.partition_point.result
pointed c =
    let xs = c.args.inner.now in
    let m = c.most_below.result in
    let index = c.args.index in
    IsPartitionPoint-from_clause (λ x. ltb x index) (take m xs) c.partition_point.result c.partition_point.ensures.partitioned
    (IsPartitionedBy-ltb (λ x. x) (take m xs) index (rising_not_falling (take m xs) (rising_near xs m c.most_below.ensures.bound c.requires.rising))) (λ a r f' k. search rules)

pub returns-clause-before : goal.returns-clause-before
returns-clause-before c = λ k d within.
    let xs = c.args.inner.now in
    let m = c.most_below.result in
    let n = c.partition_point.result in
    let near : n ≤ m = omega (arith, c.partition_point.ensures.bound, length-take-le m xs c.most_below.ensures.bound) in
    let low : k < n = omega (arith, within, length-take-le n xs (omega (arith, near, c.most_below.ensures.bound))) in
    let yes : ltb (get_or (take m xs) k d) c.args.index ≡ true = (pointed c).0 k d (omega arith) low in
    let is = get_or-take m xs k d (omega (arith, low, near)) in
    let was = get_or-take n xs k d low in
    rw was (ltb-true (get_or xs k d) c.args.index (rw is at yes))

pub returns-clause-left : goal.returns-clause-left
returns-clause-left c = λ k d within.
    let xs = c.args.inner.now in
    let m = c.most_below.result in
    let n = c.partition_point.result in
    let long = length-take-le m xs c.most_below.ensures.bound in
    let at = get_or-drop n xs k d in
    elim (cases_lt (n + k) m) [
      | inl less ↦
          let no : ltb (get_or (take m xs) (n + k) d) c.args.index ≡ false = (pointed c).1 (n + k) d (omega arith) (omega (arith, less, long)) in
          let is = get_or-take m xs (n + k) d less in
          let no' : ltb (get_or xs (n + k) d) c.args.index ≡ false = rw is at no in
          rw at (grind (arith, nat_tests))
      | inr more ↦
          let there : n + k - m < length (drop m xs) = omega (arith, within, more, length-drop n xs, length-drop m xs) in
          let big = c.most_below.ensures.left (n + k - m) d there in
          let is = get_or-drop m xs (n + k - m) d ∙ ap (λ j. get_or xs j d) (omega (arith, more)) in
          rw at (rw is at big)
    ]
