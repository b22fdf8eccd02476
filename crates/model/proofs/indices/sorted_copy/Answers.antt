use Rattle.std.proofs.Common.{◌≡◌}
use Rattle.std.specs.List.{each_same}
use Rattle.std.proofs.lemmas.List.Sorted.{IsNonDecreasingBy-from_sort}
use Rattle.model.proofs.indices.sorted_copy.Goals as goal

pub returns : goal.returns
returns c =
    let same : c.in_ok-sorted.sorted.items ≡ c.args.items.now.items = each_same c.args.items.now.items c.in_ok-sorted.sorted.items c.in_ok-sorted.ensures.cases.0 in
    record {
      same = rw same at c.sort_unstable.ensures.permutation;
      rises = IsNonDecreasingBy-from_sort (λ x. x) c.sort_unstable.new.self.items c.sort_unstable.ensures.sorted;
    }
