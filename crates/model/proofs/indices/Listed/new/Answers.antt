use Rattle.std.proofs.Common.{subst}
use Rattle.std.specs.List.Sorted.{IsNonDecreasing}
use Rattle.std.proofs.lemmas.List.Sorted.{IsPermutation-refl, non_decreasing_from_is_sorted}
use Rattle.model.proofs.indices.Listed.new.Goals as goal

pub returns-then-is_sorted-clause-sorted : goal.returns-then-is_sorted-clause-sorted
returns-then-is_sorted-clause-sorted c =
    let rises = rw c.if-is_sorted.true at (non_decreasing_from_is_sorted c.deref.result.now c.is_sorted.result c.is_sorted.ensures.cases) in
    record {
      same = IsPermutation-refl c.args.items.items;
      rises = subst IsNonDecreasing c.deref.ensures.value rises;
    }
