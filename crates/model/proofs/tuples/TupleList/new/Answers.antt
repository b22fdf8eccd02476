use Rattle.std.proofs.Common.{rules, ◌≡◌, ◌∙◌, ap, map}
use Rattle.std.specs.List.{All}
use Rattle.std.specs.List.Sorted.{IsPermutation, IsStableByKey}
use Rattle.std.specs.Ordering.{nat_cmp}
use Rattle.std.proofs.lemmas.Fn.{always_returns_same}
use Rattle.std.proofs.lemmas.List.Sorted.{All-permutation}
use Rattle.algebra.specs.declared.domain.Domain.TheVariants.{Uint64}
use Rattle.model.specs.Builds.{entry_of}
use Rattle.model.proofs.SortedLaws.{IsNarrow, key_of, order_from_sorted, words_at-sorted}
use Rattle.model.proofs.tuples.TupleList.new.Goals as goal

pub invariant_of-result : goal.invariant_of-result
invariant_of-result c =
    let entries = map (entry_of Uint64) c.args.items.items in
    let sorted = c.sort_by_key.new.self.items in
    let sort = c.in_ok-sort_by_key.ensures in
    let made : c.in_ok-sorted.sorted.items ≡ entries = c.in_ok-sorted.ensures.items ∙ ap (map (entry_of Uint64)) c.deref.ensures.value in
    let rise = sort.sorted key_of (always_returns_same _ _ _ (λ a r f' k. search rules)) in
    let kept = sort.stable key_of (always_returns_same _ _ _ (λ a r f' k. search rules)) in
    let moved : IsPermutation entries sorted = rw made at sort.permutation in
    let stable : IsStableByKey key_of nat_cmp entries sorted = rw made at kept in
    let before : All IsNarrow entries = rw made at c.in_ok-sorted.ensures.cols in
    let after = All-permutation IsNarrow entries sorted moved before in
    record {
      same = moved;
      order = order_from_sorted sorted after rise;
      stable = words_at-sorted entries sorted before after stable;
    }
