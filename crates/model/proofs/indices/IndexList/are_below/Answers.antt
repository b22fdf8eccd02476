use Rattle.std.proofs.Common.{◌≡◌, ◌∙◌, ltb, rules}
use Rattle.std.specs.List.{list_all}
use Rattle.model.specs.Indices.{IsSortedFrom}
use Rattle.model.proofs.IndexLaws.{list_all-permutation}
use Rattle.model.proofs.indices.IndexList.are_below.Goals as goal

pub returns-in-Some : goal.returns-in-Some
returns-in-Some c =
    let items = c.in-Some.listed.value.items.items in
    let sorted : IsSortedFrom items c.sorted.result.now = rw (c.sorted.ensures, c.deref.ensures) (rw c.in-Some.is at c.self.invariant) in
    let is : c.are_below.result ≡ list_all (λ i. ltb i c.args.size) items = c.are_below.ensures ∙ list_all-permutation (λ i. ltb i c.args.size) items c.sorted.result.now sorted.same in
    is ∙ rw (← c.self.view_is, c.in-Some.is) (search rules)
