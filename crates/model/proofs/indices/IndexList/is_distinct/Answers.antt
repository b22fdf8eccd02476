use Rattle.std.proofs.Common.{◌≡◌, ◌∙◌, rules}
use Rattle.model.specs.Indices.{IsSortedFrom, is_distinct}
use Rattle.model.proofs.IndexLaws.{is_distinct-permutation}
use Rattle.model.proofs.indices.IndexList.is_distinct.Goals as goal

pub returns-in-Some : goal.returns-in-Some
returns-in-Some c =
    let items = c.in-Some.listed.value.items.items in
    let sorted : IsSortedFrom items c.sorted.result.now = rw (c.sorted.ensures, c.deref.ensures) (rw c.in-Some.is at c.self.invariant) in
    let is : c.rises.result ≡ is_distinct items = c.rises.ensures ∙ is_distinct-permutation items c.sorted.result.now sorted.same in
    is ∙ rw (← c.self.view_is, c.in-Some.is) (search rules)
