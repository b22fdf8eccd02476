use Rattle.std.proofs.Common.{◌∙◌, ap}
use Rattle.model.specs.Builds.{are_apart, are_single}
use Rattle.model.proofs.TupleLaws.{single_sorted}
use Rattle.model.proofs.tuples.TupleList.are_single.Goals as goal

pub are_apart-requires : goal.are_apart-requires
are_apart-requires c = rw c.as_slice.ensures.value c.self.invariant.order

pub returns : goal.returns
returns c =
    let inside = c.self.inside in
    c.are_apart.ensures ∙ ap are_apart c.as_slice.ensures.value ∙ single_sorted inside.items.items inside.sorted.items c.self.invariant ∙ ap are_single c.self.view_is
