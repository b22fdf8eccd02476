use Rattle.std.proofs.Common.{◌≤◌, arith, length, rules, sym, ◌∙◌}
use Rattle.std.proofs.lemmas.List.Sorted.{length_permutation}
use Rattle.shapes.proofs.SpanLaws.{leads_side_by_side}
use Rattle.shapes.proofs.spans.places_of.Goals as goal

pub slice_bounds-lie_in-end : goal.slice_bounds-lie_in-end
slice_bounds-lie_in-end c =
    let same = length_permutation c.args.listed.now c.args.sorted.now c.requires.same in
    let room : c.span_in-low.result.1 ≤ length c.args.listed.now = omega (arith, c.span_in-low.ensures.high) in
    search rules

pub returns-then-lie_in : goal.returns-then-lie_in
returns-then-lie_in c =
    let items = c.args.listed.now in
    let xs = c.args.sorted.now in
    let span = c.span_in-low.ensures in
    let same = length_permutation items xs c.requires.same in
    leads_side_by_side items xs c.args.first c.args.past c.span_in-low.result.0 c.span_in-low.result.1 c.requires span.low (omega (arith, span.high)) span.from span.before (sym c.lie_in.ensures ∙ c.if-lie_in.true)
