use Rattle.std.proofs.Common.{◌∙◌, subst, sym}
use Rattle.store.specs.Stored.{content_of}
use Rattle.shapes.specs.Places.{LeadInto}
use Rattle.shapes.proofs.SpanLaws.{placed_between}
use Rattle.shapes.proofs.assigning.place_entries.Goals as goal

pub returns : goal.returns
returns c =
    let a = c.args.a.now in
    let rows = c.args.rows.now in
    let first = c.args.range.now.start in
    let past = c.args.range.now.end in
    let places = c.in-Some.places in
    let leads : LeadInto rows a.rows first past places.start places.end = subst (λ size. LeadInto rows size first past places.start places.end) (sym c.requires.rows) (c.in-Some.ensures a.rows c.requires.end) in
    rw c.new-entries.ensures.items at c.in_ok-place_part.ensures
    ∙ sym (placed_between rows c.args.cols.now a.rows first past places.start places.end a.cols (content_of a) leads)
