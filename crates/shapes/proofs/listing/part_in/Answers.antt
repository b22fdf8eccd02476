use Rattle.std.proofs.Common.{◌-◌}
use Rattle.shapes.proofs.ListLaws.{part_has}
use Rattle.shapes.proofs.listing.part_in.Goals as goal

pub returns-clause-part : goal.returns-clause-part
returns-clause-part c =
    let span = c.span_in-low.ensures in
    part_has c.args.range.start c.args.range.end c.args.sorted.now c.span_in-low.result.0 (c.span_in-low.result.1 - c.span_in-low.result.0) span.from span.before
