use Rattle.std.proofs.Common.{◌<◌, arith, length}
use Rattle.store.proofs.SpanLaws.{agrees_alone}
use Rattle.store.proofs.blocks.Blocks.part_in.Goals as goal

pub returns : goal.returns
returns c =
    let b = c.self.inside in
    let span = c.args.range.now in
    let at = c.in_ok-at.at in
    let within : at < length b.parts.items = let ok = b.parts.ok in let count = c.len.ensures in omega arith in
    rw (← c.self.view_is) (agrees_alone b.rows b.cols span.start span.end b.spans.items b.parts.items at c.index.result.now c.self.invariant (rw c.deref.ensures.value at c.in_ok-at.ensures) within c.index.ensures)
