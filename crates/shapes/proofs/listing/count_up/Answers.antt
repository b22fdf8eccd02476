use Rattle.std.proofs.Common.{◌≡◌, arith, subst}
use Rattle.shapes.proofs.ListLaws.{AreAllFrom, all_from_more, all_from_none, all_from_once}
use Rattle.shapes.proofs.listing.count_up.Goals as goal

pub loop-i-init : goal.loop-i-init
loop-i-init c = rw c.in_ok-list.ensures.items (all_from_none c.args.range.start)

pub loop-i-preserved : goal.loop-i-preserved
loop-i-preserved c = rw c.in_ok-push.ensures.items (all_from_more c.args.range.start c.loop-i.i c.loop-i.list.items c.loop-i.invariant)

pub returns : goal.returns
returns c has each =
    let all = c.loop-i.auto.i-end c.requires in
    let end : c.loop-i.i ≡ c.args.range.end = omega (arith, c.loop-i-test.false, all) in
    all_from_once c.args.range.start c.args.range.end has c.loop-i.list.items (subst (λ past. AreAllFrom c.args.range.start past c.loop-i.list.items) end c.loop-i.invariant) each
