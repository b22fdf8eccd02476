use Rattle.model.proofs.IndexLaws.{last_below}
use Rattle.model.proofs.indices.are_below.Goals as goal

pub returns-in-Some : goal.returns-in-Some
returns-in-Some c =
    let at = c.in-Some.ensures.item.3 in
    last_below c.args.size c.args.sorted.now c.in-Some.last.now c.requires at.0 (at.1 0)
