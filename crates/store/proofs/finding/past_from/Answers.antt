-- The part has all fibers that may be before the index.
use Rattle.std.proofs.Common.{◌-◌, ◌+◌, ◌<◌, ◌≤◌, length, rules}
use Rattle.store.proofs.Windows.{behind_indices, behind_part, between_part}
use Rattle.store.proofs.finding.past_from.Goals as goal

pub returns-clause-between : goal.returns-clause-between
returns-clause-between c =
    let low = c.args.low in
    let most = c.min-most.result in
    let le : low ≤ most = search rules in
    let bound : most ≤ length c.args.ends.now = search rules in
    between_part c.args.ends.now low most c.count_within.result c.args.first c.args.past le bound
    c.count_within.ensures.bound c.requires.behind c.count_within.ensures.before

pub returns-clause-behind : goal.returns-clause-behind
returns-clause-behind c =
    let low = c.args.low in
    let most = c.min-most.result in
    let le : low ≤ most = search rules in
    let bound : most ≤ length c.args.ends.now = search rules in
    let enough : most < length c.args.ends.now → low + (c.args.past - c.args.first) ≤ most = λ less. search rules in
    behind_part c.args.ends.now low most c.count_within.result c.args.past le bound
    c.count_within.ensures.bound
    (behind_indices c.args.ends.now low most c.args.first c.args.past c.requires.apart c.requires.behind le enough)
    c.count_within.ensures.behind
