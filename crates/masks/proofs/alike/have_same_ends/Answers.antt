use Rattle.std.proofs.Common.{◌≤◌}
use Rattle.std.proofs.lemmas.List.Elements.{All-tail}
use Rattle.masks.proofs.alike.have_same_ends.Goals as goal

pub are_same-requires-clause-a : goal.are_same-requires-clause-a
are_same-requires-clause-a c = All-tail (λ r. c.args.a.now.from ≤ r.end) c.args.a.now.head c.args.a.now.others.now c.requires.a

pub are_same-requires-clause-b : goal.are_same-requires-clause-b
are_same-requires-clause-b c = All-tail (λ r. c.args.b.now.from ≤ r.end) c.args.b.now.head c.args.b.now.others.now c.requires.b
