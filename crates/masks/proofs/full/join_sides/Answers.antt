use Rattle.std.proofs.Common.{◌∙◌}
use Rattle.masks.specs.Joins.{both_of}
use Rattle.masks.proofs.FullLaws.{zip_turned}
use Rattle.masks.proofs.full.join_sides.Goals as goal

pub returns-in-Right-clause-words : goal.returns-in-Right-clause-words
returns-in-Right-clause-words c = rw c.in-Right.is (c.join_both-in-Right.ensures.words ∙ zip_turned (both_of c.args.by) c.args.seconds.now c.args.firsts.now)
