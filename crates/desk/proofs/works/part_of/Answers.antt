-- The block of some rows is part of the object.
use Rattle.std.proofs.lemmas.Result.{IfOk-weaker}
use Rattle.desk.proofs.WorkLaws.{part_by}
use Rattle.desk.proofs.works.part_of.Goals as goal

pub returns-clause-block : goal.returns-clause-block
returns-clause-block c =
    IfOk-weaker c.block_by.result _ _ (λ block is. part_by c.args.piece.now block is) c.block_by.ensures.block
