-- Where nothing can be done, the slot isn't to come.
use Rattle.board.specs.Boards.{view_of}
use Rattle.desk.proofs.IdleLaws.{none_to_come}
use Rattle.inline.proofs.work.finish.Goals as goal

pub unreachable-requires : goal.unreachable-requires
unreachable-requires g c =
    none_to_come (view_of c.work_once.new.board) c.args.slot (c.settled.ensures c.args.slot) (c.look-2.ensures.to_come.0 c.in_default-look.is)
