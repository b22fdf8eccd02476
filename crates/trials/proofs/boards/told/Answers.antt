-- Each event is right, whatever those before it are answered.
use Rattle.board.specs.Boards.{shown}
use Rattle.trials.proofs.TryLaws.{right_row}
use Rattle.trials.proofs.boards.told.Goals as goal

pub run-requires : goal.run-requires
run-requires c = right_row (shown c.args.board.now) c.args.events.items c.requires.tries c.requires.task
