use Rattle.board.proofs.SettledLaws.{settled, unready}
use Rattle.board.proofs.slots.Slots.settled.Goals as goal

pub returns : goal.returns
returns g c k p at =
    settled _ _ c.args.self.now.sound.flows (unready _ _ c.requires.none) c.requires.idle k p at
