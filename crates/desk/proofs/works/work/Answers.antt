-- What is handed in is the store of the slot's object; then, or where the slot fails, fewer slots are to come.
use Rattle.std.proofs.Common.{Option, ap, refl}
use Rattle.std.specs.Prelude.{is_none}
use Rattle.board.specs.Boards.{cuts_of, view_of}
use Rattle.board.specs.Cuts.{Cutting, at_slot}
use Rattle.desk.proofs.CutLaws.{uncut_failed}
use Rattle.desk.proofs.EndLaws.{fewer_ended, fewer_handed}
use Rattle.desk.proofs.works.work.Goals as goal

pub returns-in-Ok-clause-fewer : goal.returns-in-Ok-clause-fewer
returns-in-Ok-clause-fewer g c = λ runs uncut.
    fewer_handed (view_of c.args.board.now) (view_of c.hand_in.new.self) c.args.piece.now.number c.hand_in.result runs
    (is_none (at_slot (cuts_of c.args.board.now) c.args.piece.now.number))
    (ap (λ (o : Option Cutting). is_none o) uncut) c.hand_in.ensures.answer c.hand_in.ensures.made

pub returns-in-Err-clause-fewer : goal.returns-in-Err-clause-fewer
returns-in-Err-clause-fewer g c = λ runs uncut.
    fewer_ended (view_of c.args.board.now) (view_of c.fail.new.self) c.args.piece.now.number c.fail.result runs c.fail.ensures.answer
    c.fail.ensures.failed

pub returns-in-Err-clause-uncut : goal.returns-in-Err-clause-uncut
returns-in-Err-clause-uncut g c = λ uncut.
    uncut_failed (cuts_of c.args.board.now) (cuts_of c.args.board.now) (cuts_of c.fail.new.self) c.args.piece.now.number c.fail.result
    uncut refl c.fail.ensures.cuts c.fail.ensures.refused_cuts
