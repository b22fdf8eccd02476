-- Slots that are given up have nothing of their tasks any more, and nobody works on them.
use Rattle.std.proofs.Common.{refl}
use Rattle.board.specs.Boards.{cuts_of, view_of}
use Rattle.board.specs.Events.{with_progress}
use Rattle.stages.specs.Progress.{Failed}
use Rattle.desk.specs.Ends.{IsIdle}
use Rattle.desk.specs.Works.{AreUncut}
use Rattle.desk.proofs.CutLaws.{uncut_failed}
use Rattle.desk.proofs.IdleLaws.{idle_after, idle_set}
use Rattle.desk.proofs.dropping.+give_up.Goals.{in-Some-old, in_default-old, in-Some-mask, in_default-mask, in-Some-first, in_default-first}
use Rattle.desk.proofs.dropping.+give_up.Goals as goal

pub returns-in-Some-second-clause-uncut : goal.returns-in-Some-second-clause-uncut
returns-in-Some-second-clause-uncut g t c = λ uncut.
    let one : AreUncut (cuts_of c.give_up.new.self) = uncut_failed (cuts_of c.args.board.now) (cuts_of c.args.board.now) (cuts_of c.give_up.new.self) c.args.slot c.give_up.result
    uncut refl c.give_up.ensures.cuts c.give_up.ensures.refused_cuts in
    let two : AreUncut (cuts_of c.match-inputs-2.board) = elim c.match-inputs-2.branch [
      | in-Some-old w ↦ rw w.board-is (w.give_up-in-Some-old.ensures.uncut one)
      | in_default-old w ↦ rw w.board-is one
    ] in
    let three : AreUncut (cuts_of c.match-inputs-3.board) = elim c.match-inputs-3.branch [
      | in-Some-mask w ↦ rw w.board-is (w.give_up-in-Some-mask.ensures.uncut two)
      | in_default-mask w ↦ rw w.board-is two
    ] in
    let four : AreUncut (cuts_of c.match-inputs-4.board) = elim c.match-inputs-4.branch [
      | in-Some-first w ↦ rw w.board-is (w.give_up-in-Some-first.ensures.uncut three)
      | in_default-first w ↦ rw w.board-is three
    ] in
    c.give_up-in-Some-second.ensures.uncut four

pub returns-in_default-second-clause-uncut : goal.returns-in_default-second-clause-uncut
returns-in_default-second-clause-uncut g t c = λ uncut.
    let one : AreUncut (cuts_of c.give_up.new.self) = uncut_failed (cuts_of c.args.board.now) (cuts_of c.args.board.now) (cuts_of c.give_up.new.self) c.args.slot c.give_up.result
    uncut refl c.give_up.ensures.cuts c.give_up.ensures.refused_cuts in
    let two : AreUncut (cuts_of c.match-inputs-2.board) = elim c.match-inputs-2.branch [
      | in-Some-old w ↦ rw w.board-is (w.give_up-in-Some-old.ensures.uncut one)
      | in_default-old w ↦ rw w.board-is one
    ] in
    let three : AreUncut (cuts_of c.match-inputs-3.board) = elim c.match-inputs-3.branch [
      | in-Some-mask w ↦ rw w.board-is (w.give_up-in-Some-mask.ensures.uncut two)
      | in_default-mask w ↦ rw w.board-is two
    ] in
    elim c.match-inputs-4.branch [
      | in-Some-first w ↦ rw w.board-is (w.give_up-in-Some-first.ensures.uncut three)
      | in_default-first w ↦ rw w.board-is three
    ]

pub returns-in-Some-second-clause-idle : goal.returns-in-Some-second-clause-idle
returns-in-Some-second-clause-idle g t c = λ idle.
    let now = view_of c.args.board.now in
    let one : IsIdle (view_of c.give_up.new.self).progress = idle_after now (view_of c.give_up.new.self) (with_progress now c.args.slot Failed) c.give_up.result
    c.give_up.ensures.failed c.give_up.ensures.refused (idle_set now.progress c.args.slot Failed refl idle) idle in
    let two : IsIdle (view_of c.match-inputs-2.board).progress = elim c.match-inputs-2.branch [
      | in-Some-old w ↦ rw w.board-is (w.give_up-in-Some-old.ensures.idle one)
      | in_default-old w ↦ rw w.board-is one
    ] in
    let three : IsIdle (view_of c.match-inputs-3.board).progress = elim c.match-inputs-3.branch [
      | in-Some-mask w ↦ rw w.board-is (w.give_up-in-Some-mask.ensures.idle two)
      | in_default-mask w ↦ rw w.board-is two
    ] in
    let four : IsIdle (view_of c.match-inputs-4.board).progress = elim c.match-inputs-4.branch [
      | in-Some-first w ↦ rw w.board-is (w.give_up-in-Some-first.ensures.idle three)
      | in_default-first w ↦ rw w.board-is three
    ] in
    c.give_up-in-Some-second.ensures.idle four

pub returns-in_default-second-clause-idle : goal.returns-in_default-second-clause-idle
returns-in_default-second-clause-idle g t c = λ idle.
    let now = view_of c.args.board.now in
    let one : IsIdle (view_of c.give_up.new.self).progress = idle_after now (view_of c.give_up.new.self) (with_progress now c.args.slot Failed) c.give_up.result
    c.give_up.ensures.failed c.give_up.ensures.refused (idle_set now.progress c.args.slot Failed refl idle) idle in
    let two : IsIdle (view_of c.match-inputs-2.board).progress = elim c.match-inputs-2.branch [
      | in-Some-old w ↦ rw w.board-is (w.give_up-in-Some-old.ensures.idle one)
      | in_default-old w ↦ rw w.board-is one
    ] in
    let three : IsIdle (view_of c.match-inputs-3.board).progress = elim c.match-inputs-3.branch [
      | in-Some-mask w ↦ rw w.board-is (w.give_up-in-Some-mask.ensures.idle two)
      | in_default-mask w ↦ rw w.board-is two
    ] in
    elim c.match-inputs-4.branch [
      | in-Some-first w ↦ rw w.board-is (w.give_up-in-Some-first.ensures.idle three)
      | in_default-first w ↦ rw w.board-is three
    ]
