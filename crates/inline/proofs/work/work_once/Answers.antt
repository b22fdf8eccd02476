-- Nobody works on a slot once the piece that was taken is handed in, or its slot has failed.
use Rattle.std.proofs.Common.{◌≡◌, ℕ, true, Option, None, slice_get, subst, sym}
use Rattle.std.specs.Prelude.{OnErr, OnOk, Result, Ok, Err}
use Rattle.board.specs.Boards.{cuts_of, view_of}
use Rattle.board.specs.Cuts.{Cutting, at_slot}
use Rattle.stages.specs.Progress.{is_running}
use Rattle.stages.specs.Views.{View}
use Rattle.desk.specs.Ends.{IsIdle, IsIdleBut, felled, handed_in}
use Rattle.desk.proofs.IdleLaws.{idle_felled, idle_handed_in}
use Rattle.inline.proofs.work.work_once.Goals as goal

idle_ended : {N : Type 0} {A E : Type 0} (v w : View N) (c : Option Cutting) (k : ℕ) (r : Result A E)
    → OnOk r (w ≡ handed_in v c k) → OnErr r (w ≡ felled v k) → is_running (slice_get v.progress k) ≡ true → c ≡ None
    → IsIdleBut k v.progress → IsIdle w.progress
idle_ended v w c k (Ok x) made failed runs uncut but =
    subst (λ u. IsIdle u.progress) (sym made) (idle_handed_in v c k runs uncut but)
idle_ended v w c k (Err why) made failed runs uncut but =
    subst (λ u. IsIdle u.progress) (sym failed) (idle_felled v k runs but)

pub returns-clause-idle : goal.returns-clause-idle
returns-clause-idle g c =
    let taken = c.in-Some.ensures in
    let number = c.in-Some.piece.number in
    idle_ended (view_of c.take.new.board) (view_of c.work.new.board) (at_slot (cuts_of c.take.new.board) number) number c.work.result
    c.work.ensures.made c.work.ensures.failed taken.running (taken.uncut number) (taken.idle c.requires.idle)
