use Rattle.std.proofs.Common.{◌≡◌, ◌+◌, ◌-◌, None, subst, sym}
use Rattle.std.specs.Prelude.{slice_index}
use Rattle.board.specs.Boards.{shown}
use Rattle.board.specs.Cuts.{IsPut}
use Rattle.board.specs.Events.{failed, may_fail, may_hold, may_let_go, with_holds}
use Rattle.board.specs.Schedules.{IsAnswered}
use Rattle.board.proofs.ScheduleLaws.{err_kept, err_shown, is-done, ok_both, ok_shown}
use Rattle.board.proofs.board.Board.answer.Goals as goal

pub returns-in-Fail : goal.returns-in-Fail
returns-in-Fail g c =
    let s = shown c.args.self.now in
    let t = shown c.fail.new.self in
    let k = c.in-Fail.number in
    subst (λ e. IsAnswered s e c.done-in-Fail.result t) (sym c.in-Fail.is)
    (is-done (may_fail s.slots k) s t ((t.slots ≡ failed s.slots k) × IsPut s.cuts k None t.cuts) c.fail.result c.done-in-Fail.result c.fail.ensures.answer
    (ok_both (t.slots ≡ failed s.slots k) (IsPut s.cuts k None t.cuts) c.fail.result c.fail.ensures.failed c.fail.ensures.cuts) (err_shown c.fail.result s t c.fail.ensures.refused c.fail.ensures.refused_cuts) c.done-in-Fail.ensures)

pub returns-in-Hold : goal.returns-in-Hold
returns-in-Hold g c =
    let s = shown c.args.self.now in
    let t = shown c.hold.new.self in
    let k = c.in-Hold.number in
    let v = with_holds s.slots k (slice_index s.slots.holds k + 1) in
    subst (λ e. IsAnswered s e c.done-in-Hold.result t) (sym c.in-Hold.is)
    (is-done (may_hold s.slots k) s t (t ≡ record s { slots = v }) c.hold.result c.done-in-Hold.result c.hold.ensures.answer
    (ok_shown c.hold.result s t v c.hold.ensures.held c.hold.ensures.cuts) (err_kept c.hold.result s t c.hold.ensures.refused c.hold.ensures.cuts) c.done-in-Hold.ensures)

pub returns-in-LetGo : goal.returns-in-LetGo
returns-in-LetGo g c =
    let s = shown c.args.self.now in
    let t = shown c.let_go.new.self in
    let k = c.in-LetGo.number in
    let v = with_holds s.slots k (slice_index s.slots.holds k - 1) in
    subst (λ e. IsAnswered s e c.done-in-LetGo.result t) (sym c.in-LetGo.is)
    (is-done (may_let_go s.slots k) s t (t ≡ record s { slots = v }) c.let_go.result c.done-in-LetGo.result c.let_go.ensures.answer
    (ok_shown c.let_go.result s t v c.let_go.ensures.gone c.let_go.ensures.cuts) (err_kept c.let_go.result s t c.let_go.ensures.refused c.let_go.ensures.cuts) c.done-in-LetGo.ensures)
