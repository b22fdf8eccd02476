use Rattle.std.proofs.Common.{◌∙◌, ◌||◌, List, ap, length, map, slice_get, sym}
use Rattle.std.proofs.lemmas.List.{length-map}
use Rattle.board.specs.SlotViews.{slots_view}
use Rattle.stages.specs.Progress.{Progress, is_joining, is_running}
use Rattle.stages.specs.Slots.{task_of}
use Rattle.stages.specs.Stages.{progress_of}
use Rattle.stages.specs.Views.{is_ready}
use Rattle.board.proofs.BoardLaws.{view_failed}
use Rattle.board.proofs.FailLaws.{fallen_is, falling_from, low_from, may_unfinished, sound_failed}
use Rattle.board.proofs.FallenLaws.{underway-stays}
use Rattle.stages.proofs.ReadyLaws.{offered_is}
use Rattle.board.proofs.slots.Slots.fail.Goals as goal

pub end-requires : goal.end-requires
end-requires g c =
    let d1 = ap (λ l. is_ready (map (task_of {N = _}) l) (map progress_of c.args.self.now.stages.items) c.args.number || (is_running (slice_get (map progress_of c.args.self.now.stages.items) c.args.number) || is_joining (slice_get (map progress_of c.args.self.now.stages.items) c.args.number))) (sym c.deref.ensures.value) in
    let d2 = ap (λ l. is_ready (map (task_of {N = _}) c.deref.result.now) (map progress_of l) c.args.number || (is_running (slice_get (map progress_of l) c.args.number) || is_joining (slice_get (map progress_of l) c.args.number))) (sym c.deref-2.ensures.value) in
    let un = may_unfinished (map (task_of {N = _}) c.args.self.now.slots.items) (map progress_of c.args.self.now.stages.items) c.args.number (d1 ∙ (d2 ∙ (sym c.can_fail.ensures ∙ c.if-not-can_fail.false))) in
    record { falling = falling_from _ _ _ _ _ _ _ c.args.self.now.sound c.args.number un _ _ (ap (map (task_of {N = _})) c.deref-3.ensures.value) c.deref-4.ensures.value; unfinished = un }

pub invariant_of-self-2 : goal.invariant_of-self-2
invariant_of-self-2 g c =
    let d1 = ap (λ l. is_ready (map (task_of {N = _}) l) (map progress_of c.args.self.now.stages.items) c.args.number || (is_running (slice_get (map progress_of c.args.self.now.stages.items) c.args.number) || is_joining (slice_get (map progress_of c.args.self.now.stages.items) c.args.number))) (sym c.deref.ensures.value) in
    let d2 = ap (λ l. is_ready (map (task_of {N = _}) c.deref.result.now) (map progress_of l) c.args.number || (is_running (slice_get (map progress_of l) c.args.number) || is_joining (slice_get (map progress_of l) c.args.number))) (sym c.deref-2.ensures.value) in
    let un = may_unfinished (map (task_of {N = _}) c.args.self.now.slots.items) (map progress_of c.args.self.now.stages.items) c.args.number (d1 ∙ (d2 ∙ (sym c.can_fail.ensures ∙ c.if-not-can_fail.false))) in
    record {
      sound = sound_failed _ _ _ _ _ _ _ c.args.self.now.sound c.args.number un
          c.end.new.stages.items c.spread.new.stages.items c.spread.new.reads.items c.withdraw.new.ready.items _ (length c.deref-5.result.now) (map (task_of {N = _}) c.deref-5.result.now) c.deref-6.result.now
          (ap (map (task_of {N = _})) c.deref-5.ensures.value) c.deref-6.ensures.value (ap length c.deref-5.ensures.value ∙ sym (length-map c.args.self.now.slots.items (task_of {N = _})))
          c.end.ensures.progress c.spread.ensures.falling c.spread.ensures.keeps
          (c.withdraw.ensures.numbers (is_ready (map (task_of {N = _}) c.args.self.now.slots.items) (map progress_of c.args.self.now.stages.items)) (length (map (task_of {N = _}) c.args.self.now.slots.items))
          (c.args.self.now.sound.offers ∙ sym (offered_is _ _)) (low_from _ _ _ _ _ _ _ c.args.self.now.sound c.args.number un))
          c.withdraw.ensures.capacity;
    }

pub returns-clause-failed : goal.returns-clause-failed
returns-clause-failed g c =
    let d1 = ap (λ l. is_ready (map (task_of {N = _}) l) (map progress_of c.args.self.now.stages.items) c.args.number || (is_running (slice_get (map progress_of c.args.self.now.stages.items) c.args.number) || is_joining (slice_get (map progress_of c.args.self.now.stages.items) c.args.number))) (sym c.deref.ensures.value) in
    let d2 = ap (λ l. is_ready (map (task_of {N = _}) c.deref.result.now) (map progress_of l) c.args.number || (is_running (slice_get (map progress_of l) c.args.number) || is_joining (slice_get (map progress_of l) c.args.number))) (sym c.deref-2.ensures.value) in
    let un = may_unfinished (map (task_of {N = _}) c.args.self.now.slots.items) (map progress_of c.args.self.now.stages.items) c.args.number (d1 ∙ (d2 ∙ (sym c.can_fail.ensures ∙ c.if-not-can_fail.false))) in
    view_failed (slots_view c.args.self.now) (map progress_of c.spread.new.stages.items) c.args.number
    (fallen_is _ _ _ _ _ _ _ c.args.self.now.sound c.args.number un (map progress_of c.end.new.stages.items) (map progress_of c.spread.new.stages.items) (length c.deref-5.result.now) (map (task_of {N = _}) c.deref-5.result.now)
    (ap (map (task_of {N = _})) c.deref-5.ensures.value) (ap length c.deref-5.ensures.value ∙ sym (length-map c.args.self.now.slots.items (task_of {N = _}))) c.end.ensures.progress c.spread.ensures.progress)

pub returns-clause-others : goal.returns-clause-others
returns-clause-others g c k far under =
    let d1 = ap (λ l. is_ready (map (task_of {N = _}) l) (map progress_of c.args.self.now.stages.items) c.args.number || (is_running (slice_get (map progress_of c.args.self.now.stages.items) c.args.number) || is_joining (slice_get (map progress_of c.args.self.now.stages.items) c.args.number))) (sym c.deref.ensures.value) in
    let d2 = ap (λ l. is_ready (map (task_of {N = _}) c.deref.result.now) (map progress_of l) c.args.number || (is_running (slice_get (map progress_of l) c.args.number) || is_joining (slice_get (map progress_of l) c.args.number))) (sym c.deref-2.ensures.value) in
    let un = may_unfinished (map (task_of {N = _}) c.args.self.now.slots.items) (map progress_of c.args.self.now.stages.items) c.args.number (d1 ∙ (d2 ∙ (sym c.can_fail.ensures ∙ c.if-not-can_fail.false))) in
    ap (λ (ps : List Progress). slice_get ps k)
    (fallen_is _ _ _ _ _ _ _ c.args.self.now.sound c.args.number un (map progress_of c.end.new.stages.items) (map progress_of c.spread.new.stages.items) (length c.deref-5.result.now) (map (task_of {N = _}) c.deref-5.result.now)
    (ap (map (task_of {N = _})) c.deref-5.ensures.value) (ap length c.deref-5.ensures.value ∙ sym (length-map c.args.self.now.slots.items (task_of {N = _}))) c.end.ensures.progress c.spread.ensures.progress)
    ∙ underway-stays (map (task_of {N = _}) c.args.self.now.slots.items) (map progress_of c.args.self.now.stages.items) c.args.self.now.sound.flows c.args.number un k far under
