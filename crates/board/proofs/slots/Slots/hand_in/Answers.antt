use Rattle.std.proofs.Common.{◌≡◌, ◌∙◌, Bool, ap, cond, map, slice_get, sym, true}
use Rattle.std.specs.Prelude.{OnErr, OnOk, Result, Ok, Err}
use Rattle.board.specs.SlotViews.{slots_view}
use Rattle.stages.specs.Progress.{is_running}
use Rattle.stages.specs.Stages.{progress_of}
use Rattle.board.specs.declared.look.Refusal.{Refusal}
use Rattle.board.specs.declared.look.Refusal.TheVariants.{Stranger}
use Rattle.stages.specs.declared.stage.Stage.TheVariants as stage
use Rattle.board.proofs.BoardLaws.{progress_put, sound_given}
use Rattle.board.proofs.GivenLaws.{handed}
use Rattle.board.proofs.slots.Slots.hand_in.Goals as goal

on_ok : {A : Type 0} (r : Result (Unit {0}) Refusal) → A → OnOk r A
on_ok (Ok x) a = a
on_ok (Err why) a = tt

from_ok : (A : Type 0) (r : Result (Unit {0}) Refusal) → r ≡ Ok tt → OnErr r A
from_ok A (Ok x) is = tt
from_ok A (Err why) is = absurd (cc (is))

pub invariant_of-self : goal.invariant_of-self
invariant_of-self g c =
    let runs : is_running (slice_get (map progress_of c.args.self.now.stages.items) c.args.number) ≡ true =
    ap (λ l. is_running (slice_get (map progress_of l) c.args.number)) (sym c.deref.ensures.value)
    ∙ (sym c.is_running.ensures ∙ c.if-not-is_running.false) in
    record { sound = sound_given _ _ _ _ _ _ _ c.args.self.now.sound c.args.number c.put.new.stages.items runs c.put.ensures }

pub returns-clause-answer : goal.returns-clause-answer
returns-clause-answer g c =
    let runs : is_running (slice_get (map progress_of c.args.self.now.stages.items) c.args.number) ≡ true =
    ap (λ l. is_running (slice_get (map progress_of l) c.args.number)) (sym c.deref.ensures.value)
    ∙ (sym c.is_running.ensures ∙ c.if-not-is_running.false) in
    (handed (slots_view c.args.self.now) (slots_view c.whole.new.self) c.args.number (map progress_of c.put.new.stages.items) c.whole.result runs
    (progress_put c.args.self.now.stages.items c.put.new.stages.items c.args.number stage.Joining c.put.ensures)
    c.whole.ensures.answer c.whole.ensures.made).0
    ∙ sym (ap (λ (b : Bool). cond b (Ok tt) (Err Stranger)) runs)

pub returns-clause-made : goal.returns-clause-made
returns-clause-made g c =
    let runs : is_running (slice_get (map progress_of c.args.self.now.stages.items) c.args.number) ≡ true =
    ap (λ l. is_running (slice_get (map progress_of l) c.args.number)) (sym c.deref.ensures.value)
    ∙ (sym c.is_running.ensures ∙ c.if-not-is_running.false) in
    on_ok c.whole.result
    (handed (slots_view c.args.self.now) (slots_view c.whole.new.self) c.args.number (map progress_of c.put.new.stages.items) c.whole.result runs
    (progress_put c.args.self.now.stages.items c.put.new.stages.items c.args.number stage.Joining c.put.ensures)
    c.whole.ensures.answer c.whole.ensures.made).1

pub returns-clause-refused : goal.returns-clause-refused
returns-clause-refused g c =
    let runs : is_running (slice_get (map progress_of c.args.self.now.stages.items) c.args.number) ≡ true =
    ap (λ l. is_running (slice_get (map progress_of l) c.args.number)) (sym c.deref.ensures.value)
    ∙ (sym c.is_running.ensures ∙ c.if-not-is_running.false) in
    from_ok _ c.whole.result
    (handed (slots_view c.args.self.now) (slots_view c.whole.new.self) c.args.number (map progress_of c.put.new.stages.items) c.whole.result runs
    (progress_put c.args.self.now.stages.items c.put.new.stages.items c.args.number stage.Joining c.put.ensures)
    c.whole.ensures.answer c.whole.ensures.made).0
