use Rattle.std.proofs.Common.{◌∙◌, ◌+◌, ◌-◌, ap, cond, eqb, map, slice_get, slice_set, sym}
use Rattle.std.specs.Prelude.{slice_index}
use Rattle.board.proofs.BoardLaws.{answered, chosen, gone_is, refused_gone, released_same, sound_gone, there, uses_same, view_holds}
use Rattle.board.proofs.SoundLaws.{progress_released}
use Rattle.stages.specs.Stages.{progress_of}
use Rattle.board.specs.SlotViews.{slots_view}
use Rattle.board.specs.Looks.{is_seen_gone, seen_at}
use Rattle.board.proofs.slots.Slots.let_go.Goals as goal

pub returns-then-is_gone-clause-answer : goal.returns-then-is_gone-clause-answer
returns-then-is_gone-clause-answer g c =
    refused_gone _ _ _ _ (gone_is _ _ _ _ _ _ _ c.args.self.now.sound c.args.number
    ∙ (ap (λ l. is_seen_gone (seen_at (slice_get l c.args.number))) (sym c.deref.ensures.value) ∙ (sym c.is_gone.ensures ∙ c.if-is_gone.true)))

pub hold_less-requires : goal.hold_less-requires
hold_less-requires g c =
    there _ _ _ _ _ _ _ c.args.self.now.sound c.args.number
    (ap (λ l. is_seen_gone (seen_at (slice_get l c.args.number))) (sym c.deref.ensures.value) ∙ (sym c.is_gone.ensures ∙ c.if-is_gone.false))

pub invariant_of-self-2 : goal.invariant_of-self-2
invariant_of-self-2 g c =
    let less = c.hold_less.ensures.holds ∙ ap (λ b. cond b (slice_set c.args.self.now.holds.items c.args.number (slice_index c.args.self.now.holds.items c.args.number - 1)) c.args.self.now.holds.items) c.if-not-hold_less.false in
    record {
      sound = sound_gone _ _ _ _ _ _ _ c.args.self.now.sound c.args.number c.hold_less.new.holds.items c.release.new.stages.items
          less (λ j. released_same _ _ _ _ _ (c.release.ensures j)
          (uses_same c.deref-2.result.now c.deref-3.result.now c.hold_less.new.holds.items c.args.self.now.reads.items j c.deref-2.ensures.value c.deref-3.ensures.value));
    }

pub returns-clause-answer : goal.returns-clause-answer
returns-clause-answer g c =
    answered _ _ _ _ _
    (gone_is _ _ _ _ _ _ _ c.args.self.now.sound c.args.number
    ∙ (ap (λ l. is_seen_gone (seen_at (slice_get l c.args.number))) (sym c.deref.ensures.value) ∙ (sym c.is_gone.ensures ∙ c.if-is_gone.false)))
    (chosen _ _ _ (sym c.hold_less.ensures.counted ∙ c.if-not-hold_less.false))

pub returns-clause-gone : goal.returns-clause-gone
returns-clause-gone g c =
    view_holds (slots_view c.args.self.now) (map progress_of c.release.new.stages.items) c.hold_less.new.holds.items c.args.number (slice_index c.args.self.now.holds.items c.args.number - 1)
    (progress_released c.args.self.now.stages.items c.release.new.stages.items (λ j. eqb c.args.number j) (λ j. slice_index c.deref-2.result.now j + slice_index c.deref-3.result.now j) c.release.ensures)
    (c.hold_less.ensures.holds ∙ ap (λ b. cond b (slice_set c.args.self.now.holds.items c.args.number (slice_index c.args.self.now.holds.items c.args.number - 1)) c.args.self.now.holds.items) c.if-not-hold_less.false)
