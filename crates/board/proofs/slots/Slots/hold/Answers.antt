use Rattle.std.proofs.Common.{◌∙◌, ap, slice_get, sym}
use Rattle.board.proofs.BoardLaws.{answered, chosen, gone_is, refused_gone, sound_held, there}
use Rattle.board.specs.Looks.{is_seen_gone, seen_at}
use Rattle.board.proofs.slots.Slots.hold.Goals as goal

pub returns-then-is_gone-clause-answer : goal.returns-then-is_gone-clause-answer
returns-then-is_gone-clause-answer g c =
    refused_gone _ _ _ _ (gone_is _ _ _ _ _ _ _ c.args.self.now.sound c.args.number
    ∙ (ap (λ l. is_seen_gone (seen_at (slice_get l c.args.number))) (sym c.deref.ensures.value) ∙ (sym c.is_gone.ensures ∙ c.if-is_gone.true)))

pub hold_more-requires : goal.hold_more-requires
hold_more-requires g c =
    there _ _ _ _ _ _ _ c.args.self.now.sound c.args.number
    (ap (λ l. is_seen_gone (seen_at (slice_get l c.args.number))) (sym c.deref.ensures.value) ∙ (sym c.is_gone.ensures ∙ c.if-is_gone.false))

pub invariant_of-self : goal.invariant_of-self
invariant_of-self g c = record {
  sound =
      sound_held _ _ _ _ _ _ _ c.args.self.now.sound c.args.number c.hold_more.new.holds.items c.hold_more.result
      (ap (λ l. is_seen_gone (seen_at (slice_get l c.args.number))) (sym c.deref.ensures.value) ∙ (sym c.is_gone.ensures ∙ c.if-is_gone.false))
      c.hold_more.ensures.holds;
}

pub returns-clause-answer : goal.returns-clause-answer
returns-clause-answer g c =
    answered _ _ _ _ _
    (gone_is _ _ _ _ _ _ _ c.args.self.now.sound c.args.number
    ∙ (ap (λ l. is_seen_gone (seen_at (slice_get l c.args.number))) (sym c.deref.ensures.value) ∙ (sym c.is_gone.ensures ∙ c.if-is_gone.false)))
    (chosen _ _ _ (sym c.hold_more.ensures.counted ∙ c.if-not-hold_more.false))
