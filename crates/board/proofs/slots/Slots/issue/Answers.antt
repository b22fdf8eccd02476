use Rattle.std.proofs.Common.{ap, arith, map, sym}
use Rattle.std.proofs.lemmas.List.{length-map}
use Rattle.std.proofs.lemmas.Bool.{MatchBool-at_false, MatchBool-at_true}
use Rattle.stages.specs.Slots.{task_of}
use Rattle.board.proofs.FitLaws.{accepts_there, low_below, there_accepts, there_by}
use Rattle.board.proofs.slots.Slots.issue.Goals as goal

pub returns-then-not-are_there-clause-stranger : goal.returns-then-not-are_there-clause-stranger
returns-then-not-are_there-clause-stranger g c e accepts =
    MatchBool-at_false _ _ c.if-not-are_there.true c.are_there.ensures
    (there_by _ _ _ _ _ _ (ap (map (task_of {N = _})) (sym c.deref.ensures.value)) (sym c.deref-2.ensures.value)
    (accepts_there _ _ _ _ _ _ _ c.args.self.now.sound c.args.recipe c.args.inputs accepts))

pub new-requires : goal.new-requires
new-requires g c =
    low_below _ _ c.args.recipe c.args.inputs
    (there_by _ _ _ _ _ _ (ap (map (task_of {N = _})) c.deref.ensures.value) c.deref-2.ensures.value (MatchBool-at_true _ _ c.if-not-are_there.false c.are_there.ensures))
    18446744073709551615 (omega (arith, length-map c.args.self.now.slots.items (task_of {N = _})))

pub returns-in-Ok-clause-accepted : goal.returns-in-Ok-clause-accepted
returns-in-Ok-clause-accepted g c =
    there_accepts _ _ _ _ _ _ _ c.args.self.now.sound c.args.recipe c.args.inputs
    (there_by _ _ _ _ _ _ (ap (map (task_of {N = _})) c.deref.ensures.value) c.deref-2.ensures.value (MatchBool-at_true _ _ c.if-not-are_there.false c.are_there.ensures))

pub returns-in-Ok-clause-absent : goal.returns-in-Ok-clause-absent
returns-in-Ok-clause-absent g c refused = absurd (refused (there_accepts _ _ _ _ _ _ _ c.args.self.now.sound c.args.recipe c.args.inputs (there_by _ _ _ _ _ _ (ap (map (task_of {N = _})) c.deref.ensures.value) c.deref-2.ensures.value (MatchBool-at_true _ _ c.if-not-are_there.false c.are_there.ensures))))

pub returns-in-Err-clause-absent : goal.returns-in-Err-clause-absent
returns-in-Err-clause-absent g c refused = absurd (refused (there_accepts _ _ _ _ _ _ _ c.args.self.now.sound c.args.recipe c.args.inputs (there_by _ _ _ _ _ _ (ap (map (task_of {N = _})) c.deref.ensures.value) c.deref-2.ensures.value (MatchBool-at_true _ _ c.if-not-are_there.false c.are_there.ensures))))
