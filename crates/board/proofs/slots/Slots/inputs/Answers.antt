use Rattle.std.proofs.Common.{◌∙◌, Some, ap, length, slice_get, sym}
use Rattle.std.specs.Option.{option_map}
use Rattle.std.proofs.lemmas.Bool.{ltb-true}
use Rattle.std.proofs.lemmas.Option.{slice_get-get_or, slice_get-map}
use Rattle.stages.specs.Slots.{task_of}
use Rattle.board.proofs.slots.Slots.inputs.Goals as goal

pub returns-clause-lower : goal.returns-clause-lower
returns-clause-lower g c =
    let found = c.in_ok-slot.ensures.lookup in
    let low = ltb-true c.args.number (length c.deref.result.now) (sym found.0) in
    let there = ap (λ l. slice_get l c.args.number) (sym c.deref.ensures.value) ∙ (slice_get-get_or c.deref.result.now c.args.number _ low ∙ ap Some (sym found.1)) in
    rw c.roles.ensures (c.args.self.now.sound.flows.lower c.args.number (task_of {N = _} c.in_ok-slot.slot.now)
    (slice_get-map (task_of {N = _}) c.args.self.now.slots.items c.args.number ∙ ap (option_map (task_of {N = _})) there))
