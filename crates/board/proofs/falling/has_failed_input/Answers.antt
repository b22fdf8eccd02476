use Rattle.std.proofs.Common.{◌≡◌, ◌∙◌, None, Option, Some, ap, arith, false, map, not, slice_get, sym}
use Rattle.std.specs.Option.{option_map, option_map_or}
use Rattle.std.proofs.lemmas.Grind.{common_steps}
use Rattle.std.proofs.lemmas.Option.{gets, slice_get-map}
use Rattle.stages.specs.Places.{each}
use Rattle.stages.specs.Progress.{is_failed}
use Rattle.stages.specs.Slots.{task_of}
use Rattle.stages.specs.Stages.{progress_of}
use Rattle.stages.specs.Tasks.{Task}
use Rattle.board.proofs.falling.has_failed_input.Goals as goal

pub returns-in-Some : goal.returns-in-Some
returns-in-Some g c =
    let at : slice_get c.args.slots.now c.args.number ≡ Some c.in-Some.slot.now = grind (arith, common_steps, gets) in
    ap not c.none_failed.ensures
    ∙ sym (ap (λ (o : Option Task). option_map_or (λ (t : Task). not (each (λ i. not (is_failed (slice_get (map progress_of c.args.stages.now) i))) t.inputs)) o false)
    (slice_get-map (task_of {N = _}) c.args.slots.now c.args.number ∙ ap (option_map (task_of {N = _})) at))

pub returns-in-None : goal.returns-in-None
returns-in-None g c =
    let at : slice_get c.args.slots.now c.args.number ≡ None = grind (arith, common_steps, gets) in
    sym (ap (λ (o : Option Task). option_map_or (λ (t : Task). not (each (λ i. not (is_failed (slice_get (map progress_of c.args.stages.now) i))) t.inputs)) o false)
    (slice_get-map (task_of {N = _}) c.args.slots.now c.args.number ∙ ap (option_map (task_of {N = _})) at))
