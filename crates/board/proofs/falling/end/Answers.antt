use Rattle.std.proofs.Common.{arith, get_or, refl}
use Rattle.std.proofs.lemmas.List.{length-map}
use Rattle.stages.specs.Slots.{task_of}
use Rattle.board.proofs.BoardLaws.{released_same, uses_same}
use Rattle.board.proofs.FailLaws.{falling_end, places_read, slot_or, within}
use Rattle.board.proofs.falling.end.Goals as goal

pub read_less-requires : goal.read_less-requires
read_less-requires g c =
    let low = within _ _ _ _ _ c.requires.falling c.requires.unfinished in
    places_read _ _ _ _ _ c.requires.falling c.requires.unfinished (task_of {N = _} (get_or c.args.slots.now c.args.number c.index-slots-number.result))
    (slot_or (task_of {N = _}) c.args.slots.now c.args.number c.index-slots-number.result (omega (arith, low, length-map c.args.slots.now (task_of {N = _}))))

pub returns : goal.returns
returns g c =
    let low = within _ _ _ _ _ c.requires.falling c.requires.unfinished in
    let ends = falling_end _ _ _ _ _ c.requires.falling c.requires.unfinished (task_of {N = _} (get_or c.args.slots.now c.args.number c.index-slots-number.result)) c.put.new.stages.items c.release_each.new.stages.items c.read_less.new.reads.items
    (slot_or (task_of {N = _}) c.args.slots.now c.args.number c.index-slots-number.result (omega (arith, low, length-map c.args.slots.now (task_of {N = _}))))
    c.put.ensures c.read_less.ensures.sized c.read_less.ensures.counts
    (λ j. released_same _ _ _ _ _ (c.release_each.ensures j) (uses_same c.args.holds.now c.deref.result.now c.args.holds.now c.read_less.new.reads.items j refl c.deref.ensures.value)) in
    record { falling = ends.0; progress = ends.1 }
