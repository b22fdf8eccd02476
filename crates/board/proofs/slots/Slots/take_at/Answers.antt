use Rattle.std.proofs.Common.{◌∙◌, ℕ, ap, arith, length, map, refl, slice_get}
use Rattle.std.proofs.lemmas.List.{length-map}
use Rattle.board.specs.SlotViews.{slots_view}
use Rattle.stages.specs.Sharing.{stored_at}
use Rattle.stages.specs.Slots.{task_of}
use Rattle.board.specs.Stores.{stored_for}
use Rattle.model.specs.declared.shape.Signature.{Signature}
use Rattle.model.specs.Object.{rows_of}
use Rattle.stages.specs.Stages.{has_store, progress_of}
use Rattle.board.specs.declared.piece.TaskRecipe.TheVariants.{Own}
use Rattle.board.proofs.BoardLaws.{slot_at}
use Rattle.board.proofs.OutLaws.{cc_stages, each-first, each-mask, each-old, each-second, ready_at, recipe_out, sound_out, sound_room, stores_there, taken_view, untaken_after}
use Rattle.board.proofs.PieceLaws.{had_all, object_for, piece_for, whole_is}
use Rattle.board.proofs.slots.Slots.take_at.Goals as goal

pub index-slot-requires : goal.index-slot-requires
index-slot-requires g c =
    let low = (ready_at _ _ _ _ _ _ _ c.args.self.now.sound c.args.at c.args.number c.requires).0 in
    omega (arith, low, length-map c.args.self.now.slots.items (task_of {N = _}))

pub share-requires : goal.share-requires
share-requires g c =
    let low = (ready_at _ _ _ _ _ _ _ c.args.self.now.sound c.args.at c.args.number c.requires).0 in
    let task = slot_at (task_of {N = _}) c.args.self.now.slots.items (length c.args.self.now.slots.items) c.args.number c.index-slot.result.now refl (omega (arith, low, length-map c.args.self.now.slots.items (task_of {N = _}))) c.index-slot.ensures in
    rw c.mask.ensures (each-mask {T = ℕ} (λ i. has_store (slice_get c.deref.result.now i)) c.index-slot.result.now.inputs (stores_there _ _ _ _ _ _ _ c.args.self.now.sound c.args.at c.args.number c.requires c.deref.result.now (task_of {N = _} c.index-slot.result.now) task c.deref.ensures.value))

pub share-requires-2 : goal.share-requires-2
share-requires-2 g c =
    let low = (ready_at _ _ _ _ _ _ _ c.args.self.now.sound c.args.at c.args.number c.requires).0 in
    let task = slot_at (task_of {N = _}) c.args.self.now.slots.items (length c.args.self.now.slots.items) c.args.number c.index-slot.result.now refl (omega (arith, low, length-map c.args.self.now.slots.items (task_of {N = _}))) c.index-slot.ensures in
    rw c.first.ensures (each-first {T = ℕ} (λ i. has_store (slice_get c.deref-2.result.now i)) c.index-slot.result.now.inputs (stores_there _ _ _ _ _ _ _ c.args.self.now.sound c.args.at c.args.number c.requires c.deref-2.result.now (task_of {N = _} c.index-slot.result.now) task c.deref-2.ensures.value))

pub share-requires-3 : goal.share-requires-3
share-requires-3 g c =
    let low = (ready_at _ _ _ _ _ _ _ c.args.self.now.sound c.args.at c.args.number c.requires).0 in
    let task = slot_at (task_of {N = _}) c.args.self.now.slots.items (length c.args.self.now.slots.items) c.args.number c.index-slot.result.now refl (omega (arith, low, length-map c.args.self.now.slots.items (task_of {N = _}))) c.index-slot.ensures in
    rw c.second.ensures (each-second {T = ℕ} (λ i. has_store (slice_get c.deref-3.result.now i)) c.index-slot.result.now.inputs (stores_there _ _ _ _ _ _ _ c.args.self.now.sound c.args.at c.args.number c.requires c.deref-3.result.now (task_of {N = _} c.index-slot.result.now) task c.deref-3.ensures.value))

pub claim-requires : goal.claim-requires
claim-requires g c =
    let low = (ready_at _ _ _ _ _ _ _ c.args.self.now.sound c.args.at c.args.number c.requires).0 in
    let task = slot_at (task_of {N = _}) c.args.self.now.slots.items (length c.args.self.now.slots.items) c.args.number c.index-slot.result.now refl (omega (arith, low, length-map c.args.self.now.slots.items (task_of {N = _}))) c.index-slot.ensures in
    rw c.old.ensures (each-old {T = ℕ} (λ i. has_store (slice_get c.args.self.now.stages.items i)) c.index-slot.result.now.inputs (stores_there _ _ _ _ _ _ _ c.args.self.now.sound c.args.at c.args.number c.requires c.args.self.now.stages.items (task_of {N = _} c.index-slot.result.now) task refl))

pub take_recipe-recipe-requires : goal.take_recipe-recipe-requires
take_recipe-recipe-requires g c =
    let low = (ready_at _ _ _ _ _ _ _ c.args.self.now.sound c.args.at c.args.number c.requires).0 in
    let task = slot_at (task_of {N = _}) c.args.self.now.slots.items (length c.args.self.now.slots.items) c.args.number c.index-slot.result.now refl (omega (arith, low, length-map c.args.self.now.slots.items (task_of {N = _}))) c.index-slot.ensures in
    untaken_after _ _ _ _ _ _ _ c.args.self.now.sound c.args.at c.args.number c.requires (task_of {N = _} c.index-slot.result.now) task c.deref-4.result.now c.deref-5.result.now c.claim.new.stages.items (rw c.old.ensures at c.in_ok-old.ensures.stages)

pub invariant_of-self-2 : goal.invariant_of-self-2
invariant_of-self-2 g c =
    let low = (ready_at _ _ _ _ _ _ _ c.args.self.now.sound c.args.at c.args.number c.requires).0 in
    let task = slot_at (task_of {N = _}) c.args.self.now.slots.items (length c.args.self.now.slots.items) c.args.number c.index-slot.result.now refl (omega (arith, low, length-map c.args.self.now.slots.items (task_of {N = _}))) c.index-slot.ensures in
    let claimed = (rw c.old.ensures at c.in_ok-old.ensures.stages) ∙ cc_stages c.args.self.now.stages.items c.deref-4.result.now c.deref-5.result.now c.args.self.now.holds.items c.args.self.now.reads.items c.index-slot.result.now.inputs.old c.deref-4.ensures.value c.deref-5.ensures.value in
    let removed = c.remove_at.ensures.items in
    let out = sound_out _ _ _ _ _ _ _ c.args.self.now.sound c.args.at c.args.number c.requires (task_of {N = _} c.index-slot.result.now)
    c.claim.new.stages.items c.take_recipe-recipe.new.stages.items c.remove_at.new.ready.items task
    (object_for _ _ _ _ _ _ _ c.args.self.now.sound c.args.number (task_of {N = _} c.index-slot.result.now) task
    (stores_there _ _ _ _ _ _ _ c.args.self.now.sound c.args.at c.args.number c.requires c.args.self.now.stages.items (task_of {N = _} c.index-slot.result.now) task refl)
    (stored_for (record { old = c.in_ok-old.old; mask = c.in_ok-mask.mask; first = c.in_ok-first.first; second = c.in_ok-second.second }))
    (had_all (record { old = c.in_ok-old.old; mask = c.in_ok-mask.mask; first = c.in_ok-first.first; second = c.in_ok-second.second }) c.args.self.now.stages.items c.index-slot.result.now.inputs
    (rw c.old.ensures at c.in_ok-old.ensures.store)
    ((rw c.mask.ensures at c.in_ok-mask.ensures) ∙ ap (λ l. stored_at l c.index-slot.result.now.inputs.mask) c.deref.ensures.value)
    ((rw c.first.ensures at c.in_ok-first.ensures) ∙ ap (λ l. stored_at l c.index-slot.result.now.inputs.first) c.deref-2.ensures.value)
    ((rw c.second.ensures at c.in_ok-second.ensures) ∙ ap (λ l. stored_at l c.index-slot.result.now.inputs.second) c.deref-3.ensures.value)) c.deref.result)
    claimed c.take_recipe-recipe.ensures.stages removed in
    record { sound = sound_room _ _ _ _ _ _ _ _ out.0 (omega (arith, c.remove_at.ensures.capacity)) }

pub returns-clause-taken : goal.returns-clause-taken
returns-clause-taken g c =
    let low = (ready_at _ _ _ _ _ _ _ c.args.self.now.sound c.args.at c.args.number c.requires).0 in
    let task = slot_at (task_of {N = _}) c.args.self.now.slots.items (length c.args.self.now.slots.items) c.args.number c.index-slot.result.now refl (omega (arith, low, length-map c.args.self.now.slots.items (task_of {N = _}))) c.index-slot.ensures in
    let claimed = (rw c.old.ensures at c.in_ok-old.ensures.stages) ∙ cc_stages c.args.self.now.stages.items c.deref-4.result.now c.deref-5.result.now c.args.self.now.holds.items c.args.self.now.reads.items c.index-slot.result.now.inputs.old c.deref-4.ensures.value c.deref-5.ensures.value in
    let removed = c.remove_at.ensures.items in
    let out = sound_out _ _ _ _ _ _ _ c.args.self.now.sound c.args.at c.args.number c.requires (task_of {N = _} c.index-slot.result.now)
    c.claim.new.stages.items c.take_recipe-recipe.new.stages.items c.remove_at.new.ready.items task
    (object_for _ _ _ _ _ _ _ c.args.self.now.sound c.args.number (task_of {N = _} c.index-slot.result.now) task
    (stores_there _ _ _ _ _ _ _ c.args.self.now.sound c.args.at c.args.number c.requires c.args.self.now.stages.items (task_of {N = _} c.index-slot.result.now) task refl)
    (stored_for (record { old = c.in_ok-old.old; mask = c.in_ok-mask.mask; first = c.in_ok-first.first; second = c.in_ok-second.second }))
    (had_all (record { old = c.in_ok-old.old; mask = c.in_ok-mask.mask; first = c.in_ok-first.first; second = c.in_ok-second.second }) c.args.self.now.stages.items c.index-slot.result.now.inputs
    (rw c.old.ensures at c.in_ok-old.ensures.store)
    ((rw c.mask.ensures at c.in_ok-mask.ensures) ∙ ap (λ l. stored_at l c.index-slot.result.now.inputs.mask) c.deref.ensures.value)
    ((rw c.first.ensures at c.in_ok-first.ensures) ∙ ap (λ l. stored_at l c.index-slot.result.now.inputs.first) c.deref-2.ensures.value)
    ((rw c.second.ensures at c.in_ok-second.ensures) ∙ ap (λ l. stored_at l c.index-slot.result.now.inputs.second) c.deref-3.ensures.value)) c.deref.result)
    claimed c.take_recipe-recipe.ensures.stages removed in
    taken_view (slots_view c.args.self.now) (map progress_of c.take_recipe-recipe.new.stages.items) c.args.number (task_of {N = _} c.index-slot.result.now) task out.1

pub returns-clause-piece : goal.returns-clause-piece
returns-clause-piece g c =
    let low = (ready_at _ _ _ _ _ _ _ c.args.self.now.sound c.args.at c.args.number c.requires).0 in
    let task = slot_at (task_of {N = _}) c.args.self.now.slots.items (length c.args.self.now.slots.items) c.args.number c.index-slot.result.now refl (omega (arith, low, length-map c.args.self.now.slots.items (task_of {N = _}))) c.index-slot.ensures in
    let claimed = (rw c.old.ensures at c.in_ok-old.ensures.stages) ∙ cc_stages c.args.self.now.stages.items c.deref-4.result.now c.deref-5.result.now c.args.self.now.holds.items c.args.self.now.reads.items c.index-slot.result.now.inputs.old c.deref-4.ensures.value c.deref-5.ensures.value in
    let removed = c.remove_at.ensures.items in
    piece_for _ _ _ _ _ _ _ c.args.self.now.sound c.args.number (task_of {N = _} c.index-slot.result.now) task
    (stores_there _ _ _ _ _ _ _ c.args.self.now.sound c.args.at c.args.number c.requires c.args.self.now.stages.items (task_of {N = _} c.index-slot.result.now) task refl)
    _ (had_all (record { old = c.in_ok-old.old; mask = c.in_ok-mask.mask; first = c.in_ok-first.first; second = c.in_ok-second.second }) c.args.self.now.stages.items c.index-slot.result.now.inputs
    (rw c.old.ensures at c.in_ok-old.ensures.store)
    ((rw c.mask.ensures at c.in_ok-mask.ensures) ∙ ap (λ l. stored_at l c.index-slot.result.now.inputs.mask) c.deref.ensures.value)
    ((rw c.first.ensures at c.in_ok-first.ensures) ∙ ap (λ l. stored_at l c.index-slot.result.now.inputs.first) c.deref-2.ensures.value)
    ((rw c.second.ensures at c.in_ok-second.ensures) ∙ ap (λ l. stored_at l c.index-slot.result.now.inputs.second) c.deref-3.ensures.value))
    c.deref.result refl refl
    (c.rows-rows.ensures ∙ ap (λ (s : Signature). rows_of s.shape) c.index-slot.result.now.known)
    (recipe_out _ _ _ _ _ _ _ c.args.self.now.sound c.args.at c.args.number c.requires (task_of {N = _} c.index-slot.result.now) c.take_recipe-recipe.result c.claim.new.stages.items task claimed c.take_recipe-recipe.ensures.recipe)

pub returns-clause-whole : goal.returns-clause-whole
returns-clause-whole g c =
    let low = (ready_at _ _ _ _ _ _ _ c.args.self.now.sound c.args.at c.args.number c.requires).0 in
    let task = slot_at (task_of {N = _}) c.args.self.now.slots.items (length c.args.self.now.slots.items) c.args.number c.index-slot.result.now refl (omega (arith, low, length-map c.args.self.now.slots.items (task_of {N = _}))) c.index-slot.ensures in
    let claimed = (rw c.old.ensures at c.in_ok-old.ensures.stages) ∙ cc_stages c.args.self.now.stages.items c.deref-4.result.now c.deref-5.result.now c.args.self.now.holds.items c.args.self.now.reads.items c.index-slot.result.now.inputs.old c.deref-4.ensures.value c.deref-5.ensures.value in
    whole_is 0 c.rows-rows.result (task_of {N = _} c.index-slot.result.now) (Own c.take_recipe-recipe.result) refl
    (c.rows-rows.ensures ∙ ap (λ (s : Signature). rows_of s.shape) c.index-slot.result.now.known)
    (recipe_out _ _ _ _ _ _ _ c.args.self.now.sound c.args.at c.args.number c.requires (task_of {N = _} c.index-slot.result.now) c.take_recipe-recipe.result c.claim.new.stages.items task claimed c.take_recipe-recipe.ensures.recipe)
