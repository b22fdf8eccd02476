use Rattle.std.proofs.Common.{◌≡◌, ◌∙◌, ◌+◌, Some, ap, eqb, map, refl, slice_get, sym, true, arith, length}
use Rattle.std.specs.Prelude.{slice_index}
use Rattle.std.proofs.lemmas.List.{length-map}
use Rattle.board.specs.SlotViews.{slots_view}
use Rattle.stages.specs.Progress.{Made, is_joining}
use Rattle.stages.specs.Slots.{task_of}
use Rattle.stages.specs.Stages.{is_among, progress_of}
use Rattle.stages.specs.declared.stage.Stage.TheVariants as stage
use Rattle.board.proofs.BoardLaws.{joining_at, joining_reads, progress_put, released_same, same_store, size, slot_at, sound_wholed, uses_same, view_put}
use Rattle.board.proofs.SoundLaws.{progress_released}
use Rattle.board.proofs.slots.Slots.whole.Goals as goal

pub read_less-requires : goal.read_less-requires
read_less-requires g c =
    let joins : is_joining (slice_get (map progress_of c.args.self.now.stages.items) c.args.number) ≡ true =
    ap (λ l. is_joining (slice_get (map progress_of l) c.args.number)) (sym c.deref.ensures.value) ∙ (sym c.is_joining.ensures ∙ c.if-not-is_joining.false) in
    let low = size _ _ _ _ _ _ _ c.args.self.now.sound c.args.number stage.Joining (joining_at _ _ _ _ _ _ _ c.args.self.now.sound c.args.number joins) in
    joining_reads _ _ _ _ _ _ _ c.args.self.now.sound c.args.number (task_of {N = _} c.index.result.now) joins
    (slot_at (task_of {N = _}) c.args.self.now.slots.items (length c.args.self.now.slots.items) c.args.number c.index.result.now refl (omega (arith, low, length-map c.args.self.now.slots.items (task_of {N = _}))) c.index.ensures)

pub index-requires-2 : goal.index-requires-2
index-requires-2 g c =
    let joins : is_joining (slice_get (map progress_of c.args.self.now.stages.items) c.args.number) ≡ true =
    ap (λ l. is_joining (slice_get (map progress_of l) c.args.number)) (sym c.deref.ensures.value) ∙ (sym c.is_joining.ensures ∙ c.if-not-is_joining.false) in
    let low = size _ _ _ _ _ _ _ c.args.self.now.sound c.args.number stage.Joining (joining_at _ _ _ _ _ _ _ c.args.self.now.sound c.args.number joins) in
    omega (arith, low, c.args.self.now.sound.waked.sized, length-map c.args.self.now.readers.items (λ r. r.items))

pub invariant_of-self-2 : goal.invariant_of-self-2
invariant_of-self-2 g c =
    let joins : is_joining (slice_get (map progress_of c.args.self.now.stages.items) c.args.number) ≡ true =
    ap (λ l. is_joining (slice_get (map progress_of l) c.args.number)) (sym c.deref.ensures.value) ∙ (sym c.is_joining.ensures ∙ c.if-not-is_joining.false) in
    let low = size _ _ _ _ _ _ _ c.args.self.now.sound c.args.number stage.Joining (joining_at _ _ _ _ _ _ _ c.args.self.now.sound c.args.number joins) in
    let task = slot_at (task_of {N = _}) c.args.self.now.slots.items (length c.args.self.now.slots.items) c.args.number c.index.result.now refl (omega (arith, low, length-map c.args.self.now.slots.items (task_of {N = _}))) c.index.ensures in
    record {
      sound = sound_wholed _ _ _ _ _ _ _ c.args.self.now.sound c.args.number (task_of {N = _} c.index.result.now) (stage.Done c.args.store)
          c.put.new.stages.items c.release_each.new.stages.items c.release.new.stages.items c.read_less.new.reads.items c.deref-8.result.now c.wake.new.ready.items _
          (map (task_of {N = _}) c.deref-6.result.now) (map progress_of c.deref-7.result.now)
          joins task refl (λ s e. same_store _ _ _ _ (c.requires.right joins) e) refl refl
          c.put.ensures c.read_less.ensures.sized c.read_less.ensures.counts
          (λ j. released_same _ _ _ _ _ (c.release_each.ensures j) (uses_same c.deref-2.result.now c.deref-3.result.now c.args.self.now.holds.items c.read_less.new.reads.items j c.deref-2.ensures.value c.deref-3.ensures.value))
          (λ j. released_same _ _ _ _ _ (c.release.ensures j) (uses_same c.deref-4.result.now c.deref-5.result.now c.args.self.now.holds.items c.read_less.new.reads.items j c.deref-4.ensures.value c.deref-5.ensures.value))
          (slot_at (λ r. r.items) c.args.self.now.readers.items (length c.args.self.now.readers.items) c.args.number c.index-2.result.now refl (omega (arith, low, c.args.self.now.sound.waked.sized, length-map c.args.self.now.readers.items (λ r. r.items))) c.index-2.ensures ∙ ap Some (sym c.deref-8.ensures))
          c.wake.ensures.capacity c.wake.ensures.numbers
          (ap (map (task_of {N = _})) c.deref-6.ensures.value) (ap (map progress_of) c.deref-7.ensures.value);
    }

pub returns-clause-made : goal.returns-clause-made
returns-clause-made g c =
    view_put (slots_view c.args.self.now) (map progress_of c.release.new.stages.items) c.args.number Made
    (progress_released c.release_each.new.stages.items c.release.new.stages.items (λ j. eqb c.args.number j) (λ j. slice_index c.deref-4.result.now j + slice_index c.deref-5.result.now j) c.release.ensures
    ∙ (progress_released c.put.new.stages.items c.release_each.new.stages.items (λ j. is_among c.index.result.now.inputs j) (λ j. slice_index c.deref-2.result.now j + slice_index c.deref-3.result.now j) c.release_each.ensures
    ∙ progress_put c.args.self.now.stages.items c.put.new.stages.items c.args.number (stage.Done c.args.store) c.put.ensures))
