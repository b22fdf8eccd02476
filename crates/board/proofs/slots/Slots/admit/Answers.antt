use Rattle.std.proofs.Common.{◌≡◌, ◌∙◌, ◌+◌, ◌&&◌, ◌||◌, ◌++◌, ◌∷◌, [], ℕ, List, ap, arith, cond, length, map, not, refl, slice_get, sym}
use Rattle.std.specs.Prelude.{slice_index}
use Rattle.std.specs.VecDeque.{deque_capacity}
use Rattle.std.proofs.lemmas.List.{length-map}
use Rattle.board.specs.SlotViews.{slots_view}
use Rattle.stages.specs.Numbers.{has_in}
use Rattle.stages.specs.Places.{each, places_of}
use Rattle.stages.specs.Progress.{is_failed, is_made}
use Rattle.stages.specs.Slots.{task_of}
use Rattle.stages.specs.Stages.{progress_of}
use Rattle.stages.specs.declared.stage.Stage.{Stage}
use Rattle.stages.specs.declared.stage.Stage.TheVariants as stage
use Rattle.board.proofs.FitLaws.{few_ready, first_is, grows_is, is_snoc, low_each, map_snoc, places_within, ready_waits, reads_room, sound_admitted, sound_more, task_is, view_issued}
use Rattle.stages.proofs.WakeLaws.{grows_self}
use Rattle.board.proofs.slots.Slots.admit.Goals as goal

pub wait_for-requires-clause-low : goal.wait_for-requires-clause-low
wait_for-requires-clause-low g c =
    low_each _ _ c.args.recipe c.args.inputs c.requires (length c.args.self.now.readers.items)
    (omega (arith, c.args.self.now.sound.waked.sized, length-map c.args.self.now.readers.items (λ r. r.items)))

pub invariant_of-self : goal.invariant_of-self
invariant_of-self g c = record {
  sound =
      sound_more _ _ _ _ _ _ _ c.args.self.now.sound _ _ _ _ _ _ _ refl refl refl refl c.wait_for.ensures.grows refl (omega arith);
}

pub make_room-has_room-requires : goal.make_room-has_room-requires
make_room-has_room-requires g c =
    omega (arith, few_ready _ _ _ _ _ _ _ c.args.self.now.sound, length-map c.args.self.now.slots.items (task_of {N = _}))

pub invariant_of-self-then-not-has_room : goal.invariant_of-self-then-not-has_room
invariant_of-self-then-not-has_room g c = record {
  sound =
      sound_more _ _ _ _ _ _ _ c.args.self.now.sound _ _ _ _ _ _ _ (ap (map (task_of {N = _})) c.make_room-has_room.ensures.slots) c.make_room-has_room.ensures.stages c.make_room-has_room.ensures.holds c.make_room-has_room.ensures.reads
      (grows_is _ _ _ c.wait_for.ensures.grows (ap (map (λ r. r.items)) c.make_room-has_room.ensures.readers)) c.make_room-has_room.ensures.ready c.make_room-has_room.ensures.ready_grows;
}

pub read_if-requires-clause-room : goal.read_if-requires-clause-room
read_if-requires-clause-room g c k =
    let e = ap (λ (l : List ℕ). slice_index l k) c.make_room-has_room.ensures.reads in
    let r = reads_room _ _ _ _ _ _ _ c.args.self.now.sound c.args.recipe c.args.inputs (length c.args.self.now.slots.items) k (length-map c.args.self.now.slots.items (task_of {N = _})) c.if-not-has_room.ensures.few in
    omega (arith, e, r)

pub read_if-requires-clause-there : goal.read_if-requires-clause-there
read_if-requires-clause-there g c k h =
    let l = places_within _ _ c.args.recipe c.args.inputs c.requires k h in
    omega (arith, l, ap (λ (l : List ℕ). length l) c.make_room-has_room.ensures.reads, c.args.self.now.sound.counted.reads_sized)

pub offer-requires : goal.offer-requires
offer-requires g c =
    omega (arith, few_ready _ _ _ _ _ _ _ c.args.self.now.sound, ap (λ (l : List ℕ). length l) c.make_room-has_room.ensures.ready, c.if-not-has_room.ensures.ready_room, length-map c.args.self.now.slots.items (task_of {N = _}))

pub invariant_of-self-2 : goal.invariant_of-self-2
invariant_of-self-2 g c =
    let number_is : c.len-number.result ≡ length (map (task_of {N = _}) c.args.self.now.slots.items) = omega (arith, c.len-number.ensures, length-map c.args.self.now.slots.items (task_of {N = _})) in
    let waits_is : c.may_wait-waits.result ≡ each (λ i. not (is_failed (slice_get (map progress_of c.args.self.now.stages.items) i))) c.args.inputs =
    c.may_wait-waits.ensures ∙ ap (λ (l : List Stage). each (λ i. not (is_failed (slice_get (map progress_of l) i))) c.args.inputs) (c.deref-3.ensures.value ∙ c.make_room-has_room.ensures.stages) in
    let stage_is = is_snoc c.args.self.now.stages.items c.make_room-has_room.new.stages.items c.push_reserved-2.new.self.items c.first_stage.result (cond c.may_wait-waits.result (stage.Untaken c.args.recipe) stage.Failed)
    c.push_reserved-2.ensures.items c.make_room-has_room.ensures.stages c.first_stage.ensures in
    let slots_are = map_snoc (task_of {N = _}) c.args.self.now.slots.items c.make_room-has_room.new.slots.items c.push_reserved.new.self.items c.new.result (record { recipe = c.args.recipe; inputs = c.args.inputs })
    c.push_reserved.ensures.items c.make_room-has_room.ensures.slots (task_is (task_of {N = _} c.new.result) c.args.recipe c.args.inputs c.new.ensures.recipe c.new.ensures.inputs) in
    let holds_are = is_snoc c.args.self.now.holds.items c.make_room-has_room.new.holds.items c.push_reserved-3.new.self.items 1 1 c.push_reserved-3.ensures.items c.make_room-has_room.ensures.holds refl in
    let wait_is = ap (λ (n : ℕ). each (λ i. is_made (slice_get (map progress_of c.args.self.now.stages.items) i) || has_in n (slice_get (map (λ r. r.items) c.wait_for.new.readers.items) i)) c.args.inputs) (sym number_is)
    ∙ (ap (λ (l : List Stage). each (λ i. is_made (slice_get (map progress_of l) i) || has_in c.len-number.result (slice_get (map (λ r. r.items) c.wait_for.new.readers.items) i)) c.args.inputs) (sym c.deref-2.ensures.value) ∙ c.in_ok-wait_for.ensures.waits) in
    let base = sound_admitted _ _ _ _ _ _ _ c.args.self.now.sound c.args.recipe c.args.inputs c.may_wait-waits.result c.read_if.new.reads.items (map (λ r. r.items) c.wait_for.new.readers.items) (deque_capacity c.offer.new.ready) c.requires waits_is
    (c.read_if.ensures.sized ∙ ap (λ (l : List ℕ). length l) c.make_room-has_room.ensures.reads)
    (λ j. c.read_if.ensures.counts j ∙ ap (λ (l : List ℕ). slice_index l j + cond c.may_wait-waits.result (places_of c.args.inputs j) 0) c.make_room-has_room.ensures.reads)
    c.wait_for.ensures.grows wait_is (let r = c.if-not-has_room.ensures.ready_room in let more = c.offer.ensures.capacity in omega (arith, r, more, length-map c.args.self.now.slots.items (task_of {N = _}))) in
    let ready_is = c.offer.ensures.numbers ∙ (ap (λ (l : List ℕ). l ++ cond c.are_made-is_ready.result (c.len-number.result ∷ []) []) c.make_room-has_room.ensures.ready
    ∙ (ap (λ b. c.args.self.now.ready.items ++ cond b (c.len-number.result ∷ []) []) (ready_waits c.are_made-is_ready.result c.may_wait-waits.result (map progress_of c.args.self.now.stages.items) c.args.inputs (c.are_made-is_ready.ensures ∙ ap (λ (l : List Stage). each (λ i. is_made (slice_get (map progress_of l) i)) c.args.inputs) c.deref.ensures.value) waits_is)
    ∙ ap (λ (n : ℕ). c.args.self.now.ready.items ++ cond (c.may_wait-waits.result && each (λ i. is_made (slice_get (map progress_of c.args.self.now.stages.items) i)) c.args.inputs) (n ∷ []) []) number_is)) in
    record {
      sound = sound_more _ _ _ _ _ _ _ base.0 _ _ _ _ _ _ _ slots_are stage_is holds_are c.push_reserved-4.ensures.items
          (grows_is _ _ _ (grows_self _) (map_snoc (λ r. r.items) c.wait_for.new.readers.items c.make_room-has_room.new.readers.items c.push_reserved-5.new.self.items c.new-2.result [] c.push_reserved-5.ensures.items c.make_room-has_room.ensures.readers c.new-2.ensures.items))
          ready_is (omega arith);
    }

pub returns-clause-issued : goal.returns-clause-issued
returns-clause-issued g c =
    let number_is : c.len-number.result ≡ length (map (task_of {N = _}) c.args.self.now.slots.items) = omega (arith, c.len-number.ensures, length-map c.args.self.now.slots.items (task_of {N = _})) in
    let waits_is : c.may_wait-waits.result ≡ each (λ i. not (is_failed (slice_get (map progress_of c.args.self.now.stages.items) i))) c.args.inputs =
    c.may_wait-waits.ensures ∙ ap (λ (l : List Stage). each (λ i. not (is_failed (slice_get (map progress_of l) i))) c.args.inputs) (c.deref-3.ensures.value ∙ c.make_room-has_room.ensures.stages) in
    let stage_is = is_snoc c.args.self.now.stages.items c.make_room-has_room.new.stages.items c.push_reserved-2.new.self.items c.first_stage.result (cond c.may_wait-waits.result (stage.Untaken c.args.recipe) stage.Failed)
    c.push_reserved-2.ensures.items c.make_room-has_room.ensures.stages c.first_stage.ensures in
    let slots_are = map_snoc (task_of {N = _}) c.args.self.now.slots.items c.make_room-has_room.new.slots.items c.push_reserved.new.self.items c.new.result (record { recipe = c.args.recipe; inputs = c.args.inputs })
    c.push_reserved.ensures.items c.make_room-has_room.ensures.slots (task_is (task_of {N = _} c.new.result) c.args.recipe c.args.inputs c.new.ensures.recipe c.new.ensures.inputs) in
    let holds_are = is_snoc c.args.self.now.holds.items c.make_room-has_room.new.holds.items c.push_reserved-3.new.self.items 1 1 c.push_reserved-3.ensures.items c.make_room-has_room.ensures.holds refl in
    view_issued (slots_view c.args.self.now) _ _ _ _ c.args.note c.args.recipe c.args.inputs (progress_of (cond c.may_wait-waits.result (stage.Untaken c.args.recipe) stage.Failed))
    slots_are
    (map_snoc (λ s. s.note) c.args.self.now.slots.items c.make_room-has_room.new.slots.items c.push_reserved.new.self.items c.new.result c.args.note c.push_reserved.ensures.items c.make_room-has_room.ensures.slots c.new.ensures.note)
    (map_snoc progress_of c.args.self.now.stages.items c.args.self.now.stages.items c.push_reserved-2.new.self.items (cond c.may_wait-waits.result (stage.Untaken c.args.recipe) stage.Failed) _ stage_is refl refl)
    holds_are
    (first_is c.may_wait-waits.result (map progress_of c.args.self.now.stages.items) c.args.inputs c.args.recipe waits_is)
