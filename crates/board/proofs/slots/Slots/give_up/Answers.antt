use Rattle.std.proofs.Common.{◌∙◌, ◌+◌, ap, false, length, map, not, nat_lt, refl, slice_get, sym}
use Rattle.std.specs.Prelude.{slice_index}
use Rattle.std.specs.Option.{option_map_or}
use Rattle.std.proofs.lemmas.Bool.{and_parts}
use Rattle.stages.specs.Progress.{is_unfinished}
use Rattle.stages.specs.Slots.{task_of}
use Rattle.stages.specs.Stages.{progress_of}
use Rattle.stages.specs.Views.{is_ready}
use Rattle.board.proofs.FailLaws.{falling_alone, falling_from, low_from, none_left, sound_failed}
use Rattle.stages.proofs.ReadyLaws.{offered_is}
use Rattle.board.proofs.slots.Slots.give_up.Goals as goal

pub end-requires-clause-falling : goal.end-requires-clause-falling
end-requires-clause-falling g c =
    let test = sym c.if-not-is_unasked.ensures in
    let parts = and_parts (option_map_or is_unfinished (slice_get (map progress_of c.deref.result.now) c.args.number) false) _ test in
    let un = ap (λ l. option_map_or is_unfinished (slice_get (map progress_of l) c.args.number) false) (sym c.deref.ensures.value) ∙ parts.0 in
    falling_from _ _ _ _ _ _ _ c.args.self.now.sound c.args.number un _ _ (ap (map (task_of {N = _})) c.deref-4.ensures.value) c.deref-5.ensures.value

pub invariant_of-self-2 : goal.invariant_of-self-2
invariant_of-self-2 g c =
    let test = sym c.if-not-is_unasked.ensures in
    let parts = and_parts (option_map_or is_unfinished (slice_get (map progress_of c.deref.result.now) c.args.number) false) _ test in
    let un = ap (λ l. option_map_or is_unfinished (slice_get (map progress_of l) c.args.number) false) (sym c.deref.ensures.value) ∙ parts.0 in
    let rest = and_parts (not (nat_lt 0 (slice_index c.deref-2.result.now c.args.number))) _ parts.1 in
    let unread = ap (λ l. slice_index l c.args.number) (sym c.deref-3.ensures.value) ∙ none_left (slice_index c.deref-3.result.now c.args.number) rest.1 in
    record {
      sound = sound_failed _ _ _ _ _ _ _ c.args.self.now.sound c.args.number un
          c.end.new.stages.items c.end.new.stages.items c.end.new.reads.items c.withdraw.new.ready.items _ (length (map (task_of {N = _}) c.args.self.now.slots.items)) (map (task_of {N = _}) c.deref-4.result.now) c.deref-5.result.now
          (ap (map (task_of {N = _})) c.deref-4.ensures.value) c.deref-5.ensures.value refl
          c.end.ensures.progress
          (falling_alone _ _ _ _ _ _ _ c.args.self.now.sound c.args.number un (c.args.number + 1) c.end.new.stages.items c.end.new.reads.items (map (task_of {N = _}) c.deref-4.result.now) c.deref-5.result.now
          (ap (map (task_of {N = _})) c.deref-4.ensures.value) unread c.end.ensures.progress c.end.ensures.falling)
          (record { made = λ k. refl; untaken = λ k h. h; ready = λ k. refl })
          (c.withdraw.ensures.numbers (is_ready (map (task_of {N = _}) c.args.self.now.slots.items) (map progress_of c.args.self.now.stages.items)) (length (map (task_of {N = _}) c.args.self.now.slots.items))
          (c.args.self.now.sound.offers ∙ sym (offered_is _ _)) (low_from _ _ _ _ _ _ _ c.args.self.now.sound c.args.number un))
          c.withdraw.ensures.capacity;
    }
