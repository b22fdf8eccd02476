use Rattle.std.proofs.Common.{◌∙◌, ap, length, map, slice_get, sym}
use Rattle.std.proofs.lemmas.Option.{slice_get_within}
use Rattle.board.specs.SlotViews.{slots_view}
use Rattle.stages.specs.Progress.{Joining, Untaken, is_joining}
use Rattle.stages.specs.Slots.{task_of}
use Rattle.stages.specs.Stages.{progress_of}
use Rattle.stages.specs.Views.{is_ready}
use Rattle.stages.specs.declared.stage.Stage.TheVariants as stage
use Rattle.board.proofs.BoardLaws.{progress_put}
use Rattle.board.proofs.GivenLaws.{alone_at, filled, sound_joined}
use Rattle.stages.proofs.ListLaws.{get_set_same}
use Rattle.stages.proofs.ReadyLaws.{offered_is, untaken_some}
use Rattle.board.proofs.slots.Slots.fill.Goals as goal

pub invariant_of-self : goal.invariant_of-self
invariant_of-self g c =
    let ts = map (task_of {N = _}) c.args.self.now.slots.items in
    let (t, is, alone) = alone_at (slice_get ts c.args.number) c.requires.alone in
    record {
      sound = sound_joined _ _ _ _ _ _ _ c.args.self.now.sound c.args.number c.requires.untaken t c.put.new.stages.items c.withdraw.new.ready.items _ is alone c.requires.object c.put.ensures
          (c.withdraw.ensures.numbers (is_ready (map (task_of {N = _}) c.args.self.now.slots.items) (map progress_of c.args.self.now.stages.items)) (length (map (task_of {N = _}) c.args.self.now.slots.items))
          (c.args.self.now.sound.offers ∙ sym (offered_is _ _)) (slice_get_within ts c.args.number t is))
          c.withdraw.ensures.capacity;
    }

pub returns : goal.returns
returns g c =
    let put = progress_put c.args.self.now.stages.items c.put.new.stages.items c.args.number stage.Joining c.put.ensures in
    let joins = ap (λ l. is_joining (slice_get l c.args.number)) put
    ∙ ap is_joining (get_set_same (map progress_of c.args.self.now.stages.items) c.args.number Joining Untaken (untaken_some (slice_get (map progress_of c.args.self.now.stages.items) c.args.number) c.requires.untaken)) in
    filled (slots_view c.args.self.now) (slots_view c.whole.new.self) c.args.number (map progress_of c.put.new.stages.items) c.whole.result _ joins c.whole.ensures.answer c.whole.ensures.made put
