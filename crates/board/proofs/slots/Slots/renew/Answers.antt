use Rattle.std.proofs.Common.{◌≡◌, ◌∙◌, ap, map, refl, rules, slice_get, sym, true}
use Rattle.std.specs.VecDeque.{deque_capacity}
use Rattle.board.specs.SlotViews.{slots_view}
use Rattle.stages.specs.Slots.{task_of}
use Rattle.stages.specs.Stages.{has_store}
use Rattle.stages.specs.declared.stage.Stage.TheVariants as stage
use Rattle.board.proofs.BoardLaws.{same_store}
use Rattle.board.proofs.RenewLaws.{IsRenewed, renewed}
use Rattle.board.proofs.slots.Slots.renew.Given.{Over}
use Rattle.board.proofs.slots.Slots.renew.Goals as goal
use Rattle.board.proofs.slots.Slots.renew.Goals.{After-put}

made : (g : Over) (c : After-put g)
    → IsRenewed (map (task_of {N = _}) c.args.self.now.slots.items) c.args.self.now.stages.items c.put.new.stages.items c.args.self.now.holds.items c.args.self.now.reads.items (map (λ r. r.items) c.args.self.now.readers.items) c.args.self.now.ready.items (deque_capacity c.args.self.now.ready)
made g c =
    let there : has_store (slice_get c.args.self.now.stages.items c.args.number) ≡ true =
    ap (λ l. has_store (slice_get l c.args.number)) (sym c.deref.ensures.value) ∙ sym c.is_done.ensures ∙ c.if-not-is_done.false in
    renewed _ _ _ _ _ _ _ c.args.number (stage.Done c.args.store) c.take_store-old.new.stages.items c.put.new.stages.items c.args.self.now.sound there refl refl refl
    (λ s e. same_store _ _ _ _ c.requires.right e) c.take_store-old.ensures.stages c.put.ensures

pub invariant_of-self : goal.invariant_of-self
invariant_of-self g c = record { sound = (made g (search rules)).sound }

pub returns : goal.returns
returns g c = ap (λ ps. record (slots_view c.args.self.now) { progress = ps }) (made g (search rules)).progress
