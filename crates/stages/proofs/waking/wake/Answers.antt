use Rattle.std.proofs.Common.{◌∙◌, ℕ, ◌&&◌, ◌||◌, Bool, ap, sym, map, take, length, get_or, arith}
use Rattle.std.proofs.lemmas.List.{take_more}
use Rattle.stages.specs.Numbers.{has, numbers}
use Rattle.stages.specs.Slots.{task_of}
use Rattle.stages.specs.Stages.{progress_of}
use Rattle.stages.specs.Views.{is_ready}
use Rattle.stages.proofs.NumberLaws.{numbers_more}
use Rattle.stages.proofs.waking.wake.Goals as goal

pub loop-reader-preserved : goal.loop-reader-preserved
loop-reader-preserved g c = (
  λ p is room.
      let n = length (map (task_of {N = _}) c.args.slots.now) in
      let i = c.loop-reader.reader-index in
      let r : ℕ → Bool = λ k. is_ready (map (task_of {N = _}) c.args.slots.now) (map progress_of c.args.stages.now) k in
      let before = c.loop-reader.invariant.0 p is room in
      c.wake_one.ensures.numbers (λ k. p k || (has k (take i c.args.readers.now) && r k)) before (omega (arith, room, c.loop-reader.invariant.1))
      ∙ (numbers_more p r (take i c.args.readers.now) (get_or c.args.readers.now i 0) n
      ∙ ap (λ l. numbers (λ k. p k || (has k l && r k)) n) (sym (take_more c.args.readers.now i 0 (omega arith)))),
  omega (arith, c.loop-reader.invariant.1, c.wake_one.ensures.capacity),
)
