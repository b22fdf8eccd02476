use Rattle.std.proofs.Common.{◌≡◌, ◌≤◌, ◌||◌, ◌&&◌, ℕ, Bool, length, map, take}
use Rattle.std.specs.VecDeque.{deque_capacity}
use Rattle.stages.specs.Numbers.{has, numbers}
use Rattle.stages.specs.Slots.{task_of}
use Rattle.stages.specs.Stages.{progress_of}
use Rattle.stages.specs.Views.{is_ready}
use Rattle.stages.proofs.waking.wake.Given as goal

abbrev pub invariant-loop-reader : goal.invariant-loop-reader
invariant-loop-reader g l =
    ((p : ℕ → Bool) → l.fn.ready.items ≡ numbers p (length (map task_of l.slots)) → length (map task_of l.slots) ≤ deque_capacity l.fn.ready
    → l.ready.items ≡ numbers (λ k. p k || (has k (take l.reader-index l.readers) && is_ready (map task_of l.slots) (map progress_of l.stages) k)) (length (map task_of l.slots)))
    × (deque_capacity l.fn.ready ≤ deque_capacity l.ready)
