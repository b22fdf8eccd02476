use Rattle.std.proofs.Common.{◌≡◌, ◌<◌, ◌+◌, ◌≤◌, ℕ, Bool, Some, slice_get, suc}
use Rattle.stages.specs.Numbers.{numbers}
use Rattle.board.proofs.PickLaws.{rank}
use Rattle.board.proofs.picking.picked_at.Given as goal

-- the place is behind those of the second list that were looked at
abbrev pub invariant-loop-before : goal.invariant-loop-before
invariant-loop-before l = (l.before ≤ l.fn.place)
    × ((p q : ℕ → Bool) (n : ℕ) → l.fn.ready.items ≡ numbers p n → l.fn.parted.items ≡ numbers q n
    → (j x d : ℕ) → suc j ≡ l.before → slice_get (numbers q n) j ≡ Some x → d ≡ rank p x → d + j < l.fn.place)
