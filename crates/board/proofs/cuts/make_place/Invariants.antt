use Rattle.std.proofs.Common.{◌≡◌, ◌≤◌, ◌<◌, ℕ, suc, ◌-◌, length}
use Rattle.board.specs.Cuts.{at_slot}
use Rattle.board.proofs.cuts.make_place.Given as goal

-- each slot has what it had, and there are no more places than such as are wanted
abbrev pub invariant-loop-cuts : goal.invariant-loop-cuts
invariant-loop-cuts l = ((k : ℕ) → at_slot l.cuts.items k ≡ at_slot l.fn.cuts.items k)
    × ((n : ℕ) → length l.fn.cuts.items ≤ n → l.fn.number < n → length l.cuts.items ≤ n)

abbrev pub decreases-loop-cuts : goal.decreases-loop-cuts
decreases-loop-cuts l = suc l.number - length l.cuts.items
