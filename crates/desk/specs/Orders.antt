-- What an order picks, one time after the other.
use Rattle.std.specs.Prelude.{ℕ, ◌+◌, ◌-◌, ◌*◌, ◌/◌, ◌%◌, ◌^◌}
use Rattle.desk.specs.declared.picker.Order.{Order}
use Rattle.desk.specs.declared.picker.Order.TheVariants.{First, Last, Seed}

-- the seed behind a seed
abbrev pub seed_behind : ℕ → ℕ
seed_behind x = (x * 6364136223846793005 + 1442695040888963407) % 2 ^ 64

-- what an order is once it picked
abbrev pub after_pick : Order → Order
after_pick First = First
after_pick Last = Last
after_pick (Seed x) = Seed (seed_behind x)

-- what it picks
abbrev pub pick_of : Order → ℕ
pick_of First = 0
pick_of Last = 2 ^ 64 - 1
pick_of (Seed x) = seed_behind x / 2 ^ 33
