-- What becomes of a board where work on a task ends, and how much is left to do of it.
use Rattle.std.specs.Prelude.{ℕ, ◌≡◌, ◌+◌, ◌&&◌, if◌then◌else◌, false, true, List, [], ◌∷◌, Option, None, is_none}
use Rattle.std.specs.Prelude.{slice_get}
use Rattle.board.specs.Cuts.{Cutting}
use Rattle.board.specs.Events.{failed, may_fail, with_progress}
use Rattle.stages.specs.Progress.{Made, Progress, is_running, is_underway, is_unfinished}
use Rattle.stages.specs.Views.{View}

-- the store of a slot was handed in: it is made, where somebody works on all of its task
abbrev pub handed_in : {N : Type 0} → View N → Option Cutting → ℕ → View N
handed_in v c k = if is_running (slice_get v.progress k) && is_none c then with_progress v k Made else v

-- a slot fails that can be taken, or that somebody works on
abbrev pub felled : {N : Type 0} → View N → ℕ → View N
felled v k = if may_fail v k then failed v k else v

-- ..and what there is of its task is forgotten then
abbrev pub felled_cut : {N : Type 0} → View N → Option Cutting → ℕ → Option Cutting
felled_cut v c k = if may_fail v k then None else c

-- nobody works on a slot
abbrev pub IsIdle : List Progress → Type 0
IsIdle ps = (k : ℕ) → is_underway (slice_get ps k) ≡ false

-- ..but on one
abbrev pub IsIdleBut : ℕ → List Progress → Type 0
IsIdleBut n ps = (k : ℕ) → is_underway (slice_get ps k) ≡ true → k ≡ n

-- how many slots are to come
abbrev pub unfinished : List Progress → ℕ
unfinished [] = 0
unfinished (p ∷ ps) = (if is_unfinished p then 1 else 0) + unfinished ps
