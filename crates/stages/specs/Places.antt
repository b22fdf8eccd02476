-- The slots that take a task's roles.
use Rattle.std.specs.Prelude.{ℕ, ◌+◌, ◌==◌, ◌&&◌, Bool, true, if◌then◌else◌, Option, Some, None}
use Rattle.calls.specs.declared.role.Roles.{Roles}

-- whether what is there passes
abbrev pub passes : {T : Type 0} → (T → Bool) → Option T → Bool
passes p None = true
passes p (Some x) = p x

-- whether each input passes
abbrev pub each : {T : Type 0} → (T → Bool) → Roles T → Bool
each p inputs = passes p inputs.old && (passes p inputs.mask && (passes p inputs.first && passes p inputs.second))

-- one where this is the slot
abbrev pub place_of : Option ℕ → ℕ → ℕ
place_of None k = 0
place_of (Some i) k = if i == k then 1 else 0

-- how many input places name a slot
abbrev pub places_of : Roles ℕ → ℕ → ℕ
places_of inputs k = place_of inputs.old k + place_of inputs.mask k + place_of inputs.first k + place_of inputs.second k
