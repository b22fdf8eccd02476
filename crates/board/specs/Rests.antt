-- Slots that rest on others.
use Rattle.std.specs.Prelude.{ℕ, ◌≡◌, List, [], ◌∷◌, Some, slice_get}
use Rattle.calls.specs.declared.role.Role.{Role}
use Rattle.calls.specs.Roles.{role_of}
use Rattle.stages.specs.Tasks.{Task}

-- a slot takes a role of another's task
abbrev pub IsInput : List Task → ℕ → ℕ → Type 0
IsInput ts k i = (t : Task) × (slice_get ts k ≡ Some t) × ((role : Role) × (role_of t.inputs role ≡ Some i))

-- from input to input, by these slots
abbrev pub Leads : List Task → ℕ → List ℕ → ℕ → Type 0
Leads ts k [] i = IsInput ts k i
Leads ts k (j ∷ js) i = IsInput ts k j × Leads ts j js i

-- a slot rests on its inputs, and on all that they rest on
abbrev pub RestsOn : List Task → ℕ → ℕ → Type 0
RestsOn ts k i = (between : List ℕ) × Leads ts k between i
