-- Events that are tried on a board whose slot 0 has an object that is known.
use Rattle.std.specs.Prelude.{ℕ, ◌≡◌, Bool, false, true}
use Rattle.algebra.specs.declared.domain.Domain.TheVariants.{Int64}
use Rattle.board.specs.Boards.{Shown}
use Rattle.board.specs.Schedules.{IsRight}
use Rattle.stages.specs.Tasks.{object_at}
use Rattle.board.specs.declared.schedule.Event.{Event}
use Rattle.board.specs.declared.schedule.Event.TheVariants.{Issue}
use Rattle.model.specs.declared.shape.Shape.TheVariants.{Two}
use Rattle.model.specs.Object.{Object, empty_object}

-- a matrix of four rows and two columns, without entries
abbrev pub matrix : Object
matrix = empty_object Int64 (Two 4 2)

-- a slot is issued
abbrev pub issues : Event ℕ → Bool
issues (Issue note recipe inputs) = true
issues other = false

-- an event that issues nothing, and hands in what is right where the object of slot 0 is the matrix
pub record IsTry (event : Event ℕ) : Type 0 where
  pub issues_none : issues event ≡ false
  pub right : (s : Shown ℕ) → object_at s.slots.tasks 0 ≡ matrix → IsRight s event
