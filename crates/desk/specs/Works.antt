-- Pieces of work, and what they make.
use Rattle.std.specs.Prelude.{ℕ, ◌≡◌, ◌≤◌, List, None, Option}
use Rattle.calls.specs.declared.role.Role.{Role}
use Rattle.calls.specs.Recipes.{known_by, known_of, meaning_of}
use Rattle.calls.specs.Stores.{object_with}
use Rattle.kernel.specs.Takes.{Takes}
use Rattle.model.specs.Object.{IsObject, Object}
use Rattle.board.specs.Cuts.{Cutting, at_slot}
use Rattle.board.specs.Pieces.{maps_in, recipe_of, rows_for}
use Rattle.board.specs.Stores.{stored_for}
use Rattle.board.specs.declared.piece.Piece.{Piece}

-- what the recipe of its task makes of its stores
abbrev pub object_by : Piece → Object
object_by piece = let recipe = recipe_of piece.recipe in
    object_with (known_of recipe) (meaning_of recipe (maps_in piece.inputs))

-- it is the work of making some rows of that, with all that it needs
pub record IsWork (piece : Piece) : Type 0 where
  pub rises : piece.rows.start ≤ piece.rows.end
  pub inside : piece.rows.end ≤ rows_for piece
  pub takes : (role : Role) → Takes (known_by (recipe_of piece.recipe) role) (stored_for piece.inputs role)
  pub is_object : IsObject (object_by piece)

-- no task is cut
abbrev pub AreUncut : List (Option Cutting) → Type 0
AreUncut cs = (k : ℕ) → at_slot cs k ≡ None
