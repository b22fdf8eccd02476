-- Pieces of work that are out, and blocks that are given for them.
use Rattle.std.specs.Arc.{arc_value}
use Rattle.std.specs.Prelude.{ℕ, ◌≡◌, ◌≤◌, ◌==◌, ◌&&◌, nat_lt, Bool, false, true, List, Some, slice_get}
use Rattle.std.specs.Option.{option_map, option_map_or}
use Rattle.calls.specs.declared.recipe.Recipe.{Recipe}
use Rattle.calls.specs.declared.role.Role.{Role}
use Rattle.calls.specs.Recipes.{known_by, known_of, meaning_of}
use Rattle.calls.specs.Roles.{role_of}
use Rattle.calls.specs.Stores.{object_with}
use Rattle.kernel.specs.declared.block.Block.{Block}
use Rattle.kernel.specs.declared.block.Block.TheVariants.{Rows, Whole}
use Rattle.kernel.specs.Covers.{IsPartOf}
use Rattle.kernel.specs.Takes.{Takes, map_in}
use Rattle.model.specs.Object.{Content, IsObject, cols_of, rows_of}
use Rattle.runner.specs.Tickets.{IsStoreFor}
use Rattle.store.specs.Stored.{Stored}
use Rattle.stages.specs.Places.{each}
use Rattle.board.specs.Stores.{stored_for}
use Rattle.stages.specs.Tasks.{Task, object_at}
use Rattle.board.specs.declared.piece.Piece.{Piece}
use Rattle.board.specs.declared.piece.Stores.{Stores}
use Rattle.board.specs.declared.piece.TaskRecipe.{TaskRecipe}
use Rattle.board.specs.declared.piece.TaskRecipe.TheVariants.{Own, Shared}

-- the maps that take the roles
abbrev pub maps_in : Stores → Role → Content
maps_in stores role = map_in (stored_for stores role)

abbrev pub recipe_of : TaskRecipe → Recipe
recipe_of (Own recipe) = recipe
recipe_of (Shared recipe) = arc_value recipe

-- a recipe and stores are what a slot's task needs
pub record AreFor (ts : List Task) (k : ℕ) (recipe : Recipe) (inputs : Stores) : Type 0 where
  pub recipe_is : option_map (λ t. t.recipe) (slice_get ts k) ≡ Some recipe
  pub lower : (task : Task) → slice_get ts k ≡ Some task → each (λ i. nat_lt i k) task.inputs ≡ true
  -- a store of what takes each role that the recipe reads, and the one of that slot's object
  pub takes : (role : Role) → Takes (known_by recipe role) (stored_for inputs role)
  pub right : (task : Task) (role : Role) (i : ℕ) (s : Stored) → slice_get ts k ≡ Some task
      → role_of task.inputs role ≡ Some i → stored_for inputs role ≡ Some s → IsStoreFor (object_at ts i) s
  -- what the recipe makes of them is the slot's object
  pub makes : object_at ts k ≡ object_with (known_of recipe) (meaning_of recipe (maps_in inputs))
  pub is_object : IsObject (object_at ts k)

-- how many rows the result of a piece's task has
abbrev pub rows_for : Piece → ℕ
rows_for piece = rows_of (known_of (recipe_of piece.recipe)).shape

-- a piece is work on some rows of what a slot's task makes, with all that it needs
pub record IsPieceFor (ts : List Task) (piece : Piece) : Type 0 where
  pub needs : AreFor ts piece.number (recipe_of piece.recipe) piece.inputs
  pub rises : piece.rows.start ≤ piece.rows.end
  pub inside : piece.rows.end ≤ rows_for piece

-- the same piece, whose recipe may be shared
pub record IsSamePiece (piece again : Piece) : Type 0 where
  pub number : again.number ≡ piece.number
  pub piece_is : again.piece ≡ piece.piece
  pub rows : again.rows ≡ piece.rows
  pub recipe : recipe_of again.recipe ≡ recipe_of piece.recipe
  pub inputs : again.inputs ≡ piece.inputs

-- it is all rows
abbrev pub is_whole : Piece → Bool
is_whole piece = (piece.rows.start == 0) && (piece.rows.end == rows_for piece)

-- a block has what a slot's task makes in its rows
abbrev pub IsBlockFor : List Task → ℕ → Block → Type 0
IsBlockFor ts k block = IsPartOf (cols_of (object_at ts k).shape) (object_at ts k).content block

-- a block has all of so many rows
abbrev pub has_rows : ℕ → Block → Bool
has_rows rows (Rows block) = (block.first == 0) && (block.past == rows)
has_rows rows (Whole store) = store.rows == rows

-- ..as many as what a slot's task makes
abbrev pub fits_slot : List Task → ℕ → Block → Bool
fits_slot ts k block = option_map_or (λ t. has_rows (rows_of (known_of t.recipe).shape) block) (slice_get ts k) false
