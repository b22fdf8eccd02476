-- Blocks of what recipes give of maps.
use Rattle.std.specs.Prelude.{ℕ, ◌≡◌}
use Rattle.calls.specs.declared.recipe.Recipe.{Recipe}
use Rattle.calls.specs.declared.recipe.Recipe.TheVariants.{Computed, Transposed}
use Rattle.calls.specs.declared.role.Role.{Role}
use Rattle.calls.specs.Recipes.{known_of, meaning_of}
use Rattle.kernel.specs.declared.block.Block.{Block}
use Rattle.kernel.specs.declared.block.Block.TheVariants.{Rows, Whole}
use Rattle.kernel.specs.Blocks.{HasRows}
use Rattle.model.specs.Object.{Content, cols_of, rows_of}
use Rattle.store.specs.Stored.{Stored, block_content, content_of}

-- a store is what a recipe gives
pub record IsResultOf (recipe : Recipe) (maps : Role → Content) (stored : Stored) : Type 0 where
  pub rows : stored.rows ≡ rows_of (known_of recipe).shape
  pub cols : stored.cols ≡ cols_of (known_of recipe).shape
  pub content : (i j : ℕ) → content_of stored i j ≡ meaning_of recipe maps i j

-- a block has the rows from start up to before end of it, or all of it
abbrev pub IsPieceOf : Recipe → (Role → Content) → ℕ → ℕ → Block → Type 0
IsPieceOf recipe maps start end (Rows block) =
    HasRows start end (cols_of (known_of recipe).shape) (meaning_of recipe maps) block
IsPieceOf recipe maps start end (Whole store) = IsResultOf recipe maps store

-- an operation or a transpose gives rows, or all of it where all rows were asked for, and a recipe of another kind all
abbrev pub HasForm : Recipe → ℕ → ℕ → Block → Type 0
HasForm (Computed computation) start end (Rows block) = Unit {0}
HasForm (Computed computation) start end (Whole store) =
    (start ≡ 0) × (end ≡ rows_of (known_of (Computed computation)).shape)
HasForm (Transposed turn) start end (Rows block) = Unit {0}
HasForm (Transposed turn) start end (Whole store) =
    (start ≡ 0) × (end ≡ rows_of (known_of (Transposed turn)).shape)
HasForm recipe start end (Rows block) = ⊥
HasForm recipe start end (Whole store) = Unit {0}

-- ---- blocks by themselves

abbrev pub cols_in : Block → ℕ
cols_in (Rows block) = block.cols
cols_in (Whole store) = store.cols

abbrev pub content_in : Block → Content
content_in (Rows block) = block_content block
content_in (Whole store) = content_of store

-- rows that end where those of what a recipe gives do
abbrev pub HasAllRows : Recipe → Block → Type 0
HasAllRows recipe (Rows block) = block.past ≡ rows_of (known_of recipe).shape
HasAllRows recipe (Whole store) = store.rows ≡ rows_of (known_of recipe).shape

-- something holds where there are rows
abbrev pub IfRows : Block → Type 0 → Type 0
IfRows (Rows block) P = P
IfRows (Whole store) P = Unit {0}
