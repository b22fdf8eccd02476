-- Blocks of rows of what operations compute.
use Rattle.std.specs.Prelude.{ℕ, ◌≡◌, ◌<◌, ◌≤◌, None, false, true}
use Rattle.masks.specs.declared.view.Mask.{Mask}
use Rattle.masks.specs.Masks.{IfStored, lets_through}
use Rattle.model.specs.Object.{Content}
use Rattle.store.specs.Stored.{Block, block_content}

-- the mask's store, where there is one, has so many rows and columns
abbrev pub HasShape : ℕ → ℕ → Mask → Type 0
HasShape rows cols mask = IfStored mask (λ store. (store.rows ≡ rows) × (store.cols ≡ cols))

-- the block has the rows from first up to before past of a map
pub record HasRows (first past cols : ℕ) (c : Content) (block : Block) : Type 0 where
  pub first_is : block.first ≡ first
  pub past_is : block.past ≡ past
  pub cols_are : block.cols ≡ cols
  pub words : (i j : ℕ) → first ≤ i → i < past → block_content block i j ≡ c i j

-- ..of which only the positions count that a mask lets through
pub record AgreesUnder (mask : Mask) (first past cols : ℕ) (c : Content) (block : Block) : Type 0 where
  pub first_is : block.first ≡ first
  pub past_is : block.past ≡ past
  pub cols_are : block.cols ≡ cols
  pub words : (i j : ℕ) → first ≤ i → i < past → lets_through mask i j ≡ true → block_content block i j ≡ c i j

-- the block has nothing in the rows from first up to before past where a mask lets nothing through
abbrev pub IsUnder : Mask → ℕ → ℕ → Block → Type 0
IsUnder mask first past block = (i j : ℕ) → first ≤ i → i < past → lets_through mask i j ≡ false
    → block_content block i j ≡ None
