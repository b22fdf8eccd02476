-- Blocks that have the rows of a map, one behind the other.
use Rattle.std.specs.Prelude.{ℕ, ◌≡◌, ◌≤◌, List, [], ◌∷◌}
use Rattle.kernel.specs.declared.block.Block.{Block}
use Rattle.kernel.specs.declared.block.Block.TheVariants.{Rows, Whole}
use Rattle.kernel.specs.Blocks.{HasRows}
use Rattle.model.specs.Object.{Content}
use Rattle.store.specs.Stored.{content_of}

-- blocks of rows that follow one another, from one row up to another
unfoldable pub Covers : ℕ → ℕ → List Block → Type 0
Covers from past [] = from ≡ past
Covers from past (Rows block ∷ bs) = (block.first ≡ from) × (block.first ≤ block.past) × Covers block.past past bs
Covers from past (Whole store ∷ bs) = ⊥

-- a block has what a map has in its rows, of so many columns
abbrev pub IsPartOf : ℕ → Content → Block → Type 0
IsPartOf cols c (Rows block) = HasRows block.first block.past cols c block
IsPartOf cols c (Whole store) = (store.cols ≡ cols) × ((i j : ℕ) → content_of store i j ≡ c i j)
