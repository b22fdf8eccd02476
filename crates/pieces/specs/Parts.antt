-- The rows of a task, cut into pieces, and what there is of each.
use Rattle.std.specs.Prelude.{ℕ, ◌≡◌, ◌<◌, ◌≤◌, ◌+◌, ◌-◌, ◌==◌, ◌&&◌, Bool, true, false, if◌then◌else◌, nat_lt, not}
use Rattle.std.specs.Prelude.{List, [], ◌∷◌, ◌++◌, length, replicate, slice_get, slice_index, slice_set}
use Rattle.std.specs.Prelude.{Option, Some, None, Result, Ok, Err}
use Rattle.std.specs.List.{list_all}
use Rattle.std.specs.Option.{option_map_or}
use Rattle.kernel.specs.declared.block.Block.{Block}
use Rattle.kernel.specs.declared.block.Block.TheVariants.{Rows, Whole}
use Rattle.pieces.specs.declared.part.Part.{Part}
use Rattle.pieces.specs.declared.part.Part.TheVariants.{Due, Given, Joined}
use Rattle.pieces.specs.declared.pieces.Refused.{Refused}
use Rattle.pieces.specs.declared.pieces.Refused.TheVariants.{Stranger, Twice}

-- ---- where pieces end

-- the cuts that are used: those above every cut used before, and inside the rows
abbrev pub used_cuts : ℕ → ℕ → List ℕ → List ℕ
used_cuts last rows [] = []
used_cuts last rows (c ∷ cs) =
    if nat_lt last c && nat_lt c rows then c ∷ used_cuts c rows cs else used_cuts last rows cs

-- where pieces end: at each cut that is used, and with the rows
abbrev pub ends_of : ℕ → List ℕ → List ℕ
ends_of rows cuts = used_cuts 0 rows cuts ++ rows ∷ []

-- where a piece begins: with the end of the one before
abbrev pub start_of : List ℕ → ℕ → ℕ
start_of ends k = if k == 0 then 0 else slice_index ends (k - 1)

-- ..and where it ends
abbrev pub end_of : List ℕ → ℕ → ℕ
end_of ends k = slice_index ends k

-- ---- what there is of pieces

-- the pieces of a task: all rows, where each piece ends, how many were taken, and what there is of each
pub record Parts : Type 0 where
  pub rows : ℕ
  pub ends : List ℕ
  pub taken : ℕ
  pub parts : List Part

-- the pieces with these ends, the last of which ends with the rows
abbrev pub parts_of : List ℕ → ℕ → List Part → Parts
parts_of ends taken parts =
    record { rows = end_of ends (length ends - 1); ends = ends; taken = taken; parts = parts }

-- a block is to come
abbrev pub is_due : Part → Bool
is_due Due = true
is_due (Given block) = false
is_due Joined = false

-- a block was given, and wasn't handed out
abbrev pub is_given : Part → Bool
is_given Due = false
is_given (Given block) = true
is_given Joined = false

-- how many blocks are to come
abbrev pub to_come : List Part → ℕ
to_come [] = 0
to_come (part ∷ parts) = if is_due part then to_come parts + 1 else to_come parts

-- whether the block at a place is to come
abbrev pub is_due_at : List Part → ℕ → Bool
is_due_at parts k = option_map_or is_due (slice_get parts k) false

-- whether it was given, be it handed out or not
abbrev pub was_given_at : List Part → ℕ → Bool
was_given_at parts k = option_map_or (λ part. not (is_due part)) (slice_get parts k) false

-- ..for one of these pieces
abbrev pub was_given : Parts → ℕ → Bool
was_given p k = was_given_at p.parts k

-- a piece is out: it was taken, and its block is to come
abbrev pub is_out : Parts → ℕ → Bool
is_out p k = nat_lt k p.taken && is_due_at p.parts k

-- a block has these rows, and no others (a whole store has them never)
abbrev pub has_rows : ℕ → ℕ → Block → Bool
has_rows start end (Rows block) = (block.first == start) && (block.past == end)
has_rows start end (Whole store) = false

-- the block of each piece was given, and none was handed out
abbrev pub all_given : List Part → Bool
all_given parts = list_all is_given parts

-- the blocks that were given, in order
abbrev pub blocks_in : List Part → List Block
blocks_in [] = []
blocks_in (Given block ∷ parts) = block ∷ blocks_in parts
blocks_in (Due ∷ parts) = blocks_in parts
blocks_in (Joined ∷ parts) = blocks_in parts

-- each row is in one piece, none is empty; only pieces that were taken have blocks, each its rows; all blocks were
-- handed out or none
pub record AreParts (p : Parts) : Type 0 where
  pub several : 1 < length p.ends
  pub last : end_of p.ends (length p.ends - 1) ≡ p.rows
  pub rising : (k : ℕ) → k < length p.ends → start_of p.ends k < end_of p.ends k
  pub sized : length p.parts ≡ length p.ends
  pub within : p.taken ≤ length p.ends
  pub due : (k : ℕ) → p.taken ≤ k → k < length p.ends → slice_get p.parts k ≡ Some Due
  pub fits : (k : ℕ) (block : Block) → slice_get p.parts k ≡ Some (Given block)
      → has_rows (start_of p.ends k) (end_of p.ends k) block ≡ true
  pub joined : (k j : ℕ) → slice_get p.parts k ≡ Some Joined → j < length p.ends → slice_get p.parts j ≡ Some Joined
  -- a block is to come, or all were handed out
  pub pending : all_given p.parts ≡ false

-- ..with what is kept beside them: how many blocks are to come, and a list with room for all, until they are handed out
pub record IsKept (p : Parts) (left : ℕ) (room : List Block) (capacity : ℕ) : Type 0 where
  pub parts : AreParts p
  pub counted : left ≡ to_come p.parts
  pub empty : room ≡ []
  pub roomy : 0 < left → length p.ends ≤ capacity

-- ---- what calls do

-- the pieces of rows that were cut, none of which was taken
abbrev pub cut_at : ℕ → List ℕ → Parts
cut_at rows cuts = record {
  rows = rows;
  ends = ends_of rows cuts;
  taken = 0;
  parts = replicate (length (ends_of rows cuts)) Due;
}

-- what there is of pieces, where the block of one was given
abbrev pub with_block : Parts → ℕ → Block → List Part
with_block p k block = slice_set p.parts k (Given block)

-- what a block that is given for a piece is answered: None where others are to come, else the blocks of all
abbrev pub given_to : Parts → ℕ → Block → Result (Option (List Block)) Refused
given_to p k block =
    if was_given p k then Err Twice
    else (if is_out p k && has_rows (start_of p.ends k) (end_of p.ends k) block
    then Ok (if all_given (with_block p k block) then Some (blocks_in (with_block p k block)) else None)
    else Err Stranger)

-- what it leaves, where it is accepted
abbrev pub after_give : Parts → ℕ → Block → Parts
after_give p k block = record p {
  parts = if all_given (with_block p k block) then replicate (length p.ends) Joined else with_block p k block;
}
