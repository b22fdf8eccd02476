-- Bitmaps of what operations leave.
use Rattle.std.specs.Prelude.{ℕ, ◌≡◌, if◌then◌else◌, false, true, Option, None, Some}
use Rattle.algebra.specs.OperatorNames.{op_named}
use Rattle.algebra.specs.Operators.{answer_domain, eval_of}
use Rattle.algebra.specs.Value.{cast_of}
use Rattle.bitmap.specs.Bitmaps.{Held}
use Rattle.kernel.specs.declared.bitmaps.Writing.{Writing}
use Rattle.kernel.specs.declared.bitmaps.Writing.TheVariants.{Anew, Over, Under}
use Rattle.kernel.specs.declared.input.Input.{Input}
use Rattle.kernel.specs.Inputs.{object_of}
use Rattle.masks.specs.declared.marked.MarkedMask.{MarkedMask}
use Rattle.masks.specs.Masks.{lets_word}
use Rattle.model.specs.declared.call.Out.{Out}
use Rattle.model.specs.declared.call.Region.{Region}
use Rattle.model.specs.ElementWise.{of_either}
use Rattle.model.specs.Entries.{word_at}
use Rattle.model.specs.Indices.{All}
use Rattle.model.specs.Object.{Content, cols_of}
use Rattle.model.specs.Regions.{cols_in, rows_in}
use Rattle.model.specs.Renamed.{renamed_out}
use Rattle.model.specs.WriteBack.{mask_set}
use Rattle.store.specs.Forms.{of_bitmap}

-- a bitmap has so many rows and columns, and all of a map
pub record HasAll (rows cols : ℕ) (c : Content) (bitmap : Held) : Type 0 where
  pub rows_are : bitmap.rows ≡ rows
  pub cols_are : bitmap.cols ≡ cols
  pub words : (i j : ℕ) → word_at bitmap.entries i j ≡ c i j

-- all positions are written: where no region says which are, or it has all of them
abbrev pub IsEverywhere : Option Region → Type 0
IsEverywhere None = Unit {0}
IsEverywhere (Some region) = (rows_in region ≡ All) × (cols_in region ≡ All)

-- no mask keeps anything as it was
pub record IsUnmasked (out : Out Input) : Type 0 where
  pub mask : out.mask ≡ None
  pub complement : out.desc.complement ≡ false

-- the output is a column, of which a bitmap as a mask says where something is written, and nothing stays elsewhere
pub record IsReplacing (out : Out Input) (mask : MarkedMask) : Type 0 where
  pub replace : out.desc.replace ≡ true
  pub accum : out.accum ≡ None
  pub column : cols_of out.c.signature.shape ≡ 1
  pub mask_column : mask.bitmap.now.cols ≡ 1
  pub set : (i j : ℕ) → mask_set (renamed_out object_of out) i j
      ≡ lets_word mask.test (word_at mask.bitmap.now.entries i j)

-- a task writes all of its output so: what was there doesn't count, or is a bitmap, with which an operator accumulates,
-- or is replaced under a mask
abbrev pub IsWriting : Out Input → Writing → Type 0
IsWriting out Anew = IsUnmasked out × (out.accum ≡ None)
IsWriting out (Over old op) =
    IsUnmasked out × ((out.accum ≡ Some (op_named op)) × (of_bitmap old.now ≡ out.c.store.now))
IsWriting out (Under mask) = IsReplacing out mask

-- what is computed has the shape of what was there
abbrev pub FitsOver : Writing → Held → Type 0
FitsOver Anew computed = Unit {0}
FitsOver (Over old op) computed = (computed.rows ≡ old.now.rows) × (computed.cols ≡ old.now.cols)
FitsOver (Under mask) computed = (computed.cols ≡ 1) × (mask.bitmap.now.cols ≡ 1)

-- what is left at a position, of what is computed there
abbrev pub left_by : Writing → ℕ → ℕ → Option ℕ → Option ℕ
left_by Anew i j word = word
left_by (Over old op) i j word =
    let alone = cast_of op.domain (answer_domain op.kind op.domain) in
    of_either alone alone (eval_of op.kind op.domain) (word_at old.now.entries i j) word
left_by (Under mask) i j word = if lets_word mask.test (word_at mask.bitmap.now.entries i j) then word else None
