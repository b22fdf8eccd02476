-- The positions that a call may write (the mask of a GraphBLAS call, GrB_STRUCTURE, GrB_COMP), of masks as
-- they are read.
use Rattle.std.specs.Prelude.{ℕ, ◌≡◌, ◌||◌, ◌==◌, not, Bool, true, false, if◌then◌else◌, Option}
use Rattle.std.specs.Option.{option_map_or}
use Rattle.masks.specs.declared.view.Mask.{Mask}
use Rattle.masks.specs.declared.view.Mask.TheVariants.{By, Everywhere, Nowhere}
use Rattle.masks.specs.declared.view.MaskTest.{MaskTest}
use Rattle.masks.specs.declared.view.ReadMask.{ReadMask}
use Rattle.masks.specs.declared.view.ReadMask.TheVariants.{Listed, Marked}
use Rattle.masks.specs.declared.view.StoredMask.{StoredMask}
use Rattle.store.specs.Forms.{of_bitmap, sparse_of}
use Rattle.store.specs.Stored.{Stored, content_of}

-- whether a mask has a position where this word stands
abbrev pub counts : Bool → ℕ → Bool
counts valued word = not valued || not (word == 0)

-- whether a mask has a position, by the word that stands there
abbrev pub has_word : Bool → Option ℕ → Bool
has_word valued word = option_map_or (counts valued) word false

-- whether a mask that has a store lets a position through, by the word that the store has there
abbrev pub lets_word : MaskTest → Option ℕ → Bool
lets_word test word = if test.complement then not (has_word test.valued word) else has_word test.valued word

-- whether a call may write a position
abbrev pub lets_through : Mask → ℕ → ℕ → Bool
lets_through Everywhere i j = true
lets_through Nowhere i j = false
lets_through (By mask) i j = lets_word mask.test (content_of mask.store.now i j)

-- something holds of the mask's store, where it has one
abbrev pub IfStored : Mask → (Stored → Type 0) → Type 0
IfStored Everywhere P = Unit
IfStored Nowhere P = Unit
IfStored (By mask) P = P mask.store.now

-- a mask as it is read has the store and the test of another
abbrev pub IsRead : StoredMask → ReadMask → Type 0
IsRead mask (Listed lists) = sparse_of lists ≡ mask.store.now
IsRead mask (Marked marked) = (of_bitmap marked.bitmap.now ≡ mask.store.now) × (marked.test ≡ mask.test)
