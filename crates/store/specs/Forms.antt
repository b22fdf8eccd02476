-- Stores in any form.
use Rattle.std.specs.Prelude.{ℕ, ◌≡◌, ⊤, IsTrue, false, length}
use Rattle.bitmap.specs.Bitmaps.{Held}
use Rattle.fitting.specs.Fitting.{has_many, suits_bitmap}
use Rattle.store.specs.declared.store.AsSparse.{AsSparse}
use Rattle.store.specs.declared.store.AsSparse.TheVariants.{Lent, Made}
use Rattle.store.specs.declared.store.Form.{Form}
use Rattle.store.specs.declared.store.Form.TheVariants as form
use Rattle.store.specs.declared.store.Kept.{Kept}
use Rattle.store.specs.declared.store.Kept.TheVariants as kept
use Rattle.model.specs.Entries.{entries_of}
use Rattle.store.specs.Stored.{Stored, content_of}

-- the store that a bitmap is
abbrev pub of_bitmap : Held → Stored
of_bitmap b = record { rows = b.rows; cols = b.cols; entries = b.entries }

-- the store that is kept in a form
abbrev pub kept_in : Kept → Stored
kept_in (kept.Sparse s) = s
kept_in (kept.Bitmap b) = of_bitmap b
kept_in (kept.Blocks s) = s

-- how many entries a store has
abbrev pub count_of : Stored → ℕ
count_of s = length (entries_of s.rows s.cols (content_of s))

-- what is kept has the form that suits it: lists that no bitmap suits, a bitmap of a column with many entries or of
-- more columns, and blocks
abbrev pub IsSettled : Kept → Type 0
IsSettled (kept.Sparse s) = suits_bitmap s.rows s.cols (count_of s) ≡ false
IsSettled (kept.Bitmap b) = b.cols ≡ 1 → IsTrue (has_many b.rows (count_of (of_bitmap b)))
IsSettled (kept.Blocks s) = ⊤

-- the store that is lent in a form
abbrev pub lent_in : Form → Stored
lent_in (form.Sparse s) = s.now
lent_in (form.Bitmap b) = of_bitmap b.now
lent_in (form.Blocks s) = s.now

-- the store whose entries are lists
abbrev pub sparse_of : AsSparse → Stored
sparse_of (Lent s) = s.now
sparse_of (Made s) = s
