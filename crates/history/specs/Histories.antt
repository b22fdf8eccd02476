-- What was submitted so far, in order, and what notes of places in it tell.
use Rattle.std.specs.Prelude.{ℕ, ◌≡◌, ◌==◌, true, List, [], ◌∷◌, ◌++◌, length, slice_index_or, MatchBool, None}
use Rattle.logbook.specs.Pages.{Book, Cell, Named, Step, View}
use Rattle.algebra.specs.declared.domain.Domain.TheVariants.{Bool}
use Rattle.calls.specs.Stores.{object_with}
use Rattle.history.specs.declared.made.Made.{Made}
use Rattle.model.specs.declared.shape.Shape.TheVariants.{One}
use Rattle.model.specs.Builds.{gathered}
use Rattle.model.specs.Entries.{entries_of}
use Rattle.model.specs.Object.{Object, cols_of, rows_of, signature_of}

-- ---- objects as data

-- an object as data: a map is a function, and no data
abbrev pub made_from : Object → Made
made_from o = record { of = signature_of o; entries = entries_of (rows_of o.shape) (cols_of o.shape) o.content }

abbrev pub object_in : Made → Object
object_in made = object_with made.of (gathered None made.entries)

-- ---- the history

-- the first word is the length of the history. A book has two words, of which this one leaves the second at 0
pub record IsKept (cells : List Cell) (log : List Made) : Type 0 where
  pub words : cells ≡ (length log, true) ∷ (0, true) ∷ []

abbrev pub head_of : Book → Named
head_of book = record { tracked = true; key = 0; book = book }

-- an object was added to all that had been seen; or the history was longer, and was seen
abbrev pub Adds : Step Made → View Made (Unit {0}) → ℕ → View Made (Unit {0}) → Type 0
Adds step before found after =
    MatchBool (found == step.old) (after.0 ≡ before.0 ++ step.ask ∷ []) (length after.0 ≡ found)

-- ---- notes

-- what was submitted at a place
abbrev pub made_at : List Made → ℕ → Made
made_at log place = slice_index_or log place (record { of = record { domain = Bool; shape = One 0 }; entries = [] })

-- what a note tells
pub record Told : Type 0 where
  pub place : ℕ
  pub made : Made

abbrev pub object_of : Told → Object
object_of told = object_in told.made
