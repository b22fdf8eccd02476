-- Entries in order, of which those of one position are joined into one.
use Rattle.std.specs.Prelude.{◌&&◌, ◌==◌, if◌then◌else◌, List, [], ◌∷◌, Option}
use Rattle.algebra.specs.declared.operator_names.OpName.{OpName}
use Rattle.model.specs.Builds.{joined}
use Rattle.model.specs.declared.entry.Entry.{Entry}
use Rattle.model.specs.Entries.{entry_at}

-- an entry and those behind it, of which neighbours of one position are joined
unfoldable pub runs_from : Option OpName → Entry → List Entry → List Entry
runs_from joins e [] = e ∷ []
runs_from joins e (f ∷ fs) = if (e.row == f.row) && (e.col == f.col)
    then runs_from joins (entry_at e.row e.col (joined joins e.word f.word)) fs
    else e ∷ runs_from joins f fs

-- entries of which neighbours of one position are joined
abbrev pub runs_of : Option OpName → List Entry → List Entry
runs_of joins [] = []
runs_of joins (e ∷ es) = runs_from joins e es
