-- The indices that regions name.
use Rattle.std.specs.Prelude.{◌≡◌, MatchOption, Option}
use Rattle.model.specs.Indices.{All, HasSorted, Indices}
use Rattle.shapes.specs.declared.members.Members.{Members}
use Rattle.shapes.specs.declared.putting.Named.{Named}

-- the members of a list of indices; of all indices there are none
abbrev pub AreMembers : Indices → Option Members → Type 0
AreMembers indices members = MatchOption members (indices ≡ All) (λ m. HasSorted indices m.sorted.now)

-- the members of lists of rows and of columns
pub record IsNamed (rows cols : Indices) (named : Named) : Type 0 where
  pub row_members : AreMembers rows named.rows
  pub col_members : AreMembers cols named.cols

-- there are lists whose members these are
abbrev pub Names : Named → Type 0
Names named = (rows : Indices) × (cols : Indices) × IsNamed rows cols named
