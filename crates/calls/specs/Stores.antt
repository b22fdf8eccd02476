-- Objects of which the domain and the shape are known, their stores, and edits of them.
use Rattle.std.specs.Prelude.{ℕ, ◌<◌, ◌≡◌, List}
use Rattle.std.specs.List.{All}
use Rattle.model.specs.declared.shape.Signature.{Signature}
use Rattle.model.specs.Object.{Content, IsObject, Object, cols_of, rows_of}
use Rattle.patch.specs.declared.edits.Edit.{Edit}
use Rattle.patch.specs.Edits.{place_of}
use Rattle.store.specs.Stored.{Stored, content_of}

-- the object of which this is known, with a map
abbrev pub object_with : Signature → Content → Object
object_with known map = record { domain = known.domain; shape = known.shape; content = map }

-- a store is that of an object of which this is known
pub record IsStoreOf (known : Signature) (stored : Stored) : Type 0 where
  pub rows : stored.rows ≡ rows_of known.shape
  pub cols : stored.cols ≡ cols_of known.shape
  pub is_object : IsObject (object_with known (content_of stored))

-- edits of positions in so many rows and columns
abbrev pub AreInside : ℕ → ℕ → List Edit → Type 0
AreInside rows cols edits = All (λ e. ((place_of e).0 < rows) × ((place_of e).1 < cols)) edits
