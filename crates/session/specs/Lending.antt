-- Stores that a session lends.
use Rattle.std.specs.Prelude.{ℕ, ◌≡◌}
use Rattle.calls.specs.declared.obj.Obj.{Obj}
use Rattle.model.specs.Object.{IsObject, cols_of, rows_of}
use Rattle.model.specs.Run.{Environment, object_at}
use Rattle.store.specs.Stored.{Stored, content_of}

-- the store is an object's
pub record IsStoreOf (env : Environment Obj) (object : Obj) (stored : Stored) : Type 0 where
  pub rows : stored.rows ≡ rows_of (object_at env object).shape
  pub cols : stored.cols ≡ cols_of (object_at env object).shape
  pub content : (i j : ℕ) → (object_at env object).content i j ≡ content_of stored i j
  pub is_object : IsObject (object_at env object)
