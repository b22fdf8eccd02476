use Rattle.std.proofs.Common.{◌≡◌, ℕ, take}
use Rattle.store.specs.Stored.{content_of}
use Rattle.patch.specs.Edits.{edited}
use Rattle.patch.proofs.edits.apply.Given as goal

abbrev pub invariant-loop-edit : goal.invariant-loop-edit
invariant-loop-edit l = record {
  rows : l.store.rows ≡ l.initial.store.rows;
  cols : l.store.cols ≡ l.initial.store.cols;
  done : (i j : ℕ) → content_of l.store i j ≡ edited (take l.edit-index l.edits) (content_of l.initial.store) i j;
}
