-- Words combined by a monoid, where there is one; those of each fiber; and those of several stores.
use Rattle.std.specs.Prelude.{ℕ, ◌-◌, List, [], ◌∷◌, Option, Some, None, drop, map, take}
use Rattle.std.specs.List.{flat_map}
use Rattle.algebra.specs.declared.domain.Domain.{Domain}
use Rattle.algebra.specs.declared.kinds.MonoidKind.{MonoidKind}
use Rattle.algebra.specs.declared.monoid.Monoid.{Monoid}
use Rattle.lanes.specs.Lists.{fold_of}
use Rattle.model.specs.declared.entry.Entry.{Entry}
use Rattle.model.specs.Reductions.{all_words}
use Rattle.store.specs.declared.lists.FiberEnd.{FiberEnd}
use Rattle.store.specs.Stored.{Stored, content_of, entries_in_row}

-- the words combined in order from the monoid's identity; nothing of no words
abbrev pub folded : Monoid → List ℕ → Option ℕ
folded monoid [] = None
folded monoid (word ∷ words) = Some (fold_of monoid.kind monoid.op.domain (word ∷ words))

-- the words of the entries of a row combined
abbrev pub row_sum : Monoid → ℕ → List Entry → Option ℕ
row_sum monoid i es = folded monoid (map (λ e. e.word) (entries_in_row i es))

-- the words of each fiber combined, of which the first begins at from
unfoldable pub sums_of : MonoidKind → Domain → ℕ → List FiberEnd → List ℕ → List ℕ
sums_of kind d from [] words = []
sums_of kind d from (r ∷ rs) words =
    fold_of kind d (take (r.end - from) words) ∷ sums_of kind d r.end rs (drop (r.end - from) words)

-- the words of stores, row by row, those of each behind those of the one before
abbrev pub words_of : List Stored → List ℕ
words_of stores = flat_map (λ s. all_words s.rows s.cols (content_of s)) stores
