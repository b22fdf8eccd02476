-- Stores one behind the other.
use Rattle.std.proofs.Common.{◌≡◌, ◌∙◌, ◌++◌, ◌+◌, ◌<◌, ◌≤◌, ℕ, List, [], ap, drop, get_or, length, sym}
use Rattle.std.proofs.lemmas.List.{drop_all, drop_more}
use Rattle.model.specs.declared.entry.Entry.{Entry}
use Rattle.model.specs.Entries.{entries_between}
use Rattle.store.specs.Stored.{Stored, content_of}
use Rattle.shapes.specs.Columns.{entries_of_stores}

-- the entries of one store
abbrev pub all_of : Stored → List Entry
all_of s = entries_between 0 s.rows s.cols (content_of s)

pub first_store : (stores : List Stored) (k : ℕ) (s : Stored) → k < length stores → s ≡ get_or stores k s
    → entries_of_stores (drop k stores) ≡ all_of s ++ entries_of_stores (drop (k + 1) stores)
first_store stores k s within is =
    ap entries_of_stores (drop_more stores k s within) ∙ ap (λ at. all_of at ++ entries_of_stores (drop (k + 1) stores)) (sym is)

pub no_store : (stores : List Stored) (k : ℕ) → length stores ≤ k → entries_of_stores (drop k stores) ≡ []
no_store stores k past = ap entries_of_stores (drop_all k stores past)
