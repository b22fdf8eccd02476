-- The terms of a row of a product, and their sums.
use Rattle.std.specs.Prelude.{ℕ, ◌≡◌, ◌<◌, ◌+◌, ◌++◌, ◌==◌, Bool, List, [], length, map, slice_index, take}
use Rattle.std.specs.Prelude.{Option, None, Some}
use Rattle.std.specs.Option.{option_to_list}
use Rattle.std.specs.List.{All, AllPairs, Contains, filter, flat_map, reduce}
use Rattle.algebra.specs.declared.binary.BinaryOp.{BinaryOp}
use Rattle.algebra.specs.Operators.{eval_of}
use Rattle.model.specs.declared.entry.Entry.{Entry}
use Rattle.model.specs.Entries.{row_entries}
use Rattle.store.specs.declared.lists.FiberLists.{FiberLists}
use Rattle.store.specs.Stored.{Stored, content_of}
use Rattle.terms.specs.declared.term.Term.{Term}

-- what an operator gives for two words
abbrev pub apply : BinaryOp → ℕ → ℕ → ℕ
apply op = eval_of op.kind op.domain

abbrev pub term_at : ℕ → ℕ → Term
term_at col word = record { col = col; word = word }

-- numbers that rise by one from each to the next
abbrev pub AreConsecutive : List ℕ → Type 0
AreConsecutive list = (k : ℕ) → k < length list → slice_index list k ≡ slice_index list 0 + k

-- a word times each entry of a row
abbrev pub times_row : BinaryOp → ℕ → List Entry → List Term
times_row op word row = map (λ e. term_at e.col (apply op word e.word)) row

-- the same where there is a word, and no terms where there is none
abbrev pub times_found : BinaryOp → Option ℕ → List Entry → List Term
times_found op None row = []
times_found op (Some word) row = times_row op word row

-- each entry of a row of A times the row of B that its column names, in order
abbrev pub terms_of_row : BinaryOp → List Entry → Stored → List Term
terms_of_row op row b = flat_map (λ e. times_row op e.word (row_entries b.cols (content_of b) e.col)) row

-- terms are those of the first so many entries of a row of A
pub record AreFirstTerms (op : BinaryOp) (row : List Entry) (b : Stored) (terms : List Term) (done : ℕ) : Type 0 where
  pub are_those : terms ≡ terms_of_row op (take done row) b

-- the terms at columns that are kept
abbrev pub kept_terms : (ℕ → Bool) → List Term → List Term
kept_terms keeps terms = filter (λ t. keeps t.col) terms

-- the same of those at columns that are kept
pub record AreFirstKept (keeps : ℕ → Bool) (op : BinaryOp) (row : List Entry) (b : Stored) (terms : List Term)
    (done : ℕ) : Type 0 where
  pub are_those : terms ≡ kept_terms keeps (terms_of_row op (take done row) b)

-- the words at one column, in order
abbrev pub words_at : ℕ → List Term → List ℕ
words_at col terms = map (λ t. t.word) (filter (λ t. t.col == col) terms)

-- the sum of the words at one column, in order; there is none of no words
abbrev pub sum_at : BinaryOp → ℕ → List Term → Option ℕ
sum_at op col terms = reduce (apply op) (words_at col terms)

-- one term for each column, in order of the columns: the sum of the words there
pub record AreSums (op : BinaryOp) (terms sums : List Term) : Type 0 where
  pub rising : AllPairs (λ s t. s.col < t.col) sums
  pub columns : All (λ s. Contains (map (λ t. t.col) terms) s.col) sums
  pub words : (col : ℕ) → words_at col sums ≡ option_to_list (sum_at op col terms)

-- behind the inner indices and words stand the sums of the terms, one for each column
pub record HasSums (op : BinaryOp) (terms : List Term) (old new : FiberLists) : Type 0 where
  pub sums : List Term
  pub are_sums : AreSums op terms sums
  pub ends : new.ends ≡ old.ends
  pub inner : new.inner.items ≡ old.inner.items ++ map (λ s. s.col) sums
  pub words : new.words.items ≡ old.words.items ++ map (λ s. s.word) sums
