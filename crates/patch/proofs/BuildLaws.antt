-- The entries of tuples that are sorted, and what they make.
use Rattle.std.proofs.Common.{◌≡◌, ℕ, zero, suc, ◌<◌, ◌≤◌, true, List, [], ◌∷◌, map, Option, refl, ◌∙◌, ap, arith}
use Rattle.std.specs.Prelude.{ℤ, pos, negsuc}
use Rattle.std.specs.List.{All}
use Rattle.std.proofs.lemmas.Bool.{and_parts}
use Rattle.std.proofs.lemmas.Bool.Decides.{nat_tests}
use Rattle.std.proofs.lemmas.List.Elements.{All-cons, All-map, All-nil, All-weaker}
use Rattle.std.proofs.lemmas.List.Sorted.{All-permutation}
use Rattle.algebra.specs.declared.domain.Domain.{Domain}
use Rattle.algebra.specs.declared.domain.Domain.TheVariants.{Bool as Boolean, Int64, Uint64, User}
use Rattle.algebra.specs.declared.operator_names.OpName.{OpName}
use Rattle.algebra.specs.Value.{is_value_of, word_of}
use Rattle.model.specs.Builds.{AreEntriesOf, are_inside, are_values_of, built, entry_of, gathered, joined_all, words_at}
use Rattle.model.specs.declared.entry.Entry.{Entry}
use Rattle.model.specs.declared.shape.Shape.{Shape}
use Rattle.model.specs.declared.tuples.Tuple.{Tuple}
use Rattle.model.specs.Entries.{entry_at}
use Rattle.model.specs.Object.{cols_of, col_of, is_inside, row_of, rows_of}
use Rattle.model.proofs.ObjectLaws.{inside-bounds}
use Rattle.store.specs.Stored.{AreIn}

-- ---- where they lie

all_inside : (shape : Shape) (ts : List Tuple) → are_inside shape ts ≡ true
    → All (λ t. is_inside t.place shape ≡ true) ts
all_inside shape [] h = All-nil (λ (t : Tuple). is_inside t.place shape ≡ true)
all_inside shape (t ∷ ts) h =
    let both = and_parts (is_inside t.place shape) (are_inside shape ts) h in
    All-cons (λ t. is_inside t.place shape ≡ true) t ts both.0 (all_inside shape ts both.1)

abbrev pub InShape : Shape → Entry → Type 0
InShape shape e = ((0 ≤ e.row) × (e.row < rows_of shape)) × (e.col < cols_of shape)

entry_inside : (shape : Shape) (t : Tuple) → is_inside t.place shape ≡ true → InShape shape (entry_of Uint64 t)
entry_inside shape t h = let bounds = inside-bounds t.place shape h in ((omega arith, bounds.0), bounds.1)

pub sorted_inside : (shape : Shape) (ts : List Tuple) (sorted : List Entry) → AreEntriesOf ts sorted
    → are_inside shape ts ≡ true → AreIn 0 (rows_of shape) (cols_of shape) sorted
sorted_inside shape ts sorted from h =
    All-permutation (InShape shape) (map (entry_of Uint64) ts) sorted from.same
    (All-map (InShape shape) (entry_of Uint64) ts
    (All-weaker (λ t. is_inside t.place shape ≡ true) (λ t. InShape shape (entry_of Uint64 t)) (entry_inside shape) ts (all_inside shape ts h)))

-- ---- their words

-- the word of a value of a domain is the value modulo 2 ^ 64
word_of-value : (domain : Domain) (value : ℤ) → is_value_of domain value ≡ true
    → word_of Uint64 value ≡ word_of domain value
word_of-value Boolean (pos zero) h = refl
word_of-value Boolean (pos (suc zero)) h = refl
word_of-value Boolean (pos (suc (suc n))) h = absurd (grind (arith, nat_tests))
word_of-value Boolean (negsuc n) h = absurd (cc)
word_of-value Int64 value h = refl
word_of-value Uint64 value h = refl
word_of-value (User k) value h = refl

-- so entries of values of a domain have its words
entries_of-values : (domain : Domain) (ts : List Tuple) → are_values_of domain ts ≡ true
    → map (entry_of Uint64) ts ≡ map (entry_of domain) ts
entries_of-values domain [] h = refl
entries_of-values domain (t ∷ ts) h =
    let both = and_parts (is_value_of domain t.value) (are_values_of domain ts) h in
    ap (λ es. entry_of Uint64 t ∷ es) (entries_of-values domain ts both.1)
    ∙ ap (λ word. entry_at (row_of t.place) (col_of t.place) word ∷ map (entry_of domain) ts) (word_of-value domain t.value both.0)

pub sorted_built : (dup : Option OpName) (domain : Domain) (ts : List Tuple) (sorted : List Entry)
    → AreEntriesOf ts sorted → are_values_of domain ts ≡ true → (i j : ℕ)
    → gathered dup sorted i j ≡ built dup domain ts i j
sorted_built dup domain ts sorted from values i j =
    ap (joined_all dup) (from.stable i j ∙ ap (λ es. words_at es i j) (entries_of-values domain ts values))
