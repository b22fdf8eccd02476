-- Entries of which each gets another word: the same places, and the map with other words.
use Rattle.std.proofs.Common.{◌≡◌, ℕ, ◌<◌, ◌≤◌, ◌&&◌, cond, eqb, Bool, true, false, List, [], ◌∷◌, length, map, Option, Some, refl, sym, ◌∙◌, ap, subst, inl, inr, arith}
use Rattle.std.specs.Option.{option_map}
use Rattle.std.proofs.lemmas.Bool.{cases_Bool}
use Rattle.std.proofs.lemmas.Bool.Decides.{nat_tests}
use Rattle.std.proofs.lemmas.List.Elements.{All-map}
use Rattle.model.specs.declared.entry.Entry.{Entry}
use Rattle.model.specs.Entries.{InOrder, Precedes, entry_at, word_at}
use Rattle.store.specs.declared.lists.FiberEnd.{FiberEnd}
use Rattle.store.specs.Fibers.{AreFlat, entries_from, placed}
use Rattle.store.specs.Stored.{AreIn, along, transposed}
use Rattle.store.proofs.Order.{all_pairs_map}
use Rattle.elementwise.specs.Mapped.{as_they_lie, mapped}

here_or_there : (f : ℕ → ℕ → ℕ → ℕ) (i j : ℕ) (e : Entry) (rest : Option ℕ)
    → cond (eqb i e.row && eqb j e.col) (Some (f e.row e.col e.word)) (option_map (f i j) rest) ≡ option_map (f i j)
    (cond (eqb i e.row && eqb j e.col) (Some e.word) rest)
here_or_there f i j e rest = elim (cases_Bool (eqb i e.row && eqb j e.col)) [
  | inl here ↦
      let row : i ≡ e.row = grind (arith, nat_tests) in
      let col : j ≡ e.col = grind (arith, nat_tests) in
      rw here (ap (λ i. Some (f i e.col e.word)) (sym row) ∙ ap (λ j. Some (f i j e.word)) (sym col))
  | inr away ↦ rw away refl
]

-- the map that entries stand for
pub word_at-mapped : (f : ℕ → ℕ → ℕ → ℕ) (es : List Entry) (i j : ℕ)
    → word_at (mapped f es) i j ≡ option_map (f i j) (word_at es i j)
unfolding word_at
word_at-mapped f [] i j = refl
word_at-mapped f (e ∷ es) i j =
    ap (cond (eqb i e.row && eqb j e.col) (Some (f e.row e.col e.word))) (word_at-mapped f es i j) ∙ here_or_there f i j e (word_at es i j)

transposed-mapped : (f : ℕ → ℕ → ℕ → ℕ) (es : List Entry)
    → transposed (mapped f es) ≡ mapped (λ i j. f j i) (transposed es)
transposed-mapped f [] = refl
transposed-mapped f (e ∷ es) = ap (λ rest. entry_at e.col e.row (f e.row e.col e.word) ∷ rest) (transposed-mapped f es)

-- a function of the row and the column, of entries as they lie
pub along-mapped : (cols : ℕ) (f : ℕ → ℕ → ℕ → ℕ) (es : List Entry)
    → along cols (mapped (as_they_lie (eqb cols 1) f) es) ≡ mapped f (along cols es)
along-mapped cols f es =
    elim (eqb cols 1) as (λ b. cond b (transposed (mapped (λ outer inner word. cond b (f inner outer word) (f outer inner word)) es)) (mapped (λ outer inner word. cond b (f inner outer word) (f outer inner word)) es) ≡ mapped f (cond b (transposed es) es)) [
      | true ↦ transposed-mapped (λ outer inner word. f inner outer word) es
      | false ↦ refl
    ]

-- the same where a function of words alone makes them
pub along-words : (cols : ℕ) (f : ℕ → ℕ) (es : List Entry)
    → along cols (mapped (λ _ _. f) es) ≡ mapped (λ _ _. f) (along cols es)
along-words cols f es =
    elim (eqb cols 1) as (λ b. cond b (transposed (mapped (λ _ _. f) es)) (mapped (λ _ _. f) es) ≡ mapped (λ _ _. f) (cond b (transposed es) es)) [
      | true ↦ transposed-mapped (λ _ _. f) es
      | false ↦ refl
    ]

-- a function of words alone, as they lie
pub words_as_they_lie : (is_column : Bool) (f : ℕ → ℕ) (es : List Entry)
    → mapped (λ _ _. f) es ≡ mapped (as_they_lie is_column (λ _ _. f)) es
words_as_they_lie true f es = refl
words_as_they_lie false f es = refl

pub mapped-in : (f : ℕ → ℕ → ℕ → ℕ) (first past cols : ℕ) (es : List Entry) → AreIn first past cols es
    → AreIn first past cols (mapped f es)
mapped-in f first past cols es inside =
    All-map (λ e. ((first ≤ e.row) × (e.row < past)) × (e.col < cols)) (λ (e : Entry). entry_at e.row e.col (f e.row e.col e.word)) es inside

-- ---- as they lie

pub placed-mapped : (f : ℕ → ℕ) (os inner words : List ℕ)
    → placed os inner (map f words) ≡ mapped (λ _ _. f) (placed os inner words)
placed-mapped f [] inner words = refl
placed-mapped f (o ∷ os) [] words = refl
placed-mapped f (o ∷ os) (c ∷ cs) [] = refl
placed-mapped f (o ∷ os) (c ∷ cs) (w ∷ ws) = ap (λ es. entry_at o c (f w) ∷ es) (placed-mapped f os cs ws)

-- fibers with other words
pub flat-mapped : (f : ℕ → ℕ → ℕ → ℕ) (ends : List FiberEnd) (inner words made : List ℕ) → AreFlat ends inner words
    → length made ≡ length words → entries_from 0 ends inner made ≡ mapped f (entries_from 0 ends inner words)
    → AreFlat ends inner made
flat-mapped f ends inner words made flat long is =
    let same = flat.same_length in
    record {
      same_length = long ∙ same;
      rises = flat.rises;
      whole = flat.whole;
      apart = flat.apart;
      order = subst InOrder (sym is) (all_pairs_map Precedes (λ (e : Entry). entry_at e.row e.col (f e.row e.col e.word)) (entries_from 0 ends inner words) flat.order);
    }
