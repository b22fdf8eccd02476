-- Rows of what is extracted.
use Rattle.std.proofs.Common.{◌≡◌, ℕ, ◌<◌, true, false, ltb, List, length, get_or, Option, Some, None, refl, sym, ◌∙◌, ap, inl, inr, arith}
use Rattle.std.specs.Option.{option_and_then}
use Rattle.std.proofs.lemmas.Bool.{cases_Bool}
use Rattle.std.proofs.lemmas.Bool.Decides.{nat_tests}
use Rattle.std.proofs.lemmas.Option.{slice_get-get_or}
use Rattle.model.specs.Indices.{All, Indices, These, index_at}
use Rattle.model.specs.Object.{Content}
use Rattle.model.specs.Regions.{extracted, found_at}
use Rattle.shapes.proofs.Going.{StaysEmpty}

-- a row of all rows
pub row_of_all : (m n : ℕ) (cols : Indices) (c : Content) (i j : ℕ) → i < m
    → extracted m n All cols c i j ≡ option_and_then (c i) (index_at n cols j)
row_of_all m n cols c i j inside = let is : ltb i m ≡ true = grind (arith, nat_tests) in rw is refl

-- a row of those that are listed
pub row_of_these : (m n : ℕ) (rows : List ℕ) (cols : Indices) (c : Content) (i j : ℕ) → i < length rows
    → extracted m n (These rows) cols c i j ≡ option_and_then (c (get_or rows i 0)) (index_at n cols j)
row_of_these m n rows cols c i j inside = ap (λ o. found_at c o (index_at n cols j)) (slice_get-get_or rows i 0 inside)

nothing_of : (c : Content) (i : ℕ) (o : Option ℕ) → ((j : ℕ) → c i j ≡ None) → option_and_then (c i) o ≡ None
nothing_of c i None none = refl
nothing_of c i (Some j) none = none j

-- an empty row stays empty
pub all_empty : (m n : ℕ) (cols : Indices) (c : Content) → StaysEmpty c (extracted m n All cols c)
all_empty m n cols c i none j = elim (cases_Bool (ltb i m)) [
  | inl inside ↦ rw inside (nothing_of c i (index_at n cols j) none)
  | inr outside ↦ rw outside refl
]

-- all columns of all rows are the map
pub all_of_all : (m n : ℕ) (c : Content) (i j : ℕ) → i < m → (ltb j n ≡ false → c i j ≡ None)
    → extracted m n All All c i j ≡ c i j
all_of_all m n c i j inside out =
    row_of_all m n All c i j inside ∙ elim (cases_Bool (ltb j n)) [
      | inl here ↦ rw here refl
      | inr past ↦ rw past (sym (out past))
    ]
