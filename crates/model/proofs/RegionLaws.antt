-- What is found at lists of indices lies inside the shape that they make or name, and is of the same domain.
use Rattle.std.proofs.Common.{◌≡◌, ◌∙◌, ℕ, zero, suc, ◌+◌, ◌==◌, ◌&&◌, not, Bool, true, false, if◌then◌else◌, List, [], ◌∷◌, Option, Some, None, is_some, refl, ap, inl, inr, arith}
use Rattle.std.specs.Prelude.{nat_lt, slice_get}
use Rattle.std.specs.List.{list_all, position_from}
use Rattle.std.proofs.lemmas.Bool.{and_parts, cases_Bool, eq-eqb}
use Rattle.std.proofs.lemmas.Bool.Decides.{nat_tests}
use Rattle.std.proofs.lemmas.Iterator.Adapters.{position_from-zero}
use Rattle.std.proofs.lemmas.Option.{slice_get_past}
use Rattle.algebra.specs.declared.domain.Domain.{Domain}
use Rattle.algebra.specs.Value.{IsWordOf}
use Rattle.model.specs.declared.call.Region.{Region}
use Rattle.model.specs.declared.call.Region.TheVariants as region
use Rattle.model.specs.declared.shape.Shape.{Shape}
use Rattle.model.specs.declared.shape.Shape.TheVariants.{One, Two}
use Rattle.model.specs.Indices.{All, Indices, These, are_below, are_distinct, count_of, index_at, is_distinct, place_in}
use Rattle.model.specs.Object.{AreWordsOf, Content, IsWithin, cols_of, rows_of}
use Rattle.model.specs.Regions.{cols_in, cut_to, extracted, filled, found_at, is_listed, is_region_of, placed, rows_in, shape_in}

-- ---- lists

-- behind the last place of a list there is no index
pub index_at-none : (size : ℕ) (list : Indices) (k : ℕ) → nat_lt k (count_of size list) ≡ false
    → index_at size list k ≡ None
index_at-none size All k past = rw past refl
index_at-none size (These items) k past = slice_get_past items k (grind (arith, nat_tests))

unlisted_from : (items : List ℕ) (size i n : ℕ) → list_all (λ x. nat_lt x size) items ≡ true → nat_lt i size ≡ false
    → position_from (λ x. x == i) n items ≡ None
unlisted_from [] size i n below past = refl
unlisted_from (x ∷ items) size i n below past =
    let parts = and_parts (nat_lt x size) (list_all (λ x. nat_lt x size) items) below in
    let differs : (x == i) ≡ false = grind (arith, nat_tests) in
    rw differs (unlisted_from items size i (n + 1) parts.1 past)

-- indices below a size don't list one that isn't
pub place_in-none : (size : ℕ) (list : Indices) (i : ℕ) → are_below size list ≡ true → nat_lt i size ≡ false
    → place_in size list i ≡ None
place_in-none size All i below past = rw past refl
place_in-none size (These items) i below past = position_from-zero (λ x. x == i) items ∙ unlisted_from items size i 0 below past

-- ---- what is found

found_at-no_col : (c : Content) (row : Option ℕ) → found_at c row None ≡ None
found_at-no_col c None = refl
found_at-no_col c (Some i) = refl

-- nothing is found outside a shape where no row or no column is
found-within : (m n : ℕ) (c : Content) (row col : ℕ → Option ℕ) → ((i : ℕ) → nat_lt i m ≡ false → row i ≡ None)
    → ((j : ℕ) → nat_lt j n ≡ false → col j ≡ None)
    → IsWithin m n (λ i j. found_at c (row i) (col j))
found-within m n c row col rows cols i j outside =
    elim (cases_Bool (nat_lt i m)) [
      | inl inside ↦ rw (cols j (rw inside at outside)) (found_at-no_col c (row i))
      | inr past ↦ rw (rows i past) refl
    ]

found-word : (domain : Domain) (c : Content) (row col : Option ℕ) (word : ℕ) → AreWordsOf domain c
    → found_at c row col ≡ Some word → IsWordOf domain word
found-word domain c None col word words is = absurd (cc)
found-word domain c (Some i) None word words is = absurd (cc)
found-word domain c (Some i) (Some j) word words is = words i j word is

pub extracted-within : (m n : ℕ) (rows cols : Indices) (c : Content)
    → IsWithin (count_of m rows) (count_of n cols) (extracted m n rows cols c)
extracted-within m n rows cols c = found-within (count_of m rows) (count_of n cols) c (index_at m rows) (index_at n cols) (index_at-none m rows) (index_at-none n cols)

pub extracted-words : (domain : Domain) (m n : ℕ) (rows cols : Indices) (c : Content) → AreWordsOf domain c
    → AreWordsOf domain (extracted m n rows cols c)
extracted-words domain m n rows cols c words i j word is = found-word domain c (index_at m rows i) (index_at n cols j) word words is

pub placed-within : (m n : ℕ) (rows cols : Indices) (c : Content) → are_below m rows ≡ true → are_below n cols ≡ true
    → IsWithin m n (placed m n rows cols c)
placed-within m n rows cols c low_rows low_cols =
    found-within m n c (place_in m rows) (place_in n cols) (λ i. place_in-none m rows i low_rows) (λ j. place_in-none n cols j low_cols)

pub placed-words : (domain : Domain) (m n : ℕ) (rows cols : Indices) (c : Content) → AreWordsOf domain c
    → AreWordsOf domain (placed m n rows cols c)
placed-words domain m n rows cols c words i j word is = found-word domain c (place_in m rows i) (place_in n cols j) word words is

and_false : (b : Bool) → (b && false) ≡ false
and_false true = refl
and_false false = refl

-- a position outside a shape isn't listed
pub is_listed-outside : (m n : ℕ) (rows cols : Indices) → are_below m rows ≡ true → are_below n cols ≡ true → (i j : ℕ)
    → (nat_lt i m && nat_lt j n) ≡ false → is_listed m n rows cols i j ≡ false
is_listed-outside m n rows cols low_rows low_cols i j outside =
    elim (cases_Bool (nat_lt i m)) [
      | inl inside ↦ rw (place_in-none n cols j low_cols (rw inside at outside)) (and_false (is_some (place_in m rows i)))
      | inr past ↦ rw (place_in-none m rows i low_rows past) refl
    ]

pub filled-within : (m n : ℕ) (rows cols : Indices) (word : ℕ) → are_below m rows ≡ true → are_below n cols ≡ true
    → IsWithin m n (filled m n rows cols word)
filled-within m n rows cols word low_rows low_cols i j outside = rw (is_listed-outside m n rows cols low_rows low_cols i j outside) refl

filled-word : (listed : Bool) (word w : ℕ) (o : Option ℕ) → o ≡ (if listed then Some word else None) → o ≡ Some w
    → word ≡ w
filled-word true word w o is some = cc
filled-word false word w o is some = absurd (cc)

pub filled-words : (domain : Domain) (m n : ℕ) (rows cols : Indices) (word : ℕ) → IsWordOf domain word
    → AreWordsOf domain (filled m n rows cols word)
filled-words domain m n rows cols word of i j w is =
    let same = filled-word (is_listed m n rows cols i j) word w (filled m n rows cols word i j) refl is in rw same at of

-- ---- shapes

-- the shape that lists make has as many rows and columns as they have indices
pub shape_in-counts : (shape : Shape) (r : Region) → is_region_of r shape ≡ true
    → (count_of (rows_of shape) (rows_in r) ≡ rows_of (shape_in shape r)) × (count_of (cols_of shape) (cols_in r) ≡ cols_of (shape_in shape r))
shape_in-counts (One n) (region.One list) is = (refl, refl)
shape_in-counts (Two m n) (region.Two rows cols) is = (refl, refl)
shape_in-counts (One n) (region.Two rows cols) is = absurd (cc)
shape_in-counts (Two m n) (region.One list) is = absurd (cc)

-- ---- another shape

pub cut_to-within : (m n : ℕ) (c : Content) → IsWithin m n (cut_to m n c)
cut_to-within m n c i j outside = rw outside refl

cut-word : (inside : Bool) (old : Option ℕ) (word : ℕ) → (if inside then old else None) ≡ Some word → old ≡ Some word
cut-word true old word is = is
cut-word false old word is = absurd (cc)

pub cut_to-words : (domain : Domain) (m n : ℕ) (c : Content) → AreWordsOf domain c → AreWordsOf domain (cut_to m n c)
cut_to-words domain m n c words i j word is = words i j word (cut-word (nat_lt i m && nat_lt j n) (c i j) word is)

-- ---- what is put at lists and found at them again

not_true : (b : Bool) → not b ≡ true → b ≡ false
not_true true h = absurd (cc)
not_true false h = refl

-- of all indices each stands at its own place
all_at : (inside : Bool) (k i : ℕ) → (if inside then Some k else None) ≡ Some i → (inside ≡ true) × (k ≡ i)
all_at true k i there = (refl, cc)
all_at false k i there = absurd (cc)

listed_apart : (x : ℕ) (items : List ℕ) (k i : ℕ) → list_all (λ y. not (x == y)) items ≡ true
    → slice_get items k ≡ Some i → (x == i) ≡ false
listed_apart x [] k i apart there = absurd (cc)
listed_apart x (y ∷ items) zero i apart there =
    let parts = and_parts (not (x == y)) (list_all (λ y. not (x == y)) items) apart in
    let same : y ≡ i = cc in
    rw same at (not_true (x == y) parts.0)
listed_apart x (y ∷ items) (suc k) i apart there =
    listed_apart x items k i (and_parts (not (x == y)) (list_all (λ y. not (x == y)) items) apart).1 there

place_of_index : (items : List ℕ) (from k i : ℕ) → is_distinct items ≡ true → slice_get items k ≡ Some i
    → position_from (λ x. x == i) from items ≡ Some (from + k)
place_of_index [] from k i distinct there = absurd (cc)
place_of_index (x ∷ items) from zero i distinct there =
    let same : x ≡ i = cc in
    rw (same, eq-eqb i i refl) (ap Some (omega arith))
place_of_index (x ∷ items) from (suc k) i distinct there =
    let parts = and_parts (list_all (λ y. not (x == y)) items) (is_distinct items) distinct in
    rw (listed_apart x items k i parts.0 there) (place_of_index items (from + 1) k i parts.1 there ∙ ap Some (omega arith))

-- where none is repeated, the place of the index that stands at a place of a list is that place
pub place_in-index_at : (size : ℕ) (list : Indices) (k i : ℕ) → are_distinct list ≡ true
    → index_at size list k ≡ Some i → place_in size list i ≡ Some k
place_in-index_at size All k i distinct there = let at = all_at (nat_lt k size) k i there in rw (← at.1, at.0) refl
place_in-index_at size (These items) k i distinct there =
    position_from-zero (λ x. x == i) items ∙ place_of_index items 0 k i distinct there ∙ ap Some (omega arith)

-- Where no index is repeated, what is put at lists of rows and columns stands at the k-th row and the l-th column as it
-- stood at (k, l).
pub placed_at_listed : (m n : ℕ) (rows cols : Indices) (c : Content) (k l i j : ℕ) → are_distinct rows ≡ true
    → are_distinct cols ≡ true
    → index_at m rows k ≡ Some i → index_at n cols l ≡ Some j → placed m n rows cols c i j ≡ c k l
placed_at_listed m n rows cols c k l i j apart_rows apart_cols row col =
    rw (place_in-index_at m rows k i apart_rows row, place_in-index_at n cols l j apart_cols col) refl
