-- Rows of one map at a list that rises, and those of another between them.
use Rattle.std.proofs.Common.{◌≡◌, ℕ, ◌+◌, ◌<◌, ◌≤◌, true, false, cond, List, length, get_or, is_some, None, refl, sym, ◌∙◌, ap, inl, inr, arith}
use Rattle.std.specs.List.{All}
use Rattle.std.specs.List.Sorted.{IsNonDecreasing}
use Rattle.std.proofs.lemmas.Bool.{cases_Bool, cases_lt}
use Rattle.std.proofs.lemmas.List.{get_or_default}
use Rattle.model.specs.ElementWise.{of_either}
use Rattle.model.specs.Indices.{Indices, place_in}
use Rattle.model.specs.Object.{Content}
use Rattle.model.specs.Regions.{is_listed}
use Rattle.store.specs.declared.lists.FiberLists.{FiberLists}
use Rattle.store.specs.Parts.{HasPart, HasRows}
use Rattle.store.proofs.PartLaws.{rows_more}
use Rattle.shapes.specs.Lists.{has_index, with_rows}
use Rattle.shapes.specs.Rows.{HasRowOf, IsMade}
use Rattle.shapes.specs.Sides.{one_side}
use Rattle.shapes.proofs.ListLaws.{has_at, has_none}
use Rattle.shapes.proofs.Made.{made_more, made_skip}
use Rattle.shapes.proofs.SideLaws.{listed_none, two_sides}

-- ---- words of two maps

at_listed : (list : List ℕ) (new old : Content) (i j : ℕ) → has_index list i ≡ true
    → new i j ≡ with_rows list new old i j
at_listed list new old i j has = rw has refl

at_other : (list : List ℕ) (new old : Content) (i j : ℕ) → has_index list i ≡ false
    → old i j ≡ with_rows list new old i j
at_other list new old i j none = rw none refl

-- rows of a map are those of another that has the same words there
part_as : (c d : Content) (row next cols : ℕ) (old new : FiberLists)
    → ((i j : ℕ) → row ≤ i → i < next → d i j ≡ c i j) → HasPart d row next cols old new
    → HasPart c row next cols old new
part_as c d row next cols old new same part = record {
  flat = part.flat;
  part = part.part;
  whole = part.whole;
  inside = part.inside;
  words = λ i j low high. part.words i j low high ∙ same i j low high;
}

row_as : (c d : Content) (index cols : ℕ) (old new : FiberLists) → ((j : ℕ) → d index j ≡ c index j)
    → HasRowOf d index cols old new → HasRowOf c index cols old new
row_as c d index cols old new same here = record {
  cs = here.cs;
  ws = here.ws;
  row = record {
    lengths = here.row.lengths;
    rising = here.row.rising;
    inside = here.row.inside;
    words = λ j. here.row.words j ∙ same j;
  };
  put = here.put;
}

-- ---- numbers between those of a list that rises

-- from a place of a list on all its numbers are greater
behind_place : (xs : List ℕ) (k i : ℕ) → IsNonDecreasing xs → k < length xs → i < get_or xs k 0 → (p : ℕ)
    → k ≤ p → p < length xs → i < get_or xs p 0
behind_place xs k i rises within less p from inside = let up = rises k p 0 from inside in omega arith

-- what is above some first numbers of a list and below the others isn't in it
between_places : (xs : List ℕ) (k low i : ℕ) → ((p : ℕ) → p < k → get_or xs p 0 < low)
    → ((p : ℕ) → k ≤ p → p < length xs → i < get_or xs p 0) → low ≤ i → has_index xs i ≡ false
between_places xs k low i before behind up =
    has_none xs i (λ p d within same. elim (cases_lt p k) [
      | inl early ↦ absurd (let less = before p early in let at = sym (get_or_default xs p d 0 within) ∙ same in omega arith)
      | inr late ↦ absurd (let more = behind p late within in let at = sym (get_or_default xs p d 0 within) ∙ same in omega arith)
    ])

-- the rows from first up to before row have the numbers of a list before place k
pub record IsUpTo (xs : List ℕ) (first past k row : ℕ) : Type 0 where
  pub low : first ≤ row
  pub high : row ≤ past
  pub before : (p : ℕ) → p < k → get_or xs p 0 < row

pub up_to_none : (xs : List ℕ) (first past : ℕ) → first ≤ past → IsUpTo xs first past 0 first
up_to_none xs first past up = record { low = omega arith; high = up; before = λ p less. absurd (omega arith) }

pub up_to_more : (xs : List ℕ) (first past k row : ℕ) → All (λ x. (first ≤ x) × (x < past)) xs → k < length xs
    → row ≤ get_or xs k 0 → IsUpTo xs first past k row → IsUpTo xs first past (k + 1) (get_or xs k 0 + 1)
up_to_more xs first past k row inside within up here =
    let at = inside k 0 within in
    let low = at.0 in
    let high = at.1 in
    record {
      low = omega arith;
      high = omega arith;
      before = λ p less. elim (cases_lt p k) [
        | inl early ↦ let low = here.before p early in omega arith
        | inr late ↦ let same : p ≡ k = omega arith in rw same (omega arith)
      ];
    }

pub up_to_again : (xs : List ℕ) (first past k row : ℕ) → get_or xs k 0 < row → IsUpTo xs first past k row
    → IsUpTo xs first past (k + 1) row
up_to_again xs first past k row done here = record {
  low = here.low;
  high = here.high;
  before = λ p less. elim (cases_lt p k) [
    | inl early ↦ here.before p early
    | inr late ↦ let same : p ≡ k = omega arith in rw same done
  ];
}

-- no number of a list lies between two
abbrev pub LiesNone : List ℕ → ℕ → ℕ → Type 0
LiesNone xs low high = (i : ℕ) → low ≤ i → i < high → has_index xs i ≡ false

-- from the numbers before a place on up to that at it
pub none_to_place : (xs : List ℕ) (first past k row : ℕ) → IsNonDecreasing xs → k < length xs
    → IsUpTo xs first past k row → LiesNone xs row (get_or xs k 0)
none_to_place xs first past k row rises within here i low high =
    between_places xs k row i here.before (behind_place xs k i rises within high) low

-- behind all numbers
pub none_to_end : (xs : List ℕ) (first past k row : ℕ) → length xs ≤ k → IsUpTo xs first past k row
    → LiesNone xs row past
none_to_end xs first past k row all here i low high =
    between_places xs k row i here.before (λ p late within. absurd (omega arith)) low

-- ---- rows of both maps

-- the rows up to the next that is listed
pub rows_between : (new old : Content) (listed : List ℕ) (first row next cols : ℕ) (before after : FiberLists)
    → LiesNone listed row next → first ≤ row → row ≤ next → HasRows (with_rows listed new old) first row cols before
    → HasPart old row next cols before after → HasRows (with_rows listed new old) first next cols after
rows_between new old listed first row next cols before after none start up here part =
    rows_more (with_rows listed new old) first row next cols before after here
    (part_as (with_rows listed new old) old row next cols before after (λ i j low high. at_other listed new old i j (none i low high)) part)
    start up

-- one that is listed
pub rows_listed : (new old : Content) (listed : List ℕ) (k first cols : ℕ) (before after : FiberLists)
    → k < length listed → first ≤ get_or listed k 0
    → HasRows (with_rows listed new old) first (get_or listed k 0) cols before
    → HasPart new (get_or listed k 0) (get_or listed k 0 + 1) cols before after
    → HasRows (with_rows listed new old) first (get_or listed k 0 + 1) cols after
rows_listed new old listed k first cols before after within start here part =
    let index = get_or listed k 0 in
    rows_more (with_rows listed new old) first index (index + 1) cols before after here
    (part_as (with_rows listed new old) new index (index + 1) cols before after
    (λ i j low high. at_listed listed new old i j (let same : i ≡ index = omega arith in ap (has_index listed) same ∙ has_at listed k within)) part)
    start (omega arith)

-- ---- rows of one map alone

-- those up to the next that is listed
pub made_between : (c : Content) (listed : List ℕ) (first row next cols : ℕ) (lists : FiberLists)
    → LiesNone listed row next → row ≤ next → IsMade (with_rows listed c (λ i j. None)) first row cols lists
    → IsMade (with_rows listed c (λ i j. None)) first next cols lists
made_between c listed first row next cols lists none up here =
    made_skip (with_rows listed c (λ i j. None)) first row next cols lists here up
    (λ i j low high. sym (at_other listed c (λ i j. None) i j (none i low high)))

-- one that is listed, and those up to it
pub made_listed : (c : Content) (listed : List ℕ) (k first row cols : ℕ) (before after : FiberLists)
    → k < length listed → LiesNone listed row (get_or listed k 0) → row ≤ get_or listed k 0
    → IsMade (with_rows listed c (λ i j. None)) first row cols before → HasRowOf c (get_or listed k 0) cols before after
    → IsMade (with_rows listed c (λ i j. None)) first (get_or listed k 0 + 1) cols after
made_listed c listed k first row cols before after within none up here put =
    let index = get_or listed k 0 in
    let all = with_rows listed c (λ i j. None) in
    made_more all first index cols before after (made_between c listed first row index cols before none up here)
    (row_as all c index cols before after (λ j. at_listed listed c (λ i j. None) index j (has_at listed k within)) put)

-- ---- both sides

-- rows that are listed have the words of both sides, and the others those of the old map
pub mixed_word : (m n i j : ℕ) (rows cols : Indices) (listed : List ℕ) (new old mixed outside inside : Content)
    → has_index listed i ≡ is_some (place_in m rows i)
    → outside i j ≡ with_rows listed (one_side false m n rows cols old) (λ i j. None) i j
    → inside i j ≡ one_side true m n rows cols new i j
    → mixed i j ≡ of_either (λ w. w) (λ w. w) (λ x y. y) (outside i j) (inside i j)
    → with_rows listed mixed old i j ≡ cond (is_listed m n rows cols i j) (new i j) (old i j)
mixed_word m n i j rows cols listed new old mixed outside inside has left right is = elim (cases_Bool (has_index listed i)) [
  | inl named ↦
      sym (at_listed listed mixed old i j named) ∙ is
      ∙ rw (left ∙ sym (at_listed listed (one_side false m n rows cols old) (λ i j. None) i j named), right)
      (two_sides (is_listed m n rows cols i j) (old i j) (new i j))
  | inr other ↦
      sym (at_other listed mixed old i j other) ∙ rw (listed_none m n i j rows cols (sym has ∙ other)) refl
]
