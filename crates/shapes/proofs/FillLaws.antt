-- A word at some columns of some rows.
use Rattle.std.proofs.Common.{◌≡◌, ◌≢◌, ℕ, ◌+◌, ◌<◌, ◌≤◌, Bool, true, false, cond, ltb, ◌&&◌, List, [], ◌∷◌, ◌++◌, length, get_or, Some, None, refl, sym, ◌∙◌, ap, inl, inr, arith}
use Rattle.std.specs.Prelude.{replicate, is_some}
use Rattle.std.specs.List.{All, AllPairs}
use Rattle.std.proofs.lemmas.Bool.{cases_Bool, cases_eq, eq-eqb, ne_eqb}
use Rattle.std.proofs.lemmas.Bool.Decides.{nat_tests}
use Rattle.std.proofs.lemmas.List.Elements.{All-map, All-nil, All-weaker}
use Rattle.std.proofs.lemmas.List.{get_or_default, length-replicate}
use Rattle.model.specs.declared.entry.Entry.{Entry}
use Rattle.model.specs.Entries.{entry_at, word_at}
use Rattle.model.specs.Indices.{Indices, are_below, count_of, place_in}
use Rattle.model.specs.Regions.{filled}
use Rattle.store.specs.declared.lists.FiberLists.{FiberLists}
use Rattle.store.specs.Fibers.{entries_along}
use Rattle.store.specs.declared.lists.FiberEnd.{FiberEnd}
use Rattle.store.specs.Stored.{AreIn, transposed}
use Rattle.store.proofs.CloseLaws.{close_fiber, closed}
use Rattle.store.proofs.Contents.{no_entries, word_at-transposed}
use Rattle.store.proofs.FlatLaws.{all_cols, all_rows, flat_none}
use Rattle.store.proofs.PartLaws.{none_there}
use Rattle.shapes.specs.Lists.{AreOnce, IsFilledColumn, has_index, spread}
use Rattle.shapes.specs.Rows.{HasRow, IsMade, IsRowOf}
use Rattle.shapes.proofs.ListLaws.{has_at, has_none, none_has, outside_has}
use Rattle.shapes.proofs.Made.{made_more, made_none, made_skip}
use Rattle.shapes.proofs.RowWords.{no_word, row_word}

pub and_true : (a : Bool) → (a && true) ≡ a
and_true true = refl
and_true false = refl

-- a row of one word
row_of_word : (i j word : ℕ) (cols : List ℕ)
    → word_at (entries_along i cols (replicate (length cols) word)) i j ≡ cond (has_index cols j) (Some word) None
row_of_word i j word [] = no_word i j []
row_of_word i j word (c ∷ cs) = row_word i j c word cs (replicate (length cs) word) ∙ elim (cases_eq j c) [
  | inl same ↦ rw (eq-eqb j c same, eq-eqb c j (sym same)) refl
  | inr other ↦ rw (ne_eqb j c other, ne_eqb c j (λ same. other (sym same))) (row_of_word i j word cs)
]

-- the row of a listed row
listed_row : (rows cols : List ℕ) (word index size : ℕ) → AllPairs (λ a b. a < b) cols → All (λ x. x < size) cols
    → has_index rows index ≡ true → IsRowOf (spread rows cols word) index size cols (replicate (length cols) word)
listed_row rows cols word index size rising inside is = record {
  lengths = length-replicate (length cols) word;
  rising = rising;
  inside = inside;
  words = λ j. row_of_word index j word cols ∙ rw is refl;
}

-- the rows before a place of a list are filled
pub record IsFilling (rows cols : List ℕ) (word k first past size : ℕ) (lists : FiberLists) : Type 0 where
  pub next : ℕ
  pub high : next ≤ past
  pub made : IsMade (spread rows cols word) first next size lists
  pub rest : (m : ℕ) → k ≤ m → m < length rows → next ≤ get_or rows m 0
  pub gap : (i : ℕ) → next ≤ i → ((m : ℕ) → k ≤ m → m < length rows → get_or rows m 0 ≢ i) → has_index rows i ≡ false

pub filling_none : (rows cols : List ℕ) (word first past size : ℕ) (lists : FiberLists) → first ≤ past
    → All (λ x. (first ≤ x) × (x < past)) rows → lists.ends.items ≡ [] → lists.inner.items ≡ []
    → lists.words.items ≡ [] → IsFilling rows cols word 0 first past size lists
filling_none rows cols word first past size lists up inside ends inner words = record {
  next = first;
  high = up;
  made = made_none (spread rows cols word) first size lists ends inner words;
  rest = λ m low within. (inside m 0 within).0;
  gap = λ i low other. has_none rows i (λ k d within same. other k (omega arith) within (sym (get_or_default rows k d 0 within) ∙ same));
}

-- rows that are not listed are empty
gap_empty : (rows cols : List ℕ) (word i j : ℕ) → has_index rows i ≡ false → spread rows cols word i j ≡ None
gap_empty rows cols word i j none = rw none refl

pub filling_more : (rows cols : List ℕ) (word k first past size : ℕ) (old new : FiberLists)
    → AllPairs (λ a b. a < b) rows → AllPairs (λ a b. a < b) cols → All (λ x. (first ≤ x) × (x < past)) rows
    → All (λ x. x < size) cols → k < length rows
    → IsFilling rows cols word k first past size old
    → HasRow (get_or rows k 0) cols (replicate (length cols) word) old new
    → IsFilling rows cols word (k + 1) first past size new
filling_more rows cols word k first past size old new rising cols_rising inside cols_inside within here put =
    let row = get_or rows k 0 in
    let low = here.rest k (omega arith) within in
    let less : row < past = (inside k 0 within).1 in
    let above = λ (m : ℕ) (low : k ≤ m) (in_it : m < length rows). elim (cases_eq k m) as (λ _. row ≤ get_or rows m 0) [
      | inl same ↦ rw same (omega arith)
      | inr other ↦ let up = rising k m 0 (omega arith) in_it in omega arith
    ] in
    let up = made_skip (spread rows cols word) first here.next row size old here.made low
    (λ i j from below. gap_empty rows cols word i j (here.gap i from (λ m low in_it same. absurd (let a = above m low in_it in omega arith)))) in
    record {
      next = row + 1;
      high = omega arith;
      made = made_more (spread rows cols word) first row size old new up (record { cs = cols; ws = replicate (length cols) word; row = listed_row rows cols word row size cols_rising cols_inside (has_at rows k within); put = put });
      rest = λ m low in_it. let up = rising k m 0 (omega arith) in_it in omega arith;
      gap = λ i from other. here.gap i (omega arith) (λ m low in_it same. elim (cases_eq k m) [
        | inl at ↦ absurd (let e : row ≡ i = ap (λ k. get_or rows k 0) at ∙ same in omega arith)
        | inr later ↦ other m (omega arith) in_it same
      ]);
    }

pub filling_end : (rows cols : List ℕ) (word k first past size : ℕ) (lists : FiberLists) → length rows ≤ k
    → IsFilling rows cols word k first past size lists → IsMade (spread rows cols word) first past size lists
filling_end rows cols word k first past size lists all here =
    made_skip (spread rows cols word) first here.next past size lists here.made here.high
    (λ i j from below. gap_empty rows cols word i j (here.gap i from (λ m low in_it same. absurd (omega arith))))

-- ---- what lists name

both_same : (a b c d : Bool) (word : ℕ) → a ≡ c → b ≡ d
    → cond (a && b) (Some word) None ≡ cond (c && d) (Some word) None
both_same a b c d word e f = rw (e, f) refl

-- what is spread over parts of the lists is what is filled
pub spread_is : (m n first past word : ℕ) (rows cols : Indices) (row_list col_list : List ℕ) → past ≤ m
    → are_below n cols ≡ true → AreOnce first past (λ i. is_some (place_in m rows i)) row_list
    → AreOnce 0 n (λ j. is_some (place_in n cols j)) col_list
    → (i j : ℕ) → first ≤ i → i < past → spread row_list col_list word i j ≡ filled m n rows cols word i j
spread_is m n first past word rows cols row_list col_list end below row_once col_once i j low high =
    let row = row_once.part.members i low high in
    elim (cases_Bool (ltb j n)) [
      | inl inside ↦ both_same _ _ _ _ word row (col_once.part.members j (omega arith) (grind (arith, nat_tests)))
      | inr outside ↦
          let out : n ≤ j = grind (arith, nat_tests) in
          let none = has_none col_list j (All-weaker (λ x. (0 ≤ x) × (x < n)) (λ x. x ≢ j) (λ x p same. let less = p.1 in omega arith) col_list col_once.part.inside) in
          both_same _ _ _ _ word row (none ∙ sym (outside_has n j cols below out))
    ]

no_rows : (a b : Bool) (word : ℕ) → a ≡ false → cond (a && b) (Some word) None ≡ None
no_rows a b word e = rw e refl

no_cols : (a b : Bool) (word : ℕ) → b ≡ false → cond (a && b) (Some word) None ≡ None
no_cols true b word e = rw e refl
no_cols false b word e = refl

-- nothing is filled where a list is empty
pub no_row_filled : (m n word : ℕ) (rows cols : Indices) (i j : ℕ) → count_of m rows ≡ 0
    → filled m n rows cols word i j ≡ None
no_row_filled m n word rows cols i j none = no_rows (is_some (place_in m rows i)) (is_some (place_in n cols j)) word (none_has m i rows none)

pub no_col_filled : (m n word : ℕ) (rows cols : Indices) (i j : ℕ) → count_of n cols ≡ 0
    → filled m n rows cols word i j ≡ None
no_col_filled m n word rows cols i j none = no_cols (is_some (place_in m rows i)) (is_some (place_in n cols j)) word (none_has n j cols none)

-- nor in rows of which none is listed
pub none_filled : (m n word : ℕ) (rows cols : Indices) (first past i j : ℕ) (list : List ℕ) → length list ≡ 0
    → AreOnce first past (λ i. is_some (place_in m rows i)) list → first ≤ i → i < past
    → filled m n rows cols word i j ≡ None
none_filled m n word rows cols first past i j [] none once low high = no_rows (is_some (place_in m rows i)) (is_some (place_in n cols j)) word (sym (once.part.members i low high))
none_filled m n word rows cols first past i j (x ∷ xs) none once low high = absurd (omega arith)

-- no entries have no words
pub nothing : (es : List Entry) (i j : ℕ) → es ≡ [] → word_at es i j ≡ None
unfolding word_at
nothing es i j none = ap (λ es. word_at es i j) none

-- ---- one column

-- one fiber in lists that were empty
pub column_filled : (rows : List ℕ) (word : ℕ) (old new : FiberLists) → AllPairs (λ a b. a < b) rows
    → old.ends.items ≡ [] → old.inner.items ≡ [] → old.words.items ≡ []
    → HasRow 0 rows (replicate (length rows) word) old new → IsFilledColumn rows word new
column_filled rows word old new rises ends inner words put =
    let ws = replicate (length rows) word in
    let fiber = close_fiber [] [] [] 0 rows ws flat_none (All-nil (λ (r : FiberEnd). r.outer < 0)) (length-replicate (length rows) word) rises in
    let new_inner : new.inner.items ≡ rows = put.inner ∙ rw inner refl in
    let new_words : new.words.items ≡ ws = put.words ∙ rw words refl in
    let new_ends : new.ends.items ≡ closed [] 0 (length rows) = rw new_inner at (rw ends at put.ends) in
    record {
      flat = rw (new_ends, new_inner, new_words) fiber.flat;
      entries = rw (new_ends, new_inner, new_words) (fiber.entries ∙ ap (λ es. es ++ entries_along 0 rows ws) (no_entries 0 [] [] [] refl));
    }

pub column_inside : (first past word : ℕ) (rows : List ℕ) → All (λ x. (first ≤ x) × (x < past)) rows
    → AreIn first past 1 (transposed (entries_along 0 rows (replicate (length rows) word)))
column_inside first past word rows inside =
    All-map (λ (e : Entry). ((first ≤ e.row) × (e.row < past)) × (e.col < 1)) (λ (e : Entry). entry_at e.col e.row e.word) (entries_along 0 rows (replicate (length rows) word))
    (All-weaker (λ (e : Entry). (e.row ≡ 0) × ((first ≤ e.col) × (e.col < past))) (λ (e : Entry). ((first ≤ e.col) × (e.col < past)) × (e.row < 1)) (λ e p. let zero_is = p.0 in (p.1, omega arith)) (entries_along 0 rows (replicate (length rows) word))
    (all_cols (λ x. (first ≤ x) × (x < past)) 0 rows (replicate (length rows) word) inside))

one_column_has : (cols : List ℕ) → length cols ≡ 1 → All (λ x. x < 1) cols → has_index cols 0 ≡ true
one_column_has cols one below = let zero_is : get_or cols 0 0 ≡ 0 = let less = below 0 0 (omega arith) in omega arith in rw zero_is at (has_at cols 0 (omega arith))

pub column_words : (rows cols : List ℕ) (word i j : ℕ) → length cols ≡ 1 → All (λ x. x < 1) cols
    → word_at (transposed (entries_along 0 rows (replicate (length rows) word))) i j ≡ spread rows cols word i j
column_words rows cols word i j one below =
    let es = entries_along 0 rows (replicate (length rows) word) in
    word_at-transposed es i j ∙ elim (cases_eq j 0) [
      | inl first ↦ rw first (row_of_word 0 i word rows ∙ rw (one_column_has cols one below) (ap (λ b. cond b (Some word) None) (sym (and_true (has_index rows i)))))
      | inr other ↦
          none_there j i es (All-weaker (λ (e : Entry). e.row ≡ 0) (λ (e : Entry). j ≢ e.row) (λ e p q. other (q ∙ p)) es (all_rows 0 rows (replicate (length rows) word)))
          ∙ sym (no_cols (has_index rows i) (has_index cols j) word (has_none cols j (All-weaker (λ x. x < 1) (λ x. x ≢ j) (λ x less same. other (omega arith)) cols below)))
    ]
