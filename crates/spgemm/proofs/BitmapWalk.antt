-- A walk along some rows of B, beside a vector that is asked at each of them.
use Rattle.std.proofs.Common.{◌≡◌, ℕ, zero, suc, ◌+◌, ◌-◌, ◌<◌, ◌≤◌, List, [], ◌∷◌, ◌++◌, Option, None, Some, append-nil, refl, sym, ◌∙◌, ap, subst, arith}
use Rattle.std.specs.List.{cons_option, filter_map}
use Rattle.std.specs.Option.{option_map}
use Rattle.std.proofs.lemmas.Grind.{flat_map-append}
use Rattle.std.proofs.lemmas.List.Elements.{filter_map-append}
use Rattle.algebra.specs.declared.binary.BinaryOp.{BinaryOp}
use Rattle.bitmap.specs.Bitmaps.{row_part}
use Rattle.model.specs.declared.entry.Entry.{Entry}
use Rattle.model.specs.Entries.{count_from, entries_between, entry_at, row_entries}
use Rattle.model.specs.Object.{Content}
use Rattle.store.specs.Fibers.{entries_along}
use Rattle.store.specs.Stored.{Stored, content_of}
use Rattle.store.specs.Walks.{IsFirstRow}
use Rattle.terms.specs.declared.term.Term.{Term}
use Rattle.terms.specs.Terms.{terms_of_row, times_found, times_row}
use Rattle.terms.proofs.Terms.{times_any}
use Rattle.spgemm.proofs.WalkLaws.{AreEmpty, AreLeftFrom, left_all, left_none, next_row}

-- ---- the terms of the first columns of a row

times_none : (op : BinaryOp) (o : Option ℕ) → times_found op o [] ≡ []
times_none op None = refl
times_none op (Some word) = refl

found_any : (op : BinaryOp) (o : Option ℕ) (i : ℕ) (cols words : List ℕ)
    → times_found op o (entries_along i cols words) ≡ times_found op o (entries_along 0 cols words)
found_any op None i cols words = refl
found_any op (Some word) i cols words = times_any op word i cols words

found_terms : (op : BinaryOp) (o : Option ℕ) (k : ℕ) (b : Stored)
    → terms_of_row op (cons_option (option_map (entry_at 0 k) o) []) b ≡ times_found op o (row_entries b.cols (content_of b) k)
found_terms op None k b = refl
found_terms op (Some word) k b = append-nil (times_row op word (row_entries b.cols (content_of b) k))

-- ---- columns side by side

counted_append : (first m n : ℕ) → count_from first (m + n) ≡ count_from first m ++ count_from (first + m) n
unfolding count_from
counted_append first zero n = let same : first + 0 ≡ first = omega arith in let all : 0 + n ≡ n = omega arith in rw (same, all) refl
counted_append first (suc m) n =
    let all : suc m + n ≡ suc (m + n) = omega arith in
    let next : first + suc m ≡ first + 1 + m = omega arith in
    rw (all, next) (ap (λ xs. first ∷ xs) (counted_append (first + 1) m n))

part_append : (c : Content) (i first m n : ℕ) → row_part c i first (m + n) ≡ row_part c i first m ++ row_part c i (first + m) n
part_append c i first m n =
    let f = λ (k : ℕ). option_map (entry_at i k) (c i k) in
    ap (filter_map f) (counted_append first m n) ∙ filter_map-append f (count_from first m) (count_from (first + m) n)

part_one : (c : Content) (i at : ℕ) → row_part c i at 1 ≡ cons_option (option_map (entry_at i at) (c i at)) []
unfolding count_from
part_one c i at = refl

-- the terms of columns are those of the first ones and of those behind them
pub terms_append : (op : BinaryOp) (c : Content) (b : Stored) (first m n : ℕ)
    → terms_of_row op (row_part c 0 first (m + n)) b ≡ terms_of_row op (row_part c 0 first m) b ++ terms_of_row op (row_part c 0 (first + m) n) b
terms_append op c b first m n =
    ap (λ row. terms_of_row op row b) (part_append c 0 first m n)
    ∙ flat_map-append (λ (e : Entry). times_row op e.word (row_entries b.cols (content_of b) e.col)) (row_part c 0 first m) (row_part c 0 (first + m) n)

-- a column more
column_more : (op : BinaryOp) (c : Content) (b : Stored) (first n : ℕ)
    → terms_of_row op (row_part c 0 first (n + 1)) b ≡ terms_of_row op (row_part c 0 first n) b ++ times_found op (c 0 (first + n)) (row_entries b.cols (content_of b) (first + n))
column_more op c b first n =
    terms_append op c b first n 1
    ∙ ap (λ row. terms_of_row op (row_part c 0 first n) b ++ terms_of_row op row b) (part_one c 0 (first + n))
    ∙ ap (λ ts. terms_of_row op (row_part c 0 first n) b ++ ts) (found_terms op (c 0 (first + n)) (first + n) b)

-- columns whose rows of B are empty give no terms
columns_gap : (op : BinaryOp) (c : Content) (b : Stored) (first p n : ℕ) → AreEmpty b (first + p) (first + (p + n))
    → terms_of_row op (row_part c 0 first (p + n)) b ≡ terms_of_row op (row_part c 0 first p) b
columns_gap op c b first p zero empty = let none : p + 0 ≡ p = omega arith in rw none refl
columns_gap op c b first p (suc n) empty =
    let k = p + n in
    let next : p + suc n ≡ k + 1 = omega arith in
    let here : times_found op (c 0 (first + k)) (row_entries b.cols (content_of b) (first + k)) ≡ [] = ap (times_found op (c 0 (first + k))) (empty (first + k) (omega arith) (omega arith)) ∙ times_none op (c 0 (first + k)) in
    rw next (column_more op c b first k ∙ ap (λ ts. terms_of_row op (row_part c 0 first k) b ++ ts) here ∙ append-nil (terms_of_row op (row_part c 0 first k) b)
    ∙ columns_gap op c b first p n (λ i low high. empty i low (omega arith)))

-- so the columns up to one behind them have the terms of those before
columns_past : (op : BinaryOp) (c : Content) (b : Stored) (first low past : ℕ) → low ≤ past
    → AreEmpty b (first + low) (first + past)
    → terms_of_row op (row_part c 0 first past) b ≡ terms_of_row op (row_part c 0 first low) b
columns_past op c b first low past le empty =
    let n = past - low in
    let whole : low + n ≡ past = omega arith in
    ap (λ k. terms_of_row op (row_part c 0 first k) b) (sym whole) ∙ columns_gap op c b first low n (λ i above below. empty i above (omega arith))

-- no columns have none
pub no_columns : (op : BinaryOp) (c : Content) (b : Stored) (first : ℕ)
    → terms_of_row op (row_part c 0 first (first - first)) b ≡ []
unfolding count_from
no_columns op c b first = let none : first - first ≡ 0 = omega arith in rw none refl

-- columns at which the row has nothing give no terms
pub vector_gap : (op : BinaryOp) (c : Content) (b : Stored) (first p n : ℕ)
    → ((k : ℕ) → first + p ≤ k → k < first + (p + n) → c 0 k ≡ None)
    → terms_of_row op (row_part c 0 first (p + n)) b ≡ terms_of_row op (row_part c 0 first p) b
vector_gap op c b first p zero empty = let none : p + 0 ≡ p = omega arith in rw none refl
vector_gap op c b first p (suc n) empty =
    let k = p + n in
    let next : p + suc n ≡ k + 1 = omega arith in
    let here : c 0 (first + k) ≡ None = empty (first + k) (omega arith) (omega arith) in
    rw next (column_more op c b first k ∙ ap (λ o. terms_of_row op (row_part c 0 first k) b ++ times_found op o (row_entries b.cols (content_of b) (first + k))) here
    ∙ append-nil (terms_of_row op (row_part c 0 first k) b)
    ∙ vector_gap op c b first p n (λ i low high. empty i low (omega arith)))

-- ..so those up to one behind them have the terms of those before, and its own
pub vector_more : (op : BinaryOp) (c : Content) (b : Stored) (start from row : ℕ) (cols words : List ℕ) → start ≤ from
    → from ≤ row → ((k : ℕ) → from ≤ k → k < row → c 0 k ≡ None)
    → entries_along row cols words ≡ row_entries b.cols (content_of b) row
    → terms_of_row op (row_part c 0 start (row + 1 - start)) b
    ≡ terms_of_row op (row_part c 0 start (from - start)) b ++ times_found op (c 0 row) (entries_along 0 cols words)
vector_more op c b start from row cols words le low empty line =
    let p = from - start in
    let n = row - from in
    let all : row + 1 - start ≡ p + n + 1 = omega arith in
    let at : start + (p + n) ≡ row = omega arith in
    ap (λ k. terms_of_row op (row_part c 0 start k) b) all ∙ column_more op c b start (p + n)
    ∙ ap (λ ts. ts ++ times_found op (c 0 (start + (p + n))) (row_entries b.cols (content_of b) (start + (p + n))))
    (vector_gap op c b start p n (λ k above below. empty k (omega arith) (omega arith)))
    ∙ ap (λ k. terms_of_row op (row_part c 0 start p) b ++ times_found op (c 0 k) (row_entries b.cols (content_of b) k)) at
    ∙ ap (λ es. terms_of_row op (row_part c 0 start p) b ++ times_found op (c 0 row) es) (sym line)
    ∙ ap (λ ts. terms_of_row op (row_part c 0 start p) b ++ ts) (found_any op (c 0 row) row cols words)

-- ..and those up to the end, where nothing is left
pub vector_all : (op : BinaryOp) (c : Content) (b : Stored) (start from past : ℕ) → start ≤ from → from ≤ past
    → ((k : ℕ) → from ≤ k → k < past → c 0 k ≡ None)
    → terms_of_row op (row_part c 0 start (past - start)) b ≡ terms_of_row op (row_part c 0 start (from - start)) b
vector_all op c b start from past le low empty =
    let p = from - start in
    let n = past - from in
    let all : past - start ≡ p + n = omega arith in
    ap (λ k. terms_of_row op (row_part c 0 start k) b) all ∙ vector_gap op c b start p n (λ k above below. empty k (omega arith) (omega arith))

-- ---- the walk

-- of so many columns from first on the terms of some are summed, and of B the rows behind them are left
pub record IsWalkedAcross (op : BinaryOp) (c : Content) (b : Stored) (first past : ℕ) (AreSums : List Term → Type 0)
    (rest : List Entry) : Type 0 where
  pub done : ℕ
  pub le : first + done ≤ past
  pub left : AreLeftFrom b (first + done) past rest
  pub sums_are : AreSums (terms_of_row op (row_part c 0 first done) b)

pub across_none : (op : BinaryOp) (c : Content) (b : Stored) (first past : ℕ) (AreSums : List Term → Type 0)
    (rest : List Entry) → first ≤ past → rest ≡ entries_between first past b.cols (content_of b) → AreSums []
    → IsWalkedAcross op c b first past AreSums rest
unfolding count_from
across_none op c b first past AreSums rest order is here =
    let from : first + 0 ≡ first = omega arith in
    record { done = 0; le = omega arith; left = rw (is, from) (left_all b first past); sums_are = here }

pub across_next : (op : BinaryOp) (c : Content) (b : Stored) (first past : ℕ) (AreSums : List Term → Type 0)
    (rest : List Entry) (line : ℕ) (line_cols line_words : List ℕ) (others : List Entry)
    → IsWalkedAcross op c b first past AreSums rest → IsFirstRow line line_cols line_words rest others
    → entries_along line line_cols line_words ≡ row_entries b.cols (content_of b) line
across_next op c b first past AreSums rest line line_cols line_words others here starts =
    let next = next_row b (first + here.done) past line line_cols line_words rest others here.left starts in next.entries

pub across_more : (op : BinaryOp) (c : Content) (b : Stored) (first past : ℕ) (AreSums AreSums' : List Term → Type 0)
    (rest : List Entry) (line : ℕ) (line_cols line_words : List ℕ) (others : List Entry)
    → IsWalkedAcross op c b first past AreSums rest → IsFirstRow line line_cols line_words rest others
    → ((terms : List Term) → AreSums terms → AreSums' (terms ++ times_found op (c 0 line) (entries_along 0 line_cols line_words)))
    → IsWalkedAcross op c b first past AreSums' others
across_more op c b first past AreSums AreSums' rest line line_cols line_words others here starts add =
    let next = next_row b (first + here.done) past line line_cols line_words rest others here.left starts in
    let count = line - first in
    let at : first + count ≡ line = omega (arith, next.above) in
    let behind : first + (count + 1) ≡ line + 1 = omega (arith, at) in
    let before = columns_past op c b first here.done count (omega (arith, next.above)) (rw at next.empty) in
    let row : times_found op (c 0 line) (row_entries b.cols (content_of b) line) ≡ times_found op (c 0 line) (entries_along 0 line_cols line_words) =
    ap (times_found op (c 0 line)) (sym next.entries) ∙ found_any op (c 0 line) line line_cols line_words in
    let sofar = terms_of_row op (row_part c 0 first here.done) b in
    let more : terms_of_row op (row_part c 0 first (count + 1)) b ≡ sofar ++ times_found op (c 0 line) (entries_along 0 line_cols line_words) =
    column_more op c b first count
    ∙ ap (λ k. terms_of_row op (row_part c 0 first count) b ++ times_found op (c 0 k) (row_entries b.cols (content_of b) k)) at
    ∙ ap (λ ts. ts ++ times_found op (c 0 line) (row_entries b.cols (content_of b) line)) before
    ∙ ap (λ ts. sofar ++ ts) row in
    record {
      done = count + 1;
      le = omega (arith, next.below, at);
      left = rw behind next.others_left;
      sums_are = subst AreSums' (sym more) (add sofar here.sums_are);
    }

pub across_all : (op : BinaryOp) (c : Content) (b : Stored) (first past : ℕ) (AreSums : List Term → Type 0)
    (rest : List Entry) → IsWalkedAcross op c b first past AreSums rest → rest ≡ []
    → AreSums (terms_of_row op (row_part c 0 first (past - first)) b)
across_all op c b first past AreSums rest here none =
    let all : first + (past - first) ≡ past = omega (arith, here.le) in
    subst AreSums
    (sym (columns_past op c b first here.done (past - first) (omega (arith, here.le)) (rw all (left_none b (first + here.done) past rest here.left none)))) here.sums_are
