-- A walk along the rows of B, beside a row of A without gaps.
use Rattle.std.proofs.Common.{◌≡◌, ℕ, zero, suc, ◌+◌, ◌-◌, ◌<◌, ◌≤◌, Bool, List, [], ◌++◌, append-nil, ◌≢◌, eqb, length, get_or, take, refl, sym, ◌∙◌, ap, subst, arith}
use Rattle.std.specs.List.{All}
use Rattle.std.proofs.lemmas.List.{take_all}
use Rattle.std.proofs.lemmas.List.Elements.{All-weaker, filter-append}
use Rattle.algebra.specs.declared.binary.BinaryOp.{BinaryOp}
use Rattle.algebra.specs.declared.semiring.Semiring.{Semiring}
use Rattle.model.specs.declared.entry.Entry.{Entry}
use Rattle.model.specs.Entries.{entries_between, row_entries}
use Rattle.store.specs.Fibers.{entries_along}
use Rattle.store.specs.Stored.{Stored, content_of, entries_in_row}
use Rattle.store.specs.Walks.{IsFirstRow}
use Rattle.store.proofs.FlatLaws.{all_rows}
use Rattle.store.proofs.Places.{length_row}
use Rattle.store.proofs.RowEntries.{entries_between-inside, entries_between-row}
use Rattle.terms.specs.declared.term.Term.{Term}
use Rattle.spgemm.specs.Dense.{AreMarkedSums}
use Rattle.terms.specs.Terms.{AreConsecutive, terms_of_row, times_row}
use Rattle.spgemm.proofs.Blocks.{first_row_has, in_row_all, in_row_none, others_have}
use Rattle.terms.proofs.Terms.{row_more}

-- the entries of the rows from low up to before past are left
pub record AreLeftFrom (b : Stored) (low past : ℕ) (rest : List Entry) : Type 0 where
  pub within : All (λ e. (low ≤ e.row) × (e.row < past)) rest
  pub rows : (i : ℕ) → low ≤ i → i < past → entries_in_row i rest ≡ row_entries b.cols (content_of b) i

-- rows have no entries
abbrev pub AreEmpty : Stored → ℕ → ℕ → Type 0
AreEmpty b low past = (i : ℕ) → low ≤ i → i < past → row_entries b.cols (content_of b) i ≡ []

pub left_all : (b : Stored) (first past : ℕ)
    → AreLeftFrom b first past (entries_between first past b.cols (content_of b))
left_all b first past = record {
  within = All-weaker (λ e. ((first ≤ e.row) × (e.row < past)) × (e.col < b.cols)) (λ e. (first ≤ e.row) × (e.row < past)) (λ e p. p.0) (entries_between first past b.cols (content_of b)) (entries_between-inside first past b.cols (content_of b));
  rows = λ i low high. entries_between-row first past b.cols (content_of b) i low high;
}

-- where nothing is left, the rows have no entries
pub left_none : (b : Stored) (low past : ℕ) (rest : List Entry) → AreLeftFrom b low past rest → rest ≡ []
    → AreEmpty b low past
left_none b low past rest here none i above below = sym (here.rows i above below) ∙ rw none refl

-- the first row that is left
pub record IsNextRow (b : Stored) (low past index : ℕ) (cols words : List ℕ) (others : List Entry) : Type 0 where
  pub above : low ≤ index
  pub below : index < past
  pub empty : AreEmpty b low index
  pub entries : entries_along index cols words ≡ row_entries b.cols (content_of b) index
  pub others_left : AreLeftFrom b (index + 1) past others

pub next_row : (b : Stored) (low past index : ℕ) (cols words : List ℕ) (rest others : List Entry)
    → AreLeftFrom b low past rest → IsFirstRow index cols words rest others
    → IsNextRow b low past index cols words others
next_row b low past index cols words rest others here starts =
    let row = entries_along index cols words in
    let range = first_row_has (λ i. (low ≤ i) × (i < past)) index cols words rest others starts here.within in
    let row_is = all_rows index cols words in
    let parts : (i : ℕ) → entries_in_row i rest ≡ entries_in_row i row ++ entries_in_row i others = λ i. ap (entries_in_row i) starts.whole ∙ filter-append (λ (e : Entry). eqb e.row i) row others in
    let behind : (i : ℕ) → i ≤ index → entries_in_row i others ≡ [] = λ i le. in_row_none i others (All-weaker (λ e. index < e.row) (λ e. e.row ≢ i) (λ e less same. absurd (omega arith)) others starts.behind) in
    let away : (i : ℕ) → i ≢ index → entries_in_row i row ≡ [] = λ i other. in_row_none i row (All-weaker (λ e. e.row ≡ index) (λ e. e.row ≢ i) (λ e p same. other (sym same ∙ p)) row row_is) in
    record {
      above = range.0;
      below = range.1;
      empty = λ i low_i less. sym (here.rows i low_i (omega (arith, range.1))) ∙ parts i ∙ rw (away i (λ same. absurd (omega arith)), behind i (omega arith)) refl;
      entries = sym (sym (here.rows index range.0 range.1) ∙ parts index ∙ rw (in_row_all index row row_is, behind index (omega arith)) (append-nil row));
      others_left = record {
        within =
            let upper = others_have (λ i. (low ≤ i) × (i < past)) index cols words rest others starts here.within in
            λ k d inside. (let more = starts.behind k d inside in omega arith, (upper k d inside).1);
        rows = λ i low_i less. sym (parts i ∙ rw (away i (λ same. absurd (omega arith))) refl) ∙ here.rows i (omega (arith, range.0)) less;
      };
    }

-- entries whose rows of B are empty give no terms
pub terms_gap : (op : BinaryOp) (b : Stored) (index : ℕ) (cols words : List ℕ) (p n : ℕ) → length words ≡ length cols
    → AreConsecutive cols → p + n ≤ length cols → AreEmpty b (get_or cols 0 0 + p) (get_or cols 0 0 + (p + n))
    → terms_of_row op (take (p + n) (entries_along index cols words)) b ≡ terms_of_row op (take p (entries_along index cols words)) b
terms_gap op b index cols words p zero same steps within empty = let none : p + 0 ≡ p = omega arith in rw none refl
terms_gap op b index cols words p (suc n) same steps within empty =
    let k = p + n in
    let here : get_or cols k 0 ≡ get_or cols 0 0 + k = steps k (omega arith) in
    let none : [] ≡ row_entries b.cols (content_of b) (get_or cols k 0) = sym (empty (get_or cols k 0) (omega arith) (omega arith)) in
    let more = row_more op b index cols words k [] [] same (omega arith) none in
    let next : p + suc n ≡ k + 1 = omega arith in
    rw next (more ∙ append-nil (terms_of_row op (take k (entries_along index cols words)) b) ∙ terms_gap op b index cols words p n same steps (omega arith) (λ i low high. empty i low (omega arith)))

-- a row of B more
pub walk_more : (op : BinaryOp) (b : Stored) (index : ℕ) (cols words : List ℕ) (p line : ℕ)
    (line_cols line_words : List ℕ) (others : List Entry) → length words ≡ length cols → AreConsecutive cols
    → p ≤ length cols
    → IsNextRow b (get_or cols 0 0 + p) (get_or cols 0 0 + length cols) line line_cols line_words others
    → terms_of_row op (take (line - get_or cols 0 0 + 1) (entries_along index cols words)) b
    ≡ terms_of_row op (take p (entries_along index cols words)) b ++ times_row op (get_or words (line - get_or cols 0 0) 0) (entries_along 0 line_cols line_words)
walk_more op b index cols words p line line_cols line_words others same steps le next =
    let first = get_or cols 0 0 in
    let k = line - first in
    let n = k - p in
    let inside : k < length cols = omega (arith, next.above, next.below) in
    let at : get_or cols k 0 ≡ line = omega (arith, steps k inside, next.above) in
    let parts : p + n ≡ k = omega (arith, next.above) in
    let gap = terms_gap op b index cols words p n same steps (omega arith) (λ i low high. next.empty i low (omega (arith, next.above))) in
    let more = row_more op b index cols words k line_cols line_words same inside (rw at next.entries) in
    more ∙ ap (λ ts. ts ++ times_row op (get_or words k 0) (entries_along 0 line_cols line_words)) (ap (λ q. terms_of_row op (take q (entries_along index cols words)) b) (sym parts) ∙ gap)

-- where no row of B is left, the terms are those of all entries
pub walk_all : (op : BinaryOp) (b : Stored) (index : ℕ) (cols words : List ℕ) (p : ℕ) (rest : List Entry)
    → length words ≡ length cols → AreConsecutive cols → p ≤ length cols
    → AreLeftFrom b (get_or cols 0 0 + p) (get_or cols 0 0 + length cols) rest → rest ≡ []
    → terms_of_row op (take p (entries_along index cols words)) b ≡ terms_of_row op (entries_along index cols words) b
walk_all op b index cols words p rest same steps le here none =
    let n = length cols - p in
    let whole : p + n ≡ length cols = omega arith in
    let long = length_row index cols words same in
    let gap = terms_gap op b index cols words p n same steps (omega arith) (λ i low high. left_none b _ _ rest here none i low (omega arith)) in
    let all : take (p + n) (entries_along index cols words) ≡ entries_along index cols words = take_all (p + n) (entries_along index cols words) (omega arith) in
    sym gap ∙ ap (λ row. terms_of_row op row b) all

-- the terms of the first entries are summed, and of B the rows behind them are left
pub record AreWalked (semiring : Semiring) (b : Stored) (index : ℕ) (cols words : List ℕ) (marks : List Bool) (sums : List ℕ) (rest : List Entry) : Type 0 where
  pub done : ℕ
  pub le : done ≤ length cols
  pub left : AreLeftFrom b (get_or cols 0 0 + done) (get_or cols 0 0 + length cols) rest
  pub sums_are : AreMarkedSums semiring.add (terms_of_row semiring.multiply (take done (entries_along index cols words)) b) marks sums

pub walked_none : (semiring : Semiring) (b : Stored) (index : ℕ) (cols words : List ℕ) (marks : List Bool)
    (sums : List ℕ) (rest : List Entry) → rest ≡ entries_between (get_or cols 0 0)
    (get_or cols 0 0 + length cols) b.cols (content_of b)
    → AreMarkedSums semiring.add [] marks sums → AreWalked semiring b index cols words marks sums rest
walked_none semiring b index cols words marks sums rest is here =
    let none : get_or cols 0 0 + 0 ≡ get_or cols 0 0 = omega arith in
    record { done = 0; le = omega arith; left = rw (none, is) (left_all b (get_or cols 0 0) (get_or cols 0 0 + length cols)); sums_are = here }

pub walked_next : (semiring : Semiring) (b : Stored) (index : ℕ) (cols words : List ℕ) (marks : List Bool)
    (sums : List ℕ) (rest : List Entry) (line : ℕ) (line_cols line_words : List ℕ) (others : List Entry)
    → AreWalked semiring b index cols words marks sums rest → IsFirstRow line line_cols line_words rest others
    → (get_or cols 0 0 ≤ line) × (line < get_or cols 0 0 + length cols) × (entries_along line line_cols line_words ≡ row_entries b.cols (content_of b) line)
walked_next semiring b index cols words marks sums rest line line_cols line_words others here starts =
    let next = next_row b (get_or cols 0 0 + here.done) (get_or cols 0 0 + length cols) line line_cols line_words rest others here.left starts in
    (omega (arith, next.above), next.below, next.entries)

pub walked_more : (semiring : Semiring) (b : Stored) (index : ℕ) (cols words : List ℕ) (marks : List Bool)
    (sums : List ℕ) (rest : List Entry) (line : ℕ) (line_cols line_words : List ℕ) (others : List Entry)
    (marks' : List Bool) (sums' : List ℕ) → length words ≡ length cols → AreConsecutive cols
    → AreWalked semiring b index cols words marks sums rest → IsFirstRow line line_cols line_words rest others
    → ((terms : List Term) → AreMarkedSums semiring.add terms marks sums → AreMarkedSums semiring.add (terms ++ times_row semiring.multiply (get_or words (line - get_or cols 0 0) 0) (entries_along 0 line_cols line_words)) marks' sums')
    → AreWalked semiring b index cols words marks' sums' others
walked_more semiring b index cols words marks sums rest line line_cols line_words others marks' sums' same steps here starts add =
    let first = get_or cols 0 0 in
    let next = next_row b (first + here.done) (first + length cols) line line_cols line_words rest others here.left starts in
    let more = walk_more semiring.multiply b index cols words here.done line line_cols line_words others same steps here.le next in
    let behind : line + 1 ≡ first + (line - first + 1) = omega (arith, next.above) in
    record {
      done = line - first + 1;
      le = omega (arith, next.above, next.below);
      left = subst (λ low. AreLeftFrom b low (first + length cols) others) behind next.others_left;
      sums_are = subst (λ ts. AreMarkedSums semiring.add ts marks' sums') (sym more) (add (terms_of_row semiring.multiply (take here.done (entries_along index cols words)) b) here.sums_are);
    }

pub walked_all : (semiring : Semiring) (b : Stored) (index : ℕ) (cols words : List ℕ) (marks : List Bool)
    (sums : List ℕ) (rest : List Entry) → length words ≡ length cols → AreConsecutive cols
    → AreWalked semiring b index cols words marks sums rest → rest ≡ []
    → AreMarkedSums semiring.add (terms_of_row semiring.multiply (entries_along index cols words) b) marks sums
walked_all semiring b index cols words marks sums rest same steps here none =
    subst (λ ts. AreMarkedSums semiring.add ts marks sums) (walk_all semiring.multiply b index cols words here.done rest same steps here.le here.left none) here.sums_are
