-- The column of the sums of fibers.
use Rattle.std.proofs.Common.{◌≡◌, ℕ, suc, ◌-◌, ◌<◌, ◌≤◌, cond, eqb, true, false, List, [], ◌∷◌, ◌++◌, length, take, drop, map, Option, Some, None, refl, sym, ◌∙◌, ap, subst, inl, inr, arith}
use Rattle.std.specs.List.{All, AllPairs, cons_option, filter}
use Rattle.std.specs.Option.{option_map}
use Rattle.std.proofs.lemmas.Bool.{cases_eq, eq-eqb, ne_eqb}
use Rattle.std.proofs.lemmas.Bool.Decides.{nat_tests}
use Rattle.std.proofs.lemmas.List.{append-nil, length-map}
use Rattle.std.proofs.lemmas.List.Elements.{All-nil, All-cons, All-head, All-map, All-tail, All-weaker, filter-append}
use Rattle.algebra.specs.declared.domain.Domain.{Domain}
use Rattle.algebra.specs.declared.kinds.MonoidKind.{MonoidKind}
use Rattle.algebra.specs.declared.monoid.Monoid.{Monoid}
use Rattle.lanes.specs.Lists.{fold_of}
use Rattle.model.specs.declared.entry.Entry.{Entry}
use Rattle.algebra.specs.Monoids.{identity_of}
use Rattle.algebra.specs.Operators.{combines_by, eval_of}
use Rattle.model.specs.Entries.{IsInside, count_from, entries_between, entry_at, word_at}
use Rattle.model.specs.Object.{Content}
use Rattle.model.specs.Reductions.{row_words}
use Rattle.store.specs.declared.lists.FiberEnd.{FiberEnd}
use Rattle.store.specs.Fibers.{AreFlat, entries_along, entries_from, outers}
use Rattle.store.specs.Stored.{AreIn, transposed}
use Rattle.store.specs.Walks.{entries_down}
use Rattle.store.proofs.CloseLaws.{close_fiber, closed}
use Rattle.store.proofs.Content.{nothing_outside}
use Rattle.store.proofs.Contents.{transposed_along}
use Rattle.store.proofs.FlatLaws.{all_rows, flat_none}
use Rattle.store.proofs.Order.{all_append_left, all_append_right, all_pairs_map}
use Rattle.store.proofs.Positions.{filter_none, filter_whole}
use Rattle.model.proofs.EntryLaws.{row_words-entries}
use Rattle.store.proofs.RowEntries.{entries_between-row}
use Rattle.elementwise.proofs.Filled.{AreFilled, is_first}
use Rattle.elementwise.specs.Sums.{folded, row_sum, sums_of}

pub length_sums : (kind : MonoidKind) (d : Domain) (from : ℕ) (ends : List FiberEnd) (words : List ℕ)
    → length (sums_of kind d from ends words) ≡ length ends
unfolding sums_of
length_sums kind d from [] words = refl
length_sums kind d from (r ∷ rs) words = ap suc (length_sums kind d r.end rs (drop (r.end - from) words))

words_of_row : (outer : ℕ) (cs ws : List ℕ) → length ws ≡ length cs
    → map (λ (e : Entry). e.word) (entries_along outer cs ws) ≡ ws
words_of_row outer [] [] same = refl
words_of_row outer [] (w ∷ ws) same = absurd (omega arith)
words_of_row outer (c ∷ cs) [] same = absurd (omega arith)
words_of_row outer (c ∷ cs) (w ∷ ws) same = ap (λ xs. w ∷ xs) (words_of_row outer cs ws (omega arith))

folded_some : (monoid : Monoid) (ws : List ℕ) → 0 < length ws
    → folded monoid ws ≡ Some (fold_of monoid.kind monoid.op.domain ws)
folded_some monoid [] some = absurd (omega arith)
folded_some monoid (w ∷ ws) some = refl

-- of entries of which the first are a row
row_here : (monoid : Monoid) (i : ℕ) (cs ws : List ℕ) (rest : List Entry) → length ws ≡ length cs → 0 < length ws
    → All (λ e. i < e.row) rest
    → row_sum monoid i (entries_along i cs ws ++ rest) ≡ Some (fold_of monoid.kind monoid.op.domain ws)
row_here monoid i cs ws rest same some behind =
    let here = entries_along i cs ws in
    let is_row = λ (e : Entry). eqb e.row i in
    let whole : filter is_row here ≡ here = filter_whole is_row here (All-weaker (λ e. e.row ≡ i) (λ e. is_row e ≡ true) (λ e p. eq-eqb e.row i p) here (all_rows i cs ws)) in
    let none : filter is_row rest ≡ [] = filter_none is_row rest (All-weaker (λ e. i < e.row) (λ e. is_row e ≡ false) (λ e p. ne_eqb e.row i (λ at. absurd (omega arith))) rest behind) in
    ap (λ es. folded monoid (map (λ (e : Entry). e.word) es)) (filter-append is_row here rest ∙ rw (whole, none) (append-nil here))
    ∙ ap (folded monoid) (words_of_row i cs ws same) ∙ folded_some monoid ws some

row_there : (monoid : Monoid) (i outer : ℕ) (cs ws : List ℕ) (rest : List Entry) → (outer ≡ i → ⊥)
    → row_sum monoid i (entries_along outer cs ws ++ rest) ≡ row_sum monoid i rest
row_there monoid i outer cs ws rest away =
    let here = entries_along outer cs ws in
    let is_row = λ (e : Entry). eqb e.row i in
    let none : filter is_row here ≡ [] = filter_none is_row here (All-weaker (λ e. e.row ≡ outer) (λ e. is_row e ≡ false) (λ e p. ne_eqb e.row i (λ at. away (sym p ∙ at))) here (all_rows outer cs ws)) in
    ap (λ es. folded monoid (map (λ (e : Entry). e.word) es)) (filter-append is_row here rest ∙ rw none refl)

-- the column of the sums is the map of the sums of the rows
pub sums_at : (monoid : Monoid) (from : ℕ) (ends : List FiberEnd) (inner words : List ℕ) (i j : ℕ)
    → AreFilled from ends inner words
    → word_at (entries_down (map (λ (r : FiberEnd). r.outer) ends) (sums_of monoid.kind monoid.op.domain from ends words)) i j ≡ cond (eqb j 0) (row_sum monoid i (entries_from from ends inner words)) None
unfolding sums_of word_at outers
sums_at monoid from [] inner words i j h =
    let nothing : Option ℕ = None in
    elim (eqb j 0) as (λ b. nothing ≡ cond b nothing nothing) [ true ↦ refl | false ↦ refl ]
sums_at monoid from (r ∷ rs) inner words i j h =
    let n = r.end - from in
    let f = is_first from r rs inner words h in
    let es = entries_from r.end rs (drop n inner) (drop n words) in
    let sum = fold_of monoid.kind monoid.op.domain (take n words) in
    let later = sums_at monoid r.end rs (drop n inner) (drop n words) i j f.rest in
    elim (cases_eq i r.outer) [
      | inl here ↦
          let row : row_sum monoid i (entries_from from (r ∷ rs) inner words) ≡ Some sum =
          ap (row_sum monoid i) f.parts ∙ ap (λ o. row_sum monoid i (entries_along o (take n inner) (take n words) ++ es)) (sym here)
          ∙ row_here monoid i (take n inner) (take n words) es f.lengths f.some (subst (λ o. All (λ e. o < e.row) es) (sym here) f.behind) in
          elim (cases_eq j 0) [
            | inl first ↦ rw (row, eq-eqb i r.outer here, eq-eqb j 0 first) refl
            | inr other ↦ rw (eq-eqb i r.outer here, ne_eqb j 0 other) (rw (ne_eqb j 0 other) at later)
          ]
      | inr away ↦
          let row : row_sum monoid i (entries_from from (r ∷ rs) inner words) ≡ row_sum monoid i es = ap (row_sum monoid i) f.parts ∙ row_there monoid i r.outer (take n inner) (take n words) es (λ same. away (sym same)) in
          rw (row, ne_eqb i r.outer away) later
    ]

first_holds : (P : ℕ → Type 0) (outer : ℕ) (cs ws : List ℕ) → length ws ≡ length cs → 0 < length ws
    → All (λ e. P e.row) (entries_along outer cs ws) → P outer
first_holds P outer [] [] same some all = absurd (omega arith)
first_holds P outer [] (w ∷ ws) same some all = absurd (omega arith)
first_holds P outer (c ∷ cs) [] same some all = absurd (omega arith)
first_holds P outer (c ∷ cs) (w ∷ ws) same some all = All-head (λ e. P e.row) (entry_at outer c w) (entries_along outer cs ws) all

-- what holds of the rows of the entries holds of the outer indices
pub outers_hold : (P : ℕ → Type 0) (from : ℕ) (ends : List FiberEnd) (inner words : List ℕ)
    → AreFilled from ends inner words → All (λ e. P e.row) (entries_from from ends inner words)
    → All (λ r. P r.outer) ends
outers_hold P from [] inner words h all = All-nil (λ (r : FiberEnd). P r.outer)
outers_hold P from (r ∷ rs) inner words h all =
    let n = r.end - from in
    let f = is_first from r rs inner words h in
    let here = entries_along r.outer (take n inner) (take n words) in
    let es = entries_from r.end rs (drop n inner) (drop n words) in
    let split : All (λ e. P e.row) (here ++ es) = subst (All (λ e. P e.row)) f.parts all in
    All-cons (λ (r : FiberEnd). P r.outer) r rs (first_holds P r.outer (take n inner) (take n words) f.lengths f.some (all_append_left (λ e. P e.row) here es split))
    (outers_hold P r.end rs (drop n inner) (drop n words) f.rest (all_append_right (λ e. P e.row) here es split))

-- ---- the column

down_in : (first past : ℕ) (rows sums : List ℕ) → All (λ o. (first ≤ o) × (o < past)) rows
    → AreIn first past 1 (entries_down rows sums)
down_in first past [] sums h = All-nil (λ (e : Entry). ((first ≤ e.row) × (e.row < past)) × (e.col < 1))
down_in first past (r ∷ rows) [] h = All-nil (λ (e : Entry). ((first ≤ e.row) × (e.row < past)) × (e.col < 1))
down_in first past (r ∷ rows) (w ∷ sums) h =
    All-cons (λ (e : Entry). ((first ≤ e.row) × (e.row < past)) × (e.col < 1)) (entry_at r 0 w) (entries_down rows sums) (All-head (λ o. (first ≤ o) × (o < past)) r rows h, omega arith)
    (down_in first past rows sums (All-tail (λ o. (first ≤ o) × (o < past)) r rows h))

-- lists are the column of the sums of rows with these entries
pub record IsSumColumn (monoid : Monoid) (es : List Entry) (ends : List FiberEnd) (rows sums : List ℕ) : Type 0 where
  pub flat : AreFlat ends rows sums
  pub inside : (first past : ℕ) → All (λ e. (first ≤ e.row) × (e.row < past)) es
      → AreIn first past 1 (transposed (entries_from 0 ends rows sums))
  pub words : (i j : ℕ) → word_at (transposed (entries_from 0 ends rows sums)) i j ≡ cond (eqb j 0)
      (row_sum monoid i es) None

pub sum_column : (monoid : Monoid) (from : ℕ) (ends : List FiberEnd) (inner words : List ℕ) (made : List FiberEnd)
    (rows sums : List ℕ) → AreFilled from ends inner words
    → rows ≡ map (λ (r : FiberEnd). r.outer) ends → sums ≡ sums_of monoid.kind monoid.op.domain from ends words
    → made ≡ closed [] 0 (length rows)
    → IsSumColumn monoid (entries_from from ends inner words) made rows sums
unfolding outers
sum_column monoid from ends inner words made rows sums h rows_are sums_are made_is =
    let outer_rows = map (λ (r : FiberEnd). r.outer) ends in
    let long : length sums ≡ length rows = rw (rows_are, sums_are) (length_sums monoid.kind monoid.op.domain from ends words ∙ sym (length-map ends (λ (r : FiberEnd). r.outer))) in
    let rising : AllPairs (λ a b. a < b) rows = rw rows_are (all_pairs_map (λ a b. a < b) (λ (r : FiberEnd). r.outer) ends h.apart) in
    let one = close_fiber [] [] [] 0 rows sums flat_none (All-nil (λ (r : FiberEnd). r.outer < 0)) long rising in
    let down : transposed (entries_from 0 made rows sums) ≡ entries_down rows sums = ap (λ es. transposed (entries_from 0 es rows sums)) made_is ∙ ap transposed one.entries ∙ transposed_along rows sums in
    record {
      flat = rw made_is one.flat;
      inside = λ first past all. rw down (down_in first past rows sums (rw rows_are (All-map (λ o. (first ≤ o) × (o < past)) (λ (r : FiberEnd). r.outer) ends (outers_hold (λ o. (first ≤ o) × (o < past)) from ends inner words h all))));
      words = λ i j. rw down (ap (λ rs. word_at (entries_down rs sums) i j) rows_are ∙ ap (λ ss. word_at (entries_down outer_rows ss) i j) sums_are ∙ sums_at monoid from ends inner words i j h);
    }

-- the sum of a row among the entries of some rows is that of the map's
pub row_sum_is : (monoid : Monoid) (first past cols : ℕ) (c : Content) (i : ℕ) (es : List Entry)
    → es ≡ entries_between first past cols c → first ≤ i → i < past
    → row_sum monoid i es ≡ folded monoid (row_words cols c i)
row_sum_is monoid first past cols c i es is low high =
    ap (row_sum monoid i) is ∙ ap (λ row. folded monoid (map (λ (e : Entry). e.word) row)) (entries_between-row first past cols c i low high) ∙ ap (folded monoid) (sym (row_words-entries cols c i))

one_word : (monoid : Monoid) (o : Option ℕ)
    → option_map (eval_of (combines_by monoid.kind) monoid.op.domain (identity_of monoid.kind monoid.op.domain)) o ≡ folded monoid (cons_option o [])
one_word monoid None = refl
one_word monoid (Some w) = refl

-- the sum of a row of one column is that of its one word
pub column_sum_is : (monoid : Monoid) (rows : ℕ) (c : Content) (i j : ℕ) (es : List Entry)
    → IsInside rows 1 (transposed es) → ((k : ℕ) → word_at (transposed es) i k ≡ c i k)
    → option_map (eval_of (combines_by monoid.kind) monoid.op.domain (identity_of monoid.kind monoid.op.domain))
    (word_at (transposed es) i j) ≡ cond (eqb j 0) (folded monoid (row_words 1 c i)) None
unfolding count_from
column_sum_is monoid rows c i j es inside words =
    let f = eval_of (combines_by monoid.kind) monoid.op.domain (identity_of monoid.kind monoid.op.domain) in
    elim (cases_eq j 0) [
      | inl first ↦ rw (eq-eqb j 0 first) (ap (λ k. option_map f (word_at (transposed es) i k)) first ∙ ap (option_map f) (words 0) ∙ one_word monoid (c i 0))
      | inr other ↦ rw (ne_eqb j 0 other) (ap (option_map f) (nothing_outside rows 1 (transposed es) i j inside (grind (arith, nat_tests))))
    ]
