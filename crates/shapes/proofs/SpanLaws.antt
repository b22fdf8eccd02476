-- Entries put at lists of rows and columns, of those rows alone that lead into a range.
use Rattle.std.proofs.Common.{◌≡◌, ℕ, zero, suc, ◌+◌, ◌-◌, ◌<◌, ◌≤◌, Bool, true, false, cond, ltb, List, [], ◌∷◌, ◌++◌, length, map, get_or, take, drop, refl, sym, ◌∙◌, ap, inl, inr, arith, append_assoc, length-take, length-drop, get_or-take, get_or-drop}
use Rattle.std.specs.List.{All, count_by, filter_map, flat_map, list_all}
use Rattle.std.specs.List.Sorted.{IsPartitionPoint}
use Rattle.std.proofs.lemmas.Bool.{cases_Bool, cases_lt}
use Rattle.std.proofs.lemmas.Bool.Decides.{nat_tests}
use Rattle.std.proofs.lemmas.Grind.{flat_map-append}
use Rattle.std.proofs.lemmas.List.{append-nil, map-append}
use Rattle.std.proofs.lemmas.List.Elements.{All-head, All-tail, All-weaker, filter_map-append}
use Rattle.std.proofs.lemmas.List.Sorted.{sum_by-IsPermutation}
use Rattle.std.proofs.lemmas.List.Sums.{AllPass-from_list_all, count_by-le-length, get_or-le-sum_by, sum_by-cons, sum_by-le, sum_by-take-drop}
use Rattle.model.specs.declared.entry.Entry.{Entry}
use Rattle.model.specs.Entries.{count_from, entries_between, entry_at, row_entries}
use Rattle.model.specs.Indices.{All as Every, Indices, IsSortedFrom, These, count_of}
use Rattle.model.specs.Object.{Content}
use Rattle.store.specs.Fibers.{entries_along}
use Rattle.store.proofs.Order.{all_drop, all_take}
use Rattle.store.proofs.RowEntries.{entries_between-inside, row_entries-inside}
use Rattle.shapes.specs.Places.{LeadInto, is_in, moved_entry, nth_index, placed_entry}

-- ---- entries of some rows, and of those behind them

counted_apart : (first n m : ℕ) → count_from first (n + m) ≡ count_from first n ++ count_from (first + n) m
unfolding count_from
counted_apart first zero m = let none : 0 + m ≡ m = omega arith in let same : first + 0 ≡ first = omega arith in rw (none, same) refl
counted_apart first (suc n) m =
    let more : suc n + m ≡ suc (n + m) = omega arith in
    let at : first + 1 + n ≡ first + suc n = omega arith in
    rw more (ap (λ ks. first ∷ ks) (rw at at (counted_apart (first + 1) n m)))

pub between_apart : (first mid past cols : ℕ) (c : Content) → first ≤ mid → mid ≤ past
    → entries_between first past cols c ≡ entries_between first mid cols c ++ entries_between mid past cols c
unfolding entries_between
between_apart first mid past cols c low high =
    let n = mid - first in
    let whole : past - first ≡ n + (past - mid) = omega arith in
    let start : first + n ≡ mid = omega arith in
    let apart : count_from first (past - first) ≡ count_from first n ++ count_from mid (past - mid) = ap (count_from first) whole ∙ rw start at (counted_apart first n (past - mid)) in
    ap (flat_map (row_entries cols c)) apart ∙ flat_map-append (row_entries cols c) (count_from first n) (count_from mid (past - mid))

-- no rows have no entries
pub between_none : (first past cols : ℕ) (c : Content) → past ≤ first → entries_between first past cols c ≡ []
unfolding entries_between count_from
between_none first past cols c up = let none : past - first ≡ 0 = omega arith in rw none refl

between_one : (k cols : ℕ) (c : Content) → entries_between k (k + 1) cols c ≡ row_entries cols c k
unfolding entries_between count_from
between_one k cols c = let one : k + 1 - k ≡ 1 = omega arith in rw one (append-nil (row_entries cols c k))

between_next : (k cols : ℕ) (c : Content)
    → entries_between 0 (k + 1) cols c ≡ entries_between 0 k cols c ++ row_entries cols c k
between_next k cols c =
    between_apart 0 k (k + 1) cols c (omega arith) (omega arith) ∙ ap (λ es. entries_between 0 k cols c ++ es) (between_one k cols c)

-- ---- entries that are put, and those that are not

passed_all : (rows cols : Indices) (first past : ℕ) (es : List Entry)
    → All (λ e. is_in first past (nth_index rows e.row) ≡ false) es → filter_map (placed_entry rows cols first past) es ≡ []
passed_all rows cols first past [] out = refl
passed_all rows cols first past (e ∷ es) out =
    let P : Entry → Type 0 = λ e. is_in first past (nth_index rows e.row) ≡ false in
    rw (All-head P e es out) (passed_all rows cols first past es (All-tail P e es out))

moved_all : (rows cols : Indices) (first past : ℕ) (es : List Entry)
    → All (λ e. is_in first past (nth_index rows e.row) ≡ true) es
    → filter_map (placed_entry rows cols first past) es ≡ map (moved_entry rows cols) es
moved_all rows cols first past [] inside = refl
moved_all rows cols first past (e ∷ es) inside =
    let P : Entry → Type 0 = λ e. is_in first past (nth_index rows e.row) ≡ true in
    rw (All-head P e es inside) (ap (λ fs. moved_entry rows cols e ∷ fs) (moved_all rows cols first past es (All-tail P e es inside)))

-- the entries that are put are those of the rows that lead into the range
pub placed_between : (rows cols : Indices) (size first past low high a_cols : ℕ) (c : Content)
    → LeadInto rows size first past low high
    → filter_map (placed_entry rows cols first past) (entries_between 0 size a_cols c) ≡ map (moved_entry rows cols)
    (entries_between low high a_cols c)
placed_between rows cols size first past low high a_cols c leads =
    let f = placed_entry rows cols first past in
    let before = entries_between 0 low a_cols c in
    let here = entries_between low high a_cols c in
    let behind = entries_between high size a_cols c in
    let up = leads.up in
    let end = leads.end in
    let In : Bool → Entry → Type 0 = λ b e. is_in first past (nth_index rows e.row) ≡ b in
    let none_before = passed_all rows cols first past before (All-weaker (λ (e : Entry). ((0 ≤ e.row) × (e.row < low)) × (e.col < a_cols)) (In false) (λ e p. let less = p.0.1 in leads.lead e.row (omega arith) ∙ grind (arith, nat_tests)) before (entries_between-inside 0 low a_cols c)) in
    let none_behind = passed_all rows cols first past behind (All-weaker (λ (e : Entry). ((high ≤ e.row) × (e.row < size)) × (e.col < a_cols)) (In false) (λ e p. let from = p.0.0 in let less = p.0.1 in leads.lead e.row less ∙ grind (arith, nat_tests)) behind (entries_between-inside high size a_cols c)) in
    let all_here = moved_all rows cols first past here (All-weaker (λ (e : Entry). ((low ≤ e.row) × (e.row < high)) × (e.col < a_cols)) (In true) (λ e p. let from = p.0.0 in let less = p.0.1 in leads.lead e.row (omega arith) ∙ grind (arith, nat_tests)) here (entries_between-inside low high a_cols c)) in
    ap (filter_map f) (between_apart 0 low size a_cols c (omega arith) (omega arith) ∙ ap (λ es. before ++ es) (between_apart low high size a_cols c up end))
    ∙ filter_map-append f before (here ++ behind)
    ∙ ap (λ es. es ++ filter_map f (here ++ behind)) none_before
    ∙ filter_map-append f here behind
    ∙ ap (λ es. filter_map f here ++ es) none_behind
    ∙ append-nil (filter_map f here) ∙ all_here

-- ---- row by row

row_moved : (rows cols : Indices) (index : ℕ) (cs ws : List ℕ)
    → map (moved_entry rows cols) (entries_along index cs ws) ≡ entries_along (nth_index rows index)
    (map (nth_index cols) cs) ws
row_moved rows cols index [] ws = refl
row_moved rows cols index (c ∷ cs) [] = refl
row_moved rows cols index (c ∷ cs) (w ∷ ws) = ap (λ es. entry_at (nth_index rows index) (nth_index cols c) w ∷ es) (row_moved rows cols index cs ws)

-- one row more of a part
pub moved_more : (rows cols : Indices) (index : ℕ) (cs ws : List ℕ) (old rest others all : List Entry)
    → rest ≡ entries_along index cs ws ++ others
    → old ++ map (moved_entry rows cols) rest ≡ all
    → (old ++ entries_along (nth_index rows index) (map (nth_index cols) cs) ws) ++ map (moved_entry rows cols) others ≡ all
moved_more rows cols index cs ws old rest others all whole is =
    let f = moved_entry rows cols in
    let row = entries_along index cs ws in
    append_assoc old (entries_along (nth_index rows index) (map (nth_index cols) cs) ws) (map f others)
    ∙ ap (λ es. old ++ (es ++ map f others)) (sym (row_moved rows cols index cs ws))
    ∙ ap (λ es. old ++ es) (sym (map-append f row others))
    ∙ ap (λ es. old ++ map f es) (sym whole) ∙ is

-- no row as yet
pub listed_none : (rows cols : Indices) (first past a_cols : ℕ) (c : Content)
    → [] ≡ filter_map (placed_entry rows cols first past) (entries_between 0 0 a_cols c)
listed_none rows cols first past a_cols c = rw (between_none 0 0 a_cols c (omega arith)) refl

-- some rows more that lead into the range
pub listed_part : (rows cols : Indices) (first past a_cols low k : ℕ) (c : Content) (old : List Entry) → low ≤ k
    → ((p : ℕ) → low ≤ p → p < k → is_in first past (nth_index rows p) ≡ true)
    → old ≡ filter_map (placed_entry rows cols first past) (entries_between 0 low a_cols c)
    → old ++ map (moved_entry rows cols) (entries_between low k a_cols c) ≡ filter_map (placed_entry rows cols first past) (entries_between 0 k a_cols c)
listed_part rows cols first past a_cols low k c old up leads is =
    let f = placed_entry rows cols first past in
    let here = entries_between low k a_cols c in
    let all = moved_all rows cols first past here (All-weaker (λ (e : Entry). ((low ≤ e.row) × (e.row < k)) × (e.col < a_cols)) (λ (e : Entry). is_in first past (nth_index rows e.row) ≡ true) (λ e p. leads e.row p.0.0 p.0.1) here (entries_between-inside low k a_cols c)) in
    ap (λ es. old ++ es) (sym all)
    ∙ ap (λ es. es ++ filter_map f here) is
    ∙ sym (filter_map-append f (entries_between 0 low a_cols c) here)
    ∙ ap (filter_map f) (sym (between_apart 0 low k a_cols c (omega arith) up))

-- one row more that does not
pub listed_passed : (rows cols : Indices) (first past a_cols k : ℕ) (c : Content) (old : List Entry)
    → is_in first past (nth_index rows k) ≡ false
    → old ≡ filter_map (placed_entry rows cols first past) (entries_between 0 k a_cols c)
    → old ≡ filter_map (placed_entry rows cols first past) (entries_between 0 (k + 1) a_cols c)
listed_passed rows cols first past a_cols k c old outside is =
    let f = placed_entry rows cols first past in
    let none = passed_all rows cols first past (row_entries a_cols c k) (All-weaker (λ (e : Entry). (e.row ≡ k) × (e.col < a_cols)) (λ (e : Entry). is_in first past (nth_index rows e.row) ≡ false) (λ e p. rw p.0 outside) (row_entries a_cols c k) (row_entries-inside a_cols c k)) in
    is ∙ sym (append-nil (filter_map f (entries_between 0 k a_cols c)))
    ∙ ap (λ es. filter_map f (entries_between 0 k a_cols c) ++ es) (sym none)
    ∙ sym (filter_map-append f (entries_between 0 k a_cols c) (row_entries a_cols c k))
    ∙ ap (filter_map f) (sym (between_next k a_cols c))

-- ---- places of a list that lead into a range

-- how many indices are listed of a dimension is how many are listed of one of that size
pub count_itself : (size count : ℕ) (indices : Indices) → count ≡ count_of size indices → count ≡ count_of count indices
count_itself size count Every is = refl
count_itself size count (These items) is = is

pub end_of_every : (size count past : ℕ) (indices : Indices) → count ≡ count_of size indices → past ≤ size
    → indices ≡ Every → past ≤ count
end_of_every size count past indices is high every = let same : count ≡ size = rw every at is in omega arith

count_all : (p : ℕ → Bool) (xs : List ℕ) → All (λ x. p x ≡ true) xs → count_by p xs ≡ length xs
count_all p [] all = refl
count_all p (x ∷ xs) all =
    let P : ℕ → Type 0 = λ x. p x ≡ true in
    sum_by-cons (λ x. cond (p x) 1 0) x xs ∙ rw (All-head P x xs all) (omega (arith, count_all p xs (All-tail P x xs all)))

count_none : (p : ℕ → Bool) (xs : List ℕ) → All (λ x. p x ≡ false) xs → count_by p xs ≡ 0
count_none p xs none =
    let most = sum_by-le (λ x. cond (p x) 1 0) 0 xs (All-weaker (λ x. p x ≡ false) (λ x. cond (p x) 1 0 ≤ 0) (λ x out. rw out (omega arith)) xs none) in
    omega arith

none_counted : (p : ℕ → Bool) (xs : List ℕ) (k : ℕ) → count_by p xs ≡ 0 → k < length xs → p (get_or xs k 0) ≡ false
none_counted p xs k none within = elim (cases_Bool (p (get_or xs k 0))) [
  | inl here ↦ absurd (let least : cond (p (get_or xs k 0)) 1 0 ≤ count_by p xs = get_or-le-sum_by (λ x. cond (p x) 1 0) xs k 0 within in let one : 1 ≤ count_by p xs = rw here at least in omega arith)
  | inr out ↦ out
]

-- Where as many indices of a list lie in a range as of its indices in rising order, and all of these at the places
-- at which they lie there, the other places do not lead into the range.
pub leads_side_by_side : (items sorted : List ℕ) (first past low high : ℕ) → IsSortedFrom items sorted
    → low ≤ high → high ≤ length items
    → IsPartitionPoint (λ x. ltb x first ≡ true) (λ x. ltb x first ≡ false) sorted low
    → IsPartitionPoint (λ x. ltb x past ≡ true) (λ x. ltb x past ≡ false) (drop low sorted) (high - low)
    → list_all (is_in first past) (take (high - low) (drop low items)) ≡ true
    → LeadInto (These items) (length items) first past low high
leads_side_by_side items sorted first past low high from rises room start end all =
    let count = high - low in
    let p = is_in first past in
    let f : ℕ → ℕ = λ x. cond (p x) 1 0 in
    let above = drop low sorted in
    let mid = take count (drop low items) in
    let behind = drop count (drop low items) in
    let none_low = count_none p (take low sorted) (All-weaker (λ x. ltb x first ≡ true) (λ x. p x ≡ false) (λ x less. grind (arith, nat_tests)) (take low sorted) (all_take (λ x. ltb x first ≡ true) low sorted start.0)) in
    let none_high = count_none p (drop count above) (All-weaker (λ x. ltb x past ≡ false) (λ x. p x ≡ false) (λ x more. grind (arith, nat_tests)) (drop count above) (all_drop (λ x. ltb x past ≡ false) count above end.1)) in
    let most = count_by-le-length p (take count above) in
    let here = count_all p mid (AllPass-from_list_all p mid all) in
    let same : count_by p sorted ≡ count_by p items = sum_by-IsPermutation f items sorted from.same in
    let sorted_parts = sum_by-take-drop f sorted low in
    let above_parts = sum_by-take-drop f above count in
    let item_parts = sum_by-take-drop f items low in
    let rest_parts = sum_by-take-drop f (drop low items) count in
    let long : length mid ≡ count = omega (arith, length-take count (drop low items), length-drop low items) in
    let short : length (take count above) ≤ count = omega (arith, length-take count above) in
    let none_before : count_by p (take low items) ≡ 0 = omega arith in
    let none_behind : count_by p behind ≡ 0 = omega arith in
    record {
      up = rises;
      end = room;
      lead = λ k within. elim (cases_lt k low) [
        | inl before ↦
            let at : get_or (take low items) k 0 ≡ get_or items k 0 = get_or-take low items k 0 before in
            rw at at (none_counted p (take low items) k none_before (omega (arith, length-take low items))) ∙ grind (arith, nat_tests)
        | inr after ↦ elim (cases_lt k high) [
          | inl inside ↦
              let place : low + (k - low) ≡ k = omega arith in
              let at : get_or mid (k - low) 0 ≡ get_or items k 0 = get_or-take count (drop low items) (k - low) 0 (omega arith) ∙ get_or-drop low items (k - low) 0 ∙ ap (λ k. get_or items k 0) place in
              let passes : p (get_or mid (k - low) 0) ≡ true = AllPass-from_list_all p mid all (k - low) 0 (omega arith) in
              rw at at passes ∙ grind (arith, nat_tests)
          | inr beyond ↦
              let place : low + (count + (k - high)) ≡ k = omega arith in
              let at : get_or behind (k - high) 0 ≡ get_or items k 0 = get_or-drop count (drop low items) (k - high) 0 ∙ get_or-drop low items (count + (k - high)) 0 ∙ ap (λ k. get_or items k 0) place in
              rw at at (none_counted p behind (k - high) none_behind (omega (arith, length-drop count (drop low items), length-drop low items))) ∙ grind (arith, nat_tests)
        ]
      ];
    }
