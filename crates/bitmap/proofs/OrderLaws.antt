-- The entries of a map stand in row-major order, inside the shape.
use Rattle.std.proofs.Common.{◌≡◌, ℕ, zero, suc, ◌+◌, ◌<◌, ◌≤◌, List, [], ◌∷◌, ◌++◌, Some, None, refl, inl, inr, arith}
use Rattle.std.specs.Option.{option_map}
use Rattle.std.specs.List.{All, AllPairs, cons_option, flat_map}
use Rattle.std.proofs.lemmas.List.Elements.{All-append, All-cons, All-head, All-nil, All-tail, All-weaker}
use Rattle.bitmap.specs.Bitmaps.{row_part}
use Rattle.model.specs.declared.entry.Entry.{Entry}
use Rattle.model.specs.Entries.{InOrder, IsInside, Precedes, count_from, entries_of, entry_at, row_entries}
use Rattle.model.specs.Object.{Content}
use Rattle.model.proofs.TupleLaws.{pairs_cons, pairs_head, pairs_tail}

pairs_nil : {X : Type 0} (R : X → X → Type 0) → AllPairs R []
pairs_nil R i j d below within = absurd (omega arith)

pairs_append : {X : Type 0} (R : X → X → Type 0) (xs ys : List X) → AllPairs R xs → AllPairs R ys
    → All (λ x. All (R x) ys) xs → AllPairs R (xs ++ ys)
pairs_append R [] ys h t across = t
pairs_append R (x ∷ xs) ys h t across =
    pairs_cons R x (xs ++ ys)
    (All-append (R x) xs ys (pairs_head R x xs h) (All-head (λ y. All (R y) ys) x xs across))
    (pairs_append R xs ys (pairs_tail R x xs h) t (All-tail (λ y. All (R y) ys) x xs across))

-- ---- some columns of a row

abbrev IsInRow : ℕ → ℕ → ℕ → Entry → Type 0
IsInRow r first past e = (e.row ≡ r) × ((first ≤ e.col) × (e.col < past))

row_inside : (c : Content) (r first n : ℕ) → All (IsInRow r first (first + n)) (row_part c r first n)
unfolding count_from
row_inside c r first zero = All-nil (IsInRow r first (first + 0))
row_inside c r first (suc n) =
    let P = IsInRow r first (first + suc n) in
    let others = row_part c r (first + 1) n in
    let later : All P others = All-weaker (IsInRow r (first + 1) (first + 1 + n)) P (λ e p. let low = p.1.0 in let high = p.1.1 in (p.0, (omega arith, omega arith))) others (row_inside c r (first + 1) n) in
    elim (c r first) as (λ o. All P (cons_option (option_map (entry_at r first) o) others)) [
      | None ↦ later
      | Some w ↦ All-cons P (entry_at r first w) others (refl, (omega arith, omega arith)) later
    ]

row_order : (c : Content) (r first n : ℕ) → InOrder (row_part c r first n)
unfolding count_from
row_order c r first zero = pairs_nil Precedes
row_order c r first (suc n) =
    let others = row_part c r (first + 1) n in
    let later = row_order c r (first + 1) n in
    elim (c r first) as (λ o. InOrder (cons_option (option_map (entry_at r first) o) others)) [
      | None ↦ later
      | Some w ↦ pairs_cons Precedes (entry_at r first w) others (All-weaker (IsInRow r (first + 1) (first + 1 + n)) (Precedes (entry_at r first w)) (λ e p. let row : r ≡ e.row = omega (arith, p.0) in let low = p.1.0 in inr (row, omega arith)) others (row_inside c r (first + 1) n)) later
    ]

-- ---- some rows

abbrev IsInRows : ℕ → ℕ → ℕ → Entry → Type 0
IsInRows first past cols e = ((first ≤ e.row) × (e.row < past)) × (e.col < cols)

rows_inside : (cols : ℕ) (c : Content) (first n : ℕ)
    → All (IsInRows first (first + n) cols) (flat_map (row_entries cols c) (count_from first n))
unfolding count_from
rows_inside cols c first zero = All-nil (IsInRows first (first + 0) cols)
rows_inside cols c first (suc n) =
    let P = IsInRows first (first + suc n) cols in
    let others = flat_map (row_entries cols c) (count_from (first + 1) n) in
    All-append P (row_entries cols c first) others
    (All-weaker (IsInRow first 0 (0 + cols)) P (λ e p. let row = p.0 in let high = p.1.1 in ((omega arith, omega arith), omega arith)) (row_entries cols c first) (row_inside c first 0 cols))
    (All-weaker (IsInRows (first + 1) (first + 1 + n) cols) P (λ e p. let low = p.0.0 in let high = p.0.1 in ((omega arith, omega arith), p.1)) others (rows_inside cols c (first + 1) n))

rows_order : (cols : ℕ) (c : Content) (first n : ℕ) → InOrder (flat_map (row_entries cols c) (count_from first n))
unfolding count_from
rows_order cols c first zero = pairs_nil Precedes
rows_order cols c first (suc n) =
    let others = flat_map (row_entries cols c) (count_from (first + 1) n) in
    pairs_append Precedes (row_entries cols c first) others (row_order c first 0 cols) (rows_order cols c (first + 1) n)
    (All-weaker (IsInRow first 0 (0 + cols)) (λ e. All (Precedes e) others) (λ e p. let row = p.0 in All-weaker (IsInRows (first + 1) (first + 1 + n) cols) (Precedes e) (λ f q. let low = q.0.0 in inl (omega arith)) others (rows_inside cols c (first + 1) n)) (row_entries cols c first) (row_inside c first 0 cols))

-- ---- all

pub entries_order : (rows cols : ℕ) (c : Content) → InOrder (entries_of rows cols c)
unfolding entries_of
entries_order rows cols c = rows_order cols c 0 rows

pub entries_inside : (rows cols : ℕ) (c : Content) → IsInside rows cols (entries_of rows cols c)
unfolding entries_of
entries_inside rows cols c =
    All-weaker (IsInRows 0 (0 + rows) cols) (λ e. (e.row < rows) × (e.col < cols)) (λ e p. let high = p.0.1 in (omega arith, p.1)) (flat_map (row_entries cols c) (count_from 0 rows)) (rows_inside cols c 0 rows)
