-- Stores in either form.
use Rattle.std.proofs.Common.{◌≡◌, ℕ, ◌<◌, ◌≤◌, eqb, cond, true, false, List, [], ◌∷◌, length, Option, None, Some, refl, sym, subst, ◌∙◌, arith}
use Rattle.std.specs.List.{All}
use Rattle.std.specs.Option.{option_or}
use Rattle.std.proofs.lemmas.Bool.{eq-eqb, ne_eqb}
use Rattle.std.proofs.lemmas.List.Elements.{All-cons, All-head, All-nil, All-tail, All-weaker}
use Rattle.model.specs.declared.entry.Entry.{Entry}
use Rattle.model.specs.Entries.{InOrder, IsInside, entries_of, entry_at, word_at}
use Rattle.store.specs.declared.lists.FiberEnd.{FiberEnd}
use Rattle.store.specs.Fibers.{end_at, entries_from, outers}
use Rattle.store.specs.Stored.{AreHeld, AreIn, along}
use Rattle.store.specs.Walks.{entries_down}
use Rattle.store.proofs.ColumnPuts.{column_held}
use Rattle.store.proofs.Content.{entries_of-words}
use Rattle.store.proofs.Contents.{none_held, one_column}

-- entries in order inside a shape are those of their map, so there is one list of them
pub same_entries : (rows cols : ℕ) (es fs : List Entry) → InOrder es → IsInside rows cols es → InOrder fs
    → IsInside rows cols fs → ((i j : ℕ) → word_at es i j ≡ word_at fs i j) → es ≡ fs
same_entries rows cols es fs es_order es_inside fs_order fs_inside same =
    sym (entries_of-words rows cols es es_order es_inside) ∙ (λ k. entries_of rows cols (λ i j. same i j k)) ∙ entries_of-words rows cols fs fs_order fs_inside

pub or_none : (o : Option ℕ) → option_or o None ≡ o
or_none None = refl
or_none (Some word) = refl

down_below : (past : ℕ) (rows words : List ℕ) → length words ≡ length rows
    → All (λ (e : Entry). e.row < past) (entries_down rows words) → All (λ row. row < past) rows
down_below past [] words same low = All-nil (λ row. row < past)
down_below past (r ∷ rows) [] same low = absurd (omega arith)
down_below past (r ∷ rows) (w ∷ words) same low =
    All-cons (λ row. row < past) r rows (All-head (λ (e : Entry). e.row < past) (entry_at r 0 w) (entries_down rows words) low)
    (down_below past rows words (omega arith) (All-tail (λ (e : Entry). e.row < past) (entry_at r 0 w) (entries_down rows words) low))

-- the rows of a column lie before its end
pub column_below : (first past cols : ℕ) (ends : List FiberEnd) (inner words : List ℕ) → eqb cols 1 ≡ true
    → AreHeld first past cols ends inner words → All (λ row. row < past) inner
column_below first past cols ends inner words one held =
    let column = one_column first past cols ends inner words one held in
    let inside : AreIn first past cols (entries_down inner words) = subst (AreIn first past cols) column.down held.inside in
    down_below past inner words column.lengths (All-weaker (λ e. ((first ≤ e.row) × (e.row < past)) × (e.col < cols)) (λ (e : Entry). e.row < past) (λ e p. p.0.1) (entries_down inner words) inside)

ends_none : (n : ℕ) (ends some : List FiberEnd) → ends ≡ cond (eqb 0 n) [] some → n ≡ 0 → ends ≡ []
ends_none n ends some is zero = let test : eqb 0 n ≡ true = eq-eqb 0 n (sym zero) in rw test at is

ends_some : (n : ℕ) (ends some : List FiberEnd) → ends ≡ cond (eqb 0 n) [] some → 0 < n → ends ≡ some
ends_some n ends some is more = let test : eqb 0 n ≡ false = ne_eqb 0 n (λ zero. absurd (omega arith)) in rw test at is

-- rows and words in order are the lists of a column
pub column_listed : (rows : ℕ) (ends : List FiberEnd) (inner words : List ℕ) → length words ≡ length inner
    → ends ≡ cond (eqb 0 (length inner)) [] (end_at 0 (length inner) ∷ [])
    → InOrder (entries_down inner words) → IsInside rows 1 (entries_down inner words)
    → AreHeld 0 rows 1 ends inner words × (along 1 (entries_from 0 ends inner words) ≡ entries_down inner words)
unfolding outers
column_listed rows ends [] [] same is order inside =
    let nothing : List ℕ = [] in
    let none : ends ≡ [] = ends_none (length nothing) ends (end_at 0 0 ∷ []) is refl in
    rw none (none_held 0 rows 1, refl)
column_listed rows ends [] (w ∷ words) same is order inside = absurd (omega arith)
column_listed rows ends (r ∷ inner) words same is order inside =
    let some = ends_some (length (r ∷ inner)) ends (end_at 0 (length (r ∷ inner)) ∷ []) is (omega arith) in
    column_held rows 1 ends (r ∷ inner) words refl same (omega arith) some order inside
