-- Entries at one outer index.
use Rattle.std.proofs.Common.{◌≡◌, ℕ, ◌<◌, ◌-◌, List, [], ◌∷◌, ◌++◌, length, take, drop, refl, sym, ◌∙◌, subst, arith, length-take, length-drop}
use Rattle.std.specs.List.{All, AllPairs}
use Rattle.std.proofs.lemmas.List.{append-nil, take_all}
use Rattle.std.proofs.lemmas.List.Elements.{All-head, All-tail}
use Rattle.model.specs.declared.entry.Entry.{Entry}
use Rattle.model.specs.Entries.{entry_at}
use Rattle.store.specs.declared.lists.FiberEnd.{FiberEnd}
use Rattle.store.specs.Fibers.{Rises, entries_along, entries_from, last_end}
use Rattle.store.specs.Walks.{AreLeft}
use Rattle.store.proofs.FlatLaws.{all_rows, rises_le}
use Rattle.store.proofs.Order.{all_append_left}
use Rattle.store.proofs.Places.{length_row}
use Rattle.store.proofs.Walks.{count_lines, first_fiber, head_room, last_fiber, next_fibers, no_lines, step_next}

all_behind : (P : Entry → Type 0) (front rest : List Entry) → All P (front ++ rest) → All P rest
all_behind P [] rest is = is
all_behind P (e ∷ es) rest is = all_behind P es rest (All-tail P e (es ++ rest) is)

-- none of them stands behind that index
none_beyond : (o : ℕ) (all front rest : List Entry) → all ≡ front ++ rest → All (λ e. e.row ≡ o) all
    → All (λ e. o < e.row) rest → length rest ≡ 0
none_beyond o all front [] parts same behind = refl
none_beyond o all front (e ∷ es) parts same behind =
    let P : Entry → Type 0 = λ e. e.row ≡ o in
    let here = All-head P e es (all_behind P front (e ∷ es) (subst (λ es. All P es) parts same)) in
    let above = All-head (λ e. o < e.row) e es behind in
    absurd (omega arith)

-- that index is theirs
pub outer_is : (o outer : ℕ) (es : List Entry) (inner words : List ℕ) → es ≡ entries_along o inner words
    → 0 < length es → All (λ e. e.row ≡ outer) es → o ≡ outer
outer_is o outer es inner words is some all =
    let own = all_rows o inner words 0 (entry_at 0 0 0) (rw is at some) in
    let at = (rw is at all) 0 (entry_at 0 0 0) (rw is at some) in
    sym own ∙ at

-- the last fiber has all entries
pub one_fiber : (from : ℕ) (head : FiberEnd) (others : List FiberEnd) (inner words : List ℕ)
    → AreLeft from head others inner words → 0 < length inner → length others ≡ 0
    → entries_from from (head ∷ others) inner words ≡ entries_along head.outer inner words
one_fiber from head [] inner words h some none =
    let n = head.end - from in
    let room = head_room from head [] inner words h some in
    let gone = last_fiber from head inner words h some in
    let same = h.same_length in
    let whole : take n inner ≡ inner = take_all n inner (omega (arith, length-drop n inner)) in
    let whole' : take n words ≡ words = take_all n words (omega (arith, length-drop n inner)) in
    let is = no_lines head.end [] (drop n inner) (drop n words) gone in
    first_fiber from head [] inner words room.1 same ∙ rw (is, whole, whole') (append-nil (entries_along head.outer inner words))
one_fiber from head (r ∷ rs) inner words h some none = absurd (omega arith)

pub one_rises : (from : ℕ) (head : FiberEnd) (others : List FiberEnd) (inner words : List ℕ)
    → AreLeft from head others inner words → 0 < length inner → length others ≡ 0 → AllPairs (λ x y. x < y) inner
one_rises from head [] inner words h some none =
    let n = head.end - from in
    let gone = last_fiber from head inner words h some in
    let whole : take n inner ≡ inner = take_all n inner (omega (arith, length-drop n inner)) in
    rw whole at (step_next from head [] inner words h some).rising
one_rises from head (r ∷ rs) inner words h some none = absurd (omega arith)

-- where there are others, their entries aren't at one outer index
pub not_one : (from : ℕ) (head : FiberEnd) (others : List FiberEnd) (inner words : List ℕ) (outer : ℕ)
    → AreLeft from head others inner words → 0 < length inner → 0 < length others
    → All (λ e. e.row ≡ outer) (entries_from from (head ∷ others) inner words) → ⊥
unfolding Rises last_end
not_one from head [] inner words outer h some more all = absurd (omega arith)
not_one from head (r ∷ rs) inner words outer h some more all =
    let n = head.end - from in
    let front = entries_along head.outer (take n inner) (take n words) in
    let back = entries_from head.end (r ∷ rs) (drop n inner) (drop n words) in
    let step = step_next from head (r ∷ rs) inner words h some in
    let room = head_room from head (r ∷ rs) inner words h some in
    let low = room.0 in
    let high = room.1 in
    let rises = h.rises some in
    let whole = h.whole some in
    let next = rises.1.0 in
    let last = rises_le r.end rs rises.1.1 in
    let same = h.same_length in
    let parts : All (λ e. e.row ≡ outer) (front ++ back) = rw step.whole at all in
    let long = length_row head.outer (take n inner) (take n words) (omega (arith, length-take n inner, length-take n words)) in
    let is : head.outer ≡ outer = outer_is head.outer outer front (take n inner) (take n words) refl (omega (arith, length-take n inner)) (all_append_left (λ e. e.row ≡ outer) front back parts) in
    let none = none_beyond outer (front ++ back) front back refl parts (rw is at step.behind) in
    let count = count_lines head.end r rs (drop n inner) (drop n words) (next_fibers from head r rs inner words h some) in
    omega (arith, length-drop n inner)
