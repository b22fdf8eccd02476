-- Texts put together from their parts.
use Rattle.std.proofs.Common.{◌≡◌, ℕ, zero, suc, refl, ap, ◌+◌, ◌-◌, ◌<◌, ◌≤◌, List, [], ◌∷◌, ◌++◌, ◌∙◌, append_assoc, arith, get_or, length, map, subst, take, Result, Ok, Err, OnErr, OnOk, is_ok, true}
use Rattle.std.specs.List.{All, flat_map}
use Rattle.std.proofs.lemmas.List.{append-nil, get_or_default, map-append, take_more}
use Rattle.std.proofs.lemmas.List.Concat.{flat_map-append}
use Rattle.algebra.specs.declared.domain.Domain.{Domain}
use Rattle.model.specs.declared.entry.Entry.{Entry}
use Rattle.model.specs.Entries.{count_from, entries_between, entry_at, row_entries}
use Rattle.model.specs.Object.{Content}
use Rattle.model.specs.Text.{ended, entry_line}
use Rattle.store.specs.Fibers.{entries_along}
use Rattle.store.specs.Walks.{IsFirstRow}
use Rattle.store.proofs.Order.{all_append_left}
use Rattle.store.proofs.Places.{length_row, row_at}

-- the text of an object, put together from its parts
pub object_text : {E : Type 0} (r : Result (Unit {0}) E) (out texted sized written banner size : List ℕ)
    (lines : List (List ℕ))
    → texted ≡ out ++ ended banner → sized ≡ texted ++ ended size → OnOk r (written ≡ sized ++ flat_map ended lines)
    → OnOk r (written ≡ out ++ flat_map ended (banner ∷ size ∷ lines))
object_text (Ok done) out texted sized written banner size lines e f g = g ∙ rw (f, e) (simp append_assoc)
object_text (Err refused) out texted sized written banner size lines e f g = tt

-- what holds holds on an error
pub on_err : {T E P : Type 0} (r : Result T E) → P → OnErr r P
on_err (Ok x) p = tt
on_err (Err e) p = p

-- what holds on success holds of a success
pub holds_where_ok : {T E P : Type 0} (r : Result T E) → is_ok r ≡ true → OnOk r P → P
holds_where_ok (Ok x) ok p = p
holds_where_ok (Err e) ok p = absurd (cc)

-- the lines of entries behind a text
abbrev pub lines_of : Domain → List Entry → List ℕ → List ℕ
lines_of domain es text = text ++ flat_map ended (map (entry_line domain) es)

-- one line more
pub lines_more : (domain : Domain) (es : List Entry) (k : ℕ) (d e : Entry) (text before after : List ℕ) → k < length es
    → get_or es k d ≡ e → before ≡ lines_of domain (take k es) text → after ≡ before ++ ended (entry_line domain e)
    → after ≡ lines_of domain (take (k + 1) es) text
lines_more domain es k d e text before after within at so_far more =
    more ∙ rw (so_far, take_more es k d within, at, map-append (entry_line domain) (take k es) (e ∷ []), flat_map-append ended (map (entry_line domain) (take k es)) (entry_line domain e ∷ [])) (simp (append_assoc, append-nil))

-- what holds of each entry's row and column holds of the first row's index and of its columns
first_row_below : (n index : ℕ) (cols words : List ℕ) (all others : List Entry)
    → IsFirstRow index cols words all others → All (λ e. (e.row < n) × (e.col < n)) all
    → All (λ e. (e.row < n) × (e.col < n)) (entries_along index cols words)
first_row_below n index cols words all others starts h =
    all_append_left (λ e. (e.row < n) × (e.col < n)) (entries_along index cols words) others (subst (All (λ e. (e.row < n) × (e.col < n))) starts.whole h)

pub index_below : (n index : ℕ) (cols words : List ℕ) (all others : List Entry)
    → IsFirstRow index cols words all others → All (λ e. (e.row < n) × (e.col < n)) all → index < n
index_below n index cols words all others starts h =
    let same = starts.lengths in
    let first : (entry_at index (get_or cols 0 0) (get_or words 0 0)).row < n = rw (row_at index cols words 0 (entry_at 0 0 0) same starts.some) at (first_row_below n index cols words all others starts h 0 (entry_at 0 0 0) (omega (arith, starts.some, length_row index cols words same))).0 in
    first

pub cols_below : (n index : ℕ) (cols words : List ℕ) (all others : List Entry) → IsFirstRow index cols words all others
    → All (λ e. (e.row < n) × (e.col < n)) all → All (λ col. col < n) cols
cols_below n index cols words all others starts h k d within =
    let same = starts.lengths in
    let col : (entry_at index (get_or cols k 0) (get_or words k 0)).col < n = rw (row_at index cols words k (entry_at 0 0 0) same within) at (first_row_below n index cols words all others starts h k (entry_at 0 0 0) (omega (arith, length_row index cols words same))).1 in
    rw (get_or_default cols k d 0 within) col

-- ---- rows of a store, and those behind them

counted_apart : (first n m : ℕ) → count_from first (n + m) ≡ count_from first n ++ count_from (first + n) m
unfolding count_from
counted_apart first zero m = let none : 0 + m ≡ m = omega arith in let same : first + 0 ≡ first = omega arith in rw (none, same) refl
counted_apart first (suc n) m =
    let more : suc n + m ≡ suc (n + m) = omega arith in
    let at : first + suc n ≡ first + 1 + n = omega arith in
    rw (more, at) (ap (λ ks. first ∷ ks) (counted_apart (first + 1) n m))

-- the lines of rows are those of the first ones, and then those of the others
pub lines_apart : (domain : Domain) (middle past cols : ℕ) (c : Content) → middle ≤ past
    → flat_map ended (map (entry_line domain) (entries_between 0 past cols c))
    ≡ flat_map ended (map (entry_line domain) (entries_between 0 middle cols c))
    ++ flat_map ended (map (entry_line domain) (entries_between middle past cols c))
unfolding entries_between
lines_apart domain middle past cols c inside =
    let whole : past - 0 ≡ (middle - 0) + (past - middle) = omega (arith, inside) in
    let start : 0 + (middle - 0) ≡ middle = omega arith in
    let rows = row_entries cols c in
    let line = entry_line domain in
    let apart = ap (count_from 0) whole ∙ rw start at (counted_apart 0 (middle - 0) (past - middle)) in
    ap (λ ks. flat_map ended (map line (flat_map rows ks))) apart
    ∙ ap (λ es. flat_map ended (map line es)) (flat_map-append rows (count_from 0 (middle - 0)) (count_from middle (past - middle)))
    ∙ ap (flat_map ended) (map-append line (flat_map rows (count_from 0 (middle - 0))) (flat_map rows (count_from middle (past - middle))))
    ∙ flat_map-append ended (map line (flat_map rows (count_from 0 (middle - 0)))) (map line (flat_map rows (count_from middle (past - middle))))
