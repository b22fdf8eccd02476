-- The entries of one column, row by row.
use Rattle.std.proofs.Common.{◌≡◌, ℕ, zero, suc, ◌+◌, ◌≢◌, ◌*◌, ◌-◌, ◌/◌, ◌%◌, ◌<◌, ◌≤◌, true, false, eqb, ltb, w64, List, [], ◌∷◌, ◌++◌, length, get_or, Option, Some, None, refl, sym, ◌∙◌, ap, inl, inr, arith}
use Rattle.std.specs.Int.{bit_at, trailing_zeros}
use Rattle.std.specs.Option.{option_map}
use Rattle.std.specs.List.{cons_option, flat_map, zip}
use Rattle.std.proofs.lemmas.Bool.{cases_Bool}
use Rattle.std.proofs.lemmas.Bool.Decides.{nat_tests}
use Rattle.std.proofs.lemmas.List.{append-nil, length-append, length-map}
use Rattle.std.proofs.lemmas.Slice.Zip.{length-zip}
use Rattle.std.proofs.lemmas.Nat.Bits.{bit_at-zero}
use Rattle.lanes.proofs.BitLaws.{AreLeft, next_left, without_bit}
use Rattle.lanes.specs.Bits.{has_bit}
use Rattle.model.specs.declared.entry.Entry.{Entry}
use Rattle.model.specs.Entries.{count_from, entries_of, entry_at, row_entries}
use Rattle.bitmap.specs.Bitmaps.{column_entries, entries_down, held, word_in}

pub column_zero : (f : ℕ → Option ℕ) (first : ℕ) → column_entries f first 0 ≡ []
unfolding count_from
column_zero f first = refl

put_behind : (o : Option Entry) (rest others : List Entry)
    → cons_option o (rest ++ others) ≡ cons_option o rest ++ others
put_behind None rest others = refl
put_behind (Some e) rest others = refl

pub column_append : (f : ℕ → Option ℕ) (first m n : ℕ)
    → column_entries f first (m + n) ≡ column_entries f first m ++ column_entries f (first + m) n
unfolding count_from
column_append f first zero n = let same : first + 0 ≡ first = omega arith in let all : 0 + n ≡ n = omega arith in rw (same, all) refl
column_append f first (suc m) n =
    let all : suc m + n ≡ suc (m + n) = omega arith in
    let next : first + suc m ≡ first + 1 + m = omega arith in
    rw (all, next, column_append f (first + 1) m n) (put_behind (option_map (entry_at first 0) (f first)) (column_entries f (first + 1) m) (column_entries f (first + 1 + m) n))

pub column_one : (f : ℕ → Option ℕ) (at : ℕ)
    → column_entries f at 1 ≡ cons_option (option_map (entry_at at 0) (f at)) []
unfolding count_from
column_one f at = refl

column_none : (f : ℕ → Option ℕ) (first n : ℕ) → ((at : ℕ) → first ≤ at → at < first + n → f at ≡ None)
    → column_entries f first n ≡ []
unfolding count_from
column_none f first zero none = refl
column_none f first (suc n) none = rw (none first (omega arith) (omega arith)) (column_none f (first + 1) n (λ at low high. none at (omega arith) (omega arith)))

column_up_to : (f : ℕ → Option ℕ) (base p q word : ℕ) → p ≤ q
    → ((at : ℕ) → base + p ≤ at → at < base + q → f at ≡ None) → f (base + q) ≡ Some word
    → column_entries f base (q + 1) ≡ column_entries f base p ++ entry_at (base + q) 0 word ∷ []
column_up_to f base p q word le none is =
    let d = q - p in
    let whole : q + 1 ≡ p + (d + 1) = omega arith in
    let at : base + p + d ≡ base + q = omega arith in
    let one : column_entries f (base + q) 1 ≡ entry_at (base + q) 0 word ∷ [] = column_one f (base + q) ∙ rw is refl in
    ap (column_entries f base) whole ∙ column_append f base p (d + 1)
    ∙ ap (λ es. column_entries f base p ++ es)
    (column_append f (base + p) d 1 ∙ rw (column_none f (base + p) d (λ k low high. none k low (omega arith)), at) one)

-- the entries of fewer rows are fewer
pub column_most : (f : ℕ → Option ℕ) (first m n : ℕ) → m ≤ n
    → length (column_entries f first m) ≤ length (column_entries f first n)
column_most f first m n le =
    let whole : n ≡ m + (n - m) = omega arith in
    let parts = ap length (ap (column_entries f first) whole ∙ column_append f first m (n - m)) ∙ length-append (column_entries f first m) (column_entries f (first + m) (n - m)) in
    omega arith

-- ---- the 64 places of a word of bits

pub bit_here : (bits : List ℕ) (at k : ℕ) → 64 * at ≤ k → k < 64 * at + 64
    → has_bit bits k ≡ eqb (bit_at (get_or bits at 0) (k - 64 * at)) 1
bit_here bits at k low high =
    let word : k / 64 ≡ at = omega arith in
    let place : k % 64 ≡ k - 64 * at = omega arith in
    rw (word, place) refl

no_word : (bits words : List ℕ) (at k : ℕ) → 64 * at ≤ k → k < 64 * at + 64
    → bit_at (get_or bits at 0) (k - 64 * at) ≡ 0 → word_in bits words k ≡ None
no_word bits words at k low high none =
    let bit : has_bit bits k ≡ false = bit_here bits at k low high ∙ ap (λ n. eqb n 1) none in
    rw bit refl

-- the lowest bit that is left is that of the next entry
pub next_entry : (bits words : List ℕ) (at left p : ℕ) → AreLeft (get_or bits at 0) left p → left ≢ 0
    → left < 18446744073709551616
    → let place = trailing_zeros w64 left in (place < 64) × AreLeft (get_or bits at 0) (without_bit left place) (place + 1) × (has_bit bits (64 * at + place) ≡ true) × (column_entries (word_in bits words) (64 * at) (place + 1) ≡ column_entries (word_in bits words) (64 * at) p ++ entry_at (64 * at + place) 0 (get_or words (64 * at + place) 0) ∷ [])
next_entry bits words at left p here some fits =
    let next = next_left (get_or bits at 0) left p here some fits in
    let place = trailing_zeros w64 left in
    let small : place < 64 = next.0 in
    let same : 64 * at + place - 64 * at ≡ place = omega arith in
    let there : has_bit bits (64 * at + place) ≡ true = bit_here bits at (64 * at + place) (omega arith) (omega arith) ∙ ap (λ n. eqb n 1) (ap (bit_at (get_or bits at 0)) same ∙ next.3) in
    let word : word_in bits words (64 * at + place) ≡ Some (get_or words (64 * at + place) 0) = rw there refl in (
      small,
      next.1,
      there,
      column_up_to (word_in bits words) (64 * at) p place (get_or words (64 * at + place) 0) next.2 (λ k low high. no_word bits words at k (omega arith) (omega arith) (next.4 (k - 64 * at) (omega arith) (omega arith))) word,
    )

-- where no bit is left, all entries were found
pub none_left : (bits words : List ℕ) (at p : ℕ) → AreLeft (get_or bits at 0) 0 p
    → column_entries (word_in bits words) (64 * at) 64 ≡ column_entries (word_in bits words) (64 * at) p
none_left bits words at p here =
    let f = word_in bits words in
    let le = here.p_le in
    let whole : 64 ≡ p + (64 - p) = omega arith in
    ap (column_entries f (64 * at)) whole ∙ column_append f (64 * at) p (64 - p)
    ∙ rw (column_none f (64 * at + p) (64 - p) (λ k low high. no_word bits words at k (omega arith) (omega arith) (sym (here.high (k - 64 * at) (omega arith) (omega arith)) ∙ bit_at-zero (k - 64 * at)))) (append-nil (column_entries f (64 * at) p))

-- ---- all words of bits

pub next_places : (f : ℕ → Option ℕ) (at : ℕ)
    → column_entries f 0 (64 * (at + 1)) ≡ column_entries f 0 (64 * at) ++ column_entries f (64 * at) 64
next_places f at =
    let whole : 64 * (at + 1) ≡ 64 * at + 64 = omega arith in
    let from : 0 + 64 * at ≡ 64 * at = omega arith in
    ap (column_entries f 0) whole ∙ column_append f 0 (64 * at) 64 ∙ ap (λ k. column_entries f 0 (64 * at) ++ column_entries f k 64) from

-- no bit is set behind the last place
pub all_places : (bits words : List ℕ) (n : ℕ) → length words ≤ n
    → ((place : ℕ) → length words ≤ place → has_bit bits place ≡ false)
    → column_entries (word_in bits words) 0 n ≡ column_entries (word_in bits words) 0 (length words)
all_places bits words n le none =
    let f = word_in bits words in
    let rest = n - length words in
    let whole : n ≡ length words + rest = omega arith in
    ap (column_entries f 0) whole ∙ column_append f 0 (length words) rest
    ∙ rw (column_none f (0 + length words) rest (λ k low high. rw (none k (omega arith)) refl)) (append-nil (column_entries f 0 (length words)))

-- ---- a bitmap of one column

one_column : (bits words : List ℕ) (first n : ℕ)
    → flat_map (row_entries 1 (held 1 bits words)) (count_from first n) ≡ column_entries (word_in bits words) first n
unfolding count_from
one_column bits words first zero = refl
one_column bits words first (suc n) =
    let place : first * 1 + 0 ≡ first = omega arith in
    rw (place, one_column bits words (first + 1) n) (sym (put_behind (option_map (entry_at first 0) (word_in bits words first)) [] (column_entries (word_in bits words) (first + 1) n)))

-- the entries of a column are those at all places
pub column_is : (rows cols : ℕ) (bits words : List ℕ) → cols ≡ 1 → length words ≡ rows * cols
    → entries_of rows cols (held cols bits words) ≡ column_entries (word_in bits words) 0 (length words)
unfolding entries_of
column_is rows cols bits words one long =
    let same : length words ≡ rows = let whole = rw one at long in omega arith in
    rw (one, same) (one_column bits words 0 rows)

-- ---- lists of rows and words

-- a row and its word more
pub down_push : (rows words : List ℕ) (row word : ℕ) → length words ≡ length rows
    → entries_down (rows ++ row ∷ []) (words ++ word ∷ []) ≡ entries_down rows words ++ entry_at row 0 word ∷ []
down_push [] [] row word same = refl
down_push [] (w ∷ words) row word same = absurd (omega arith)
down_push (r ∷ rows) [] row word same = absurd (omega arith)
down_push (r ∷ rows) (w ∷ words) row word same = ap (λ es. entry_at r 0 w ∷ es) (down_push rows words row word (omega arith))

pub long_down : (rows words : List ℕ) → length words ≡ length rows
    → length (entries_down rows words) ≡ length rows
long_down rows words same = let long = length-zip rows words in let all = length-map (zip rows words) (λ at. entry_at at.0 0 at.1) in omega arith

-- a bit that is set is that of one of the places
pub place_under : (bits words : List ℕ) (place : ℕ)
    → ((at : ℕ) → length words ≤ at → has_bit bits at ≡ false) → has_bit bits place ≡ true → place < length words
place_under bits words place none there =
    elim (cases_Bool (ltb place (length words))) [
      | inl under ↦ grind (arith, nat_tests)
      | inr past ↦ let le : length words ≤ place = grind (arith, nat_tests) in let no_bit = none place le in absurd (cc)
    ]
