-- How many entries a map has inside a shape, where one position changes.
use mir.Val.{bool_byte}
use Rattle.std.proofs.Common.{◌≡◌, ℕ, zero, suc, ◌+◌, ◌*◌, ◌<◌, ◌≤◌, true, false, cond, ◌&&◌, not, Bool, eqb, leb, ltb, List, [], get_or, length, replicate, Option, Some, None, refl, ap, inl, inr, arith}
use Rattle.std.specs.Option.{option_map}
use Rattle.std.specs.List.{cons_option, flat_map}
use Rattle.std.proofs.lemmas.Bool.{cases_eq, eq-eqb}
use Rattle.std.proofs.lemmas.Bool.Decides.{nat_tests}
use Rattle.std.proofs.lemmas.List.{length-append}
use Rattle.model.specs.declared.entry.Entry.{Entry}
use Rattle.model.specs.Entries.{count_from, entries_of, entry_at, row_entries}
use Rattle.model.specs.Object.{Content, without_entry}
use Rattle.lanes.specs.Bits.{has_bit}
use Rattle.bitmap.specs.Bitmaps.{held, place_of, row_part, word_in}
use Rattle.bitmap.proofs.PlaceLaws.{AgreeBut, IsCleared, IsSet, here_removed, here_set, no_bit, others_removed, others_set}

-- how many words there are at a position
abbrev pub one_of : Option ℕ → ℕ
one_of None = 0
one_of (Some word) = 1

pub one_more : (r k : ℕ) (o : Option ℕ) (es : List Entry)
    → length (cons_option (option_map (entry_at r k) o) es) ≡ one_of o + length es
one_more r k None es = omega arith
one_more r k (Some w) es = omega arith

row_length : (rows cols i j : ℕ) (new old : Content) (first n : ℕ) → AgreeBut rows cols i j new old → i < rows
    → first + n ≤ cols
    → length (row_part new i first n) + cond (leb first j && ltb j (first + n)) (one_of (old i j)) 0 ≡ length (row_part old i first n) + cond (leb first j && ltb j (first + n)) (one_of (new i j)) 0
unfolding count_from
row_length rows cols i j new old first zero same row fits =
    let out : (leb first j && ltb j (first + 0)) ≡ false = grind (arith, nat_tests) in rw out refl
row_length rows cols i j new old first (suc n) same row fits =
    let rest = row_length rows cols i j new old (first + 1) n same row (omega arith) in
    let news = one_more i first (new i first) (row_part new i (first + 1) n) in
    let olds = one_more i first (old i first) (row_part old i (first + 1) n) in
    elim (cases_eq first j) [
      | inl here ↦
          let inside : (leb first j && ltb j (first + suc n)) ≡ true = grind (arith, nat_tests) in
          let out : (leb (first + 1) j && ltb j (first + 1 + n)) ≡ false = grind (arith, nat_tests) in
          let others : length (row_part new i (first + 1) n) + 0 ≡ length (row_part old i (first + 1) n) + 0 = rw out at rest in
          let new_one : one_of (new i first) ≡ one_of (new i j) = ap (λ k. one_of (new i k)) here in
          let old_one : one_of (old i first) ≡ one_of (old i j) = ap (λ k. one_of (old i k)) here in
          rw inside (omega arith)
      | inr away ↦
          let tests : (leb (first + 1) j && ltb j (first + 1 + n)) ≡ (leb first j && ltb j (first + suc n)) = grind (arith, nat_tests) in
          let apart : (eqb i i && eqb first j) ≡ false = grind (arith, nat_tests) in
          let one : one_of (new i first) ≡ one_of (old i first) = ap one_of (same i first row (omega arith) apart) in
          let others = rw tests at rest in
          omega arith
    ]

same_row : (rows cols i j : ℕ) (new old : Content) (r first n : ℕ) → AgreeBut rows cols i j new old → r < rows
    → eqb r i ≡ false → first + n ≤ cols → row_part new r first n ≡ row_part old r first n
unfolding count_from
same_row rows cols i j new old r first zero same row other fits = refl
same_row rows cols i j new old r first (suc n) same row other fits =
    let apart : (eqb r i && eqb first j) ≡ false = grind (arith, nat_tests) in
    rw (same r first row (omega arith) apart) (ap (cons_option (option_map (entry_at r first) (old r first))) (same_row rows cols i j new old r (first + 1) n same row other (omega arith)))

rows_length : (rows cols i j : ℕ) (new old : Content) (first n : ℕ) → AgreeBut rows cols i j new old → j < cols
    → first + n ≤ rows
    → length (flat_map (row_entries cols new) (count_from first n)) + cond (leb first i && ltb i (first + n)) (one_of (old i j)) 0 ≡ length (flat_map (row_entries cols old) (count_from first n)) + cond (leb first i && ltb i (first + n)) (one_of (new i j)) 0
unfolding count_from
rows_length rows cols i j new old first zero same col fits =
    let out : (leb first i && ltb i (first + 0)) ≡ false = grind (arith, nat_tests) in rw out refl
rows_length rows cols i j new old first (suc n) same col fits =
    let rest = rows_length rows cols i j new old (first + 1) n same col (omega arith) in
    let news = length-append (row_entries cols new first) (flat_map (row_entries cols new) (count_from (first + 1) n)) in
    let olds = length-append (row_entries cols old first) (flat_map (row_entries cols old) (count_from (first + 1) n)) in
    elim (cases_eq first i) [
      | inl here ↦
          let inside : (leb first i && ltb i (first + suc n)) ≡ true = grind (arith, nat_tests) in
          let out : (leb (first + 1) i && ltb i (first + 1 + n)) ≡ false = grind (arith, nat_tests) in
          let others : length (flat_map (row_entries cols new) (count_from (first + 1) n)) + 0 ≡ length (flat_map (row_entries cols old) (count_from (first + 1) n)) + 0 = rw out at rest in
          let in_row : (leb 0 j && ltb j (0 + cols)) ≡ true = grind (arith, nat_tests) in
          let row : length (row_entries cols new i) + one_of (old i j) ≡ length (row_entries cols old i) + one_of (new i j) = rw in_row at (row_length rows cols i j new old 0 cols same (omega arith) (omega arith)) in
          let new_row : length (row_entries cols new first) ≡ length (row_entries cols new i) = ap (λ r. length (row_entries cols new r)) here in
          let old_row : length (row_entries cols old first) ≡ length (row_entries cols old i) = ap (λ r. length (row_entries cols old r)) here in
          rw inside (omega arith)
      | inr away ↦
          let tests : (leb (first + 1) i && ltb i (first + 1 + n)) ≡ (leb first i && ltb i (first + suc n)) = grind (arith, nat_tests) in
          let other : eqb first i ≡ false = grind (arith, nat_tests) in
          let row : length (row_entries cols new first) ≡ length (row_entries cols old first) = ap length (same_row rows cols i j new old first 0 cols same (omega arith) other (omega arith)) in
          let others = rw tests at rest in
          omega arith
    ]

-- where one position changes, so many words more or less
pub entries_length : (rows cols i j : ℕ) (new old : Content) → AgreeBut rows cols i j new old → i < rows → j < cols
    → length (entries_of rows cols new) + one_of (old i j) ≡ length (entries_of rows cols old) + one_of (new i j)
unfolding entries_of
entries_length rows cols i j new old same row col =
    let inside : (leb 0 i && ltb i (0 + rows)) ≡ true = grind (arith, nat_tests) in
    rw inside at (rows_length rows cols i j new old 0 rows same col (omega arith))

-- ---- at most one at each position

row_most : (c : Content) (r first n : ℕ) → length (row_part c r first n) ≤ n
unfolding count_from
row_most c r first zero = omega arith
row_most c r first (suc n) =
    let rest = row_most c r (first + 1) n in
    elim (c r first) as (λ o. length (cons_option (option_map (entry_at r first) o) (row_part c r (first + 1) n)) ≤ suc n) [
      | None ↦ omega arith
      | Some w ↦ omega arith
    ]

rows_most : (cols : ℕ) (c : Content) (first n : ℕ)
    → length (flat_map (row_entries cols c) (count_from first n)) ≤ n * cols
unfolding count_from
rows_most cols c first zero = omega arith
rows_most cols c first (suc n) =
    let rest = rows_most cols c (first + 1) n in
    let row : length (row_entries cols c first) ≤ cols = row_most c first 0 cols in
    let both = length-append (row_entries cols c first) (flat_map (row_entries cols c) (count_from (first + 1) n)) in
    let product : suc n * cols ≡ cols + n * cols = omega arith in
    omega arith

pub entries_most : (rows cols : ℕ) (c : Content) → length (entries_of rows cols c) ≤ rows * cols
unfolding entries_of
entries_most rows cols c = rows_most cols c 0 rows

-- ---- none

row_none : (c : Content) (r first n past : ℕ) → ((k : ℕ) → k < past → c r k ≡ None) → first + n ≤ past
    → row_part c r first n ≡ []
unfolding count_from
row_none c r first zero past none fits = refl
row_none c r first (suc n) past none fits = rw (none first (omega arith)) (row_none c r (first + 1) n past none (omega arith))

rows_none : (cols : ℕ) (c : Content) (first n : ℕ) → ((r k : ℕ) → k < cols → c r k ≡ None)
    → flat_map (row_entries cols c) (count_from first n) ≡ []
unfolding count_from
rows_none cols c first zero none = refl
rows_none cols c first (suc n) none = rw (row_none c first 0 cols cols (none first) (omega arith)) (rows_none cols c (first + 1) n none)

-- ---- by bits

-- how many entries bits and words make
abbrev pub count_of : ℕ → ℕ → List ℕ → List ℕ → ℕ
count_of rows cols bits words = length (entries_of rows cols (held cols bits words))

pub one_in : (bits words : List ℕ) (at : ℕ) → one_of (word_in bits words at) ≡ bool_byte (has_bit bits at)
one_in bits words at = elim (has_bit bits at) as (λ b. one_of (cond b (Some (get_or words at 0)) None) ≡ bool_byte b) [
  | true ↦ refl
  | false ↦ refl
]

one_not : (b : Bool) → bool_byte b + bool_byte (not b) ≡ 1
one_not true = refl
one_not false = refl

-- a bit that is set stands for an entry
pub one_most : (rows cols i j : ℕ) (bits words : List ℕ) → i < rows → j < cols
    → bool_byte (has_bit bits (place_of cols i j)) ≤ count_of rows cols bits words
one_most rows cols i j bits words row col =
    let old = held cols bits words in
    let new = without_entry old i j in
    let both = entries_length rows cols i j new old (λ p q p_in q_in away. rw away refl) row col in
    let gone : one_of (new i j) ≡ 0 = rw (eq-eqb i i refl, eq-eqb j j refl) refl in
    let one = one_in bits words (place_of cols i j) in
    omega arith

pub count_set : (rows cols i j word : ℕ) (bits words bits' words' : List ℕ) → i < rows → j < cols
    → IsSet (place_of cols i j) word bits words bits' words'
    → count_of rows cols bits' words' ≡ count_of rows cols bits words + bool_byte (not (has_bit bits (place_of cols i j)))
count_set rows cols i j word bits words bits' words' row col h =
    let both = entries_length rows cols i j (held cols bits' words') (held cols bits words) (others_set rows cols i j word bits words bits' words' col h) row col in
    let new : one_of (held cols bits' words' i j) ≡ 1 = ap one_of (here_set cols i j word bits words bits' words' h) in
    let old = one_in bits words (place_of cols i j) in
    let whole = one_not (has_bit bits (place_of cols i j)) in
    omega arith

pub count_removed : (rows cols i j : ℕ) (bits words bits' : List ℕ) → i < rows → j < cols
    → IsCleared (place_of cols i j) bits bits'
    → count_of rows cols bits' words + bool_byte (has_bit bits (place_of cols i j)) ≡ count_of rows cols bits words
count_removed rows cols i j bits words bits' row col h =
    let both = entries_length rows cols i j (held cols bits' words) (held cols bits words) (others_removed rows cols i j bits words bits' col h) row col in
    let new : one_of (held cols bits' words i j) ≡ 0 = ap one_of (here_removed cols i j bits words bits' h) in
    let old = one_in bits words (place_of cols i j) in
    omega arith

-- no bit is set
pub count_none : (rows cols n : ℕ) (words : List ℕ) → count_of rows cols (replicate n 0) words ≡ 0
unfolding entries_of
count_none rows cols n words =
    ap length (rows_none cols (held cols (replicate n 0) words) 0 rows (λ r k less. rw (no_bit n (place_of cols r k)) refl))
