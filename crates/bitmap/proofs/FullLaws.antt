-- Bitmaps with an entry at each position.
use mir.Val.{bool_byte}
use Rattle.std.proofs.Common.{◌≡◌, ℕ, zero, suc, ◌+◌, ◌*◌, ◌/◌, ◌%◌, ◌^◌, ◌-◌, ◌<◌, ◌≤◌, true, false, Bool, ltb, List, [], ◌∷◌, length, get_or, set, replicate, Option, Some, refl, sym, subst, ◌∙◌, ap, inl, inr, arith}
use Rattle.std.proofs.Math.Pow.{pow-lt}
use Rattle.std.specs.List.{flat_map}
use Rattle.std.proofs.lemmas.Bool.{cases_eq, cases_lt, eq-eqb}
use Rattle.std.proofs.lemmas.Bool.Decides.{nat_tests}
use Rattle.std.proofs.lemmas.List.{get_or-replicate, get_or-set_other, get_or-set_same, get_or_past, length-append, length-replicate}
use Rattle.std.proofs.lemmas.Nat.Bits.{bit_at-zero, bit_at_ones, bit_at_ones_above}
use Rattle.lanes.specs.Bits.{has_bit}
use Rattle.model.specs.Entries.{count_from, entries_of, entry_at, row_entries}
use Rattle.model.specs.Object.{Content, with_entry}
use Rattle.bitmap.specs.Bitmaps.{HasPlaces, column_entries, entries_down, held, place_of, row_part, word_in}
use Rattle.bitmap.proofs.ColumnLaws.{column_is}
use Rattle.bitmap.proofs.CountLaws.{entries_length, entries_most, one_in, one_more, one_of}
use Rattle.bitmap.proofs.PlaceLaws.{held_is, map_of, place_inside}

-- ---- bits

-- the bits of the words before the last, and of the last one, whose lowest are set
pub full_bit : (n at : ℕ)
    → has_bit (set (replicate {A = ℕ} (n / 64 + 1) 18446744073709551615) (n / 64) (2 ^ (n % 64) - 1)) at ≡ ltb at n
full_bit n at =
    let all = replicate {A = ℕ} (n / 64 + 1) 18446744073709551615 in
    let last = 2 ^ (n % 64) - 1 in
    let bits = set all (n / 64) last in
    let long : length all ≡ n / 64 + 1 = length-replicate {A = ℕ} (n / 64 + 1) 18446744073709551615 in
    elim (cases_eq (at / 64) (n / 64)) [
      | inl here ↦
          let is : get_or bits (at / 64) 0 ≡ last = ap (λ k. get_or bits k 0) here ∙ get_or-set_same all (n / 64) last 0 (omega arith) in
          elim (cases_lt (at % 64) (n % 64)) [
            | inl low ↦ let yes : ltb at n ≡ true = grind (arith, nat_tests) in rw (is, bit_at_ones (n % 64) (at % 64) low, yes) refl
            | inr high ↦ let no : ltb at n ≡ false = grind (arith, nat_tests) in rw (is, bit_at_ones_above (n % 64) (at % 64) high, no) refl
          ]
      | inr away ↦
          let kept : get_or bits (at / 64) 0 ≡ get_or all (at / 64) 0 = get_or-set_other all (n / 64) (at / 64) last 0 away in
          elim (cases_lt at n) [
            | inl inside ↦
                let is : get_or all (at / 64) 0 ≡ 18446744073709551615 = get_or-replicate (n / 64 + 1) (at / 64) 18446744073709551615 0 (omega arith) in
                let yes : ltb at n ≡ true = grind (arith, nat_tests) in
                rw (kept, is, bit_at_ones 64 (at % 64) (omega arith), yes) refl
            | inr behind ↦
                let is : get_or all (at / 64) 0 ≡ 0 = get_or_past all (at / 64) 0 (omega arith) in
                let no : ltb at n ≡ false = grind (arith, nat_tests) in
                rw (kept, is, bit_at-zero (at % 64), no) refl
          ]
    ]

-- a shift by less than the width of a word loses nothing
pub last_word : (n : ℕ) → 1 * 2 ^ (n % 64) % 18446744073709551616 - 1 ≡ 2 ^ (n % 64) - 1
last_word n =
    let less : 2 ^ (n % 64) < 2 ^ 64 = pow-lt {j = 64} (omega arith) in
    let small : 2 ^ (n % 64) < 18446744073709551616 = less in
    omega arith

-- ---- entries

row_full : (c : Content) (r first n past : ℕ) → ((k : ℕ) → k < past → one_of (c r k) ≡ 1) → first + n ≤ past
    → length (row_part c r first n) ≡ n
unfolding count_from
row_full c r first zero past each fits = refl
row_full c r first (suc n) past each fits =
    let rest = row_full c r (first + 1) n past each (omega arith) in
    let one = each first (omega arith) in
    let more = one_more r first (c r first) (row_part c r (first + 1) n) in
    omega arith

rows_full : (cols : ℕ) (c : Content) (first n past : ℕ)
    → ((r k : ℕ) → r < past → k < cols → one_of (c r k) ≡ 1) → first + n ≤ past
    → length (flat_map (row_entries cols c) (count_from first n)) ≡ n * cols
unfolding count_from
rows_full cols c first zero past each fits = omega arith
rows_full cols c first (suc n) past each fits =
    let rest = rows_full cols c (first + 1) n past each (omega arith) in
    let row : length (row_entries cols c first) ≡ cols = row_full c first 0 cols cols (λ k within. each first k (omega arith) within) (omega arith) in
    let both = length-append (row_entries cols c first) (flat_map (row_entries cols c) (count_from (first + 1) n)) in
    let product : suc n * cols ≡ cols + n * cols = omega arith in
    omega arith

-- an entry at each position: so many entries
pub entries_full : (rows cols : ℕ) (c : Content) → ((r k : ℕ) → r < rows → k < cols → one_of (c r k) ≡ 1)
    → length (entries_of rows cols c) ≡ rows * cols
unfolding entries_of
entries_full rows cols c each = rows_full cols c 0 rows rows each (omega arith)

-- so many entries: there is one at each position
some_bit : (b : Bool) → 1 ≤ bool_byte b → b ≡ true
some_bit true some = refl
some_bit false some = absurd (omega arith)

pub each_set : (rows cols count i j : ℕ) (bits words : List ℕ) → HasPlaces rows cols count bits words
    → count ≡ length words → i < rows → j < cols → has_bit bits (place_of cols i j) ≡ true
each_set rows cols count i j bits words h all row col =
    let old = held cols bits words in
    let new = with_entry old i j 0 in
    let both = entries_length rows cols i j new old (λ p q p_in q_in away. rw away refl) row col in
    let there : one_of (new i j) ≡ 1 = rw (eq-eqb i i refl, eq-eqb j j refl) refl in
    let most = entries_most rows cols new in
    let counted = h.counted in
    let each = h.word_each in
    let one = one_in bits words (place_of cols i j) in
    some_bit (has_bit bits (place_of cols i j)) (omega arith)

-- ---- columns

column_full : (f : ℕ → Option ℕ) (first : ℕ) (rows words : List ℕ) → length words ≡ length rows
    → ((k : ℕ) → k < length rows → get_or rows k 0 ≡ first + k)
    → ((k : ℕ) → k < length rows → f (first + k) ≡ Some (get_or words k 0))
    → entries_down rows words ≡ column_entries f first (length rows)
unfolding count_from
column_full f first [] words same rows_are words_are = refl
column_full f first (r ∷ rows) [] same rows_are words_are = absurd (omega arith)
column_full f first (r ∷ rows) (w ∷ words) same rows_are words_are =
    let row : r ≡ first + 0 = rows_are 0 (omega arith) in
    let at : first + 0 ≡ first = omega arith in
    let word : f first ≡ Some w = rw at at (words_are 0 (omega arith)) in
    let next : (k : ℕ) → first + suc k ≡ first + 1 + k = λ k. omega arith in
    let rest = column_full f (first + 1) rows words (omega arith)
    (λ k less. rows_are (suc k) (omega arith) ∙ next k)
    (λ k less. ap f (sym (next k)) ∙ words_are (suc k) (omega arith)) in
    rw (row, at, word) (ap (λ es. entry_at first 0 w ∷ es) rest)

-- the entries of a column with one in each row
pub column_listed : (rows cols count : ℕ) (bits words listed : List ℕ) → HasPlaces rows cols count bits words
    → count ≡ length words → cols ≡ 1 → length listed ≡ length words
    → ((k : ℕ) → k < length words → get_or listed k 0 ≡ k)
    → entries_down listed words ≡ entries_of rows cols (held cols bits words)
column_listed rows cols count bits words listed h all one long each =
    let long_rows : length words ≡ rows = let places = h.word_each in let whole = rw one at places in omega arith in
    let bit : (k : ℕ) → k < length words → has_bit bits k ≡ true = λ k less.
    let place : place_of cols k 0 ≡ k = rw one (omega arith) in
    subst (λ at. has_bit bits at ≡ true) place (each_set rows cols count k 0 bits words h all (omega arith) (omega arith)) in
    let from : (k : ℕ) → 0 + k ≡ k = λ k. omega arith in
    column_full (word_in bits words) 0 listed words (sym long)
    (λ k less. each k (omega arith) ∙ sym (from k))
    (λ k less. ap (word_in bits words) (from k) ∙ rw (bit k (omega arith)) refl)
    ∙ ap (column_entries (word_in bits words) 0) long
    ∙ sym (column_is rows cols bits words one h.word_each)

-- ---- bitmaps

-- the bits of all places are set, and no others
abbrev pub AreFull : ℕ → List ℕ → Type 0
AreFull places bits = (at : ℕ) → has_bit bits at ≡ ltb at places

set_inside : (rows cols i j : ℕ) (bits words : List ℕ) → AreFull (length words) bits → length words ≡ rows * cols
    → i < rows → j < cols → has_bit bits (place_of cols i j) ≡ true
set_inside rows cols i j bits words full each row col =
    let inside = place_inside rows cols i j row col in
    let yes : ltb (place_of cols i j) (length words) ≡ true = grind (arith, nat_tests) in
    full (place_of cols i j) ∙ yes

pub places_full : (rows cols : ℕ) (bits words : List ℕ) → rows * cols ≤ 2 ^ 24 → length words ≡ rows * cols
    → length bits ≡ length words / 64 + 1 → AreFull (length words) bits
    → HasPlaces rows cols (length words) bits words
places_full rows cols bits words few each long full = record {
  small = few;
  word_each = each;
  bit_each = long;
  none_behind = λ at past. let no : ltb at (length words) ≡ false = grind (arith, nat_tests) in full at ∙ no;
  counted = each ∙ sym (entries_full rows cols (held cols bits words) (λ r k row col.
      one_in bits words (place_of cols r k) ∙ rw (set_inside rows cols r k bits words full each row col) refl));
}

pub full_is : (rows cols : ℕ) (bits words : List ℕ) → AreFull (length words) bits → length words ≡ rows * cols
    → (i j : ℕ) → i < rows → j < cols → map_of rows cols bits words i j ≡ Some (get_or words (place_of cols i j) 0)
full_is rows cols bits words full each i j row col =
    held_is rows cols bits words i j row col ∙ rw (set_inside rows cols i j bits words full each row col) refl
