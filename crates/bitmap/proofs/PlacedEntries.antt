-- The entries of a shape, place by place: their words in order, and how many they are.
use mir.Val.{bool_byte}
use Rattle.std.proofs.Common.{◌≡◌, ℕ, zero, suc, ◌+◌, ◌-◌, ◌*◌, ◌/◌, ◌<◌, ◌≤◌, true, false, cond, eqb, List, [], ◌∷◌, ◌++◌, length, get_or, map, take, count_ones, Option, Some, None, refl, sym, ◌∙◌, ap, arith}
use Rattle.std.specs.Int.{bit_at}
use Rattle.std.specs.Option.{option_map}
use Rattle.std.specs.List.{cons_option, flat_map, sum}
use Rattle.std.proofs.lemmas.List.{length-append, length-map, map-append, take_all}
use Rattle.std.proofs.lemmas.Nat.{ones-le}
use Rattle.std.proofs.lemmas.Nat.Bits.{bit_at-lt}
use Rattle.lanes.proofs.BitLaws.{higher, higher_none, ones_at}
use Rattle.lanes.proofs.PresentLaws.{ones_more}
use Rattle.lanes.specs.Bits.{has_bit, present_from, present_words}
use Rattle.model.specs.declared.entry.Entry.{Entry}
use Rattle.model.specs.Entries.{count_from, entries_of, entry_at, row_entries}
use Rattle.bitmap.specs.Bitmaps.{column_entries, held, row_part, word_in}
use Rattle.bitmap.proofs.ColumnLaws.{all_places, bit_here, column_append, column_zero, next_places}
use Rattle.bitmap.proofs.CountLaws.{count_of, one_in, one_more}

abbrev pub words_of : List Entry → List ℕ
words_of es = map (λ e. e.word) es

-- ---- rows one behind the other

word_first : (r k at : ℕ) (o : Option ℕ) (es others : List Entry) → words_of es ≡ words_of others
    → words_of (cons_option (option_map (entry_at r k) o) es) ≡ words_of (cons_option (option_map (entry_at at 0) o) others)
word_first r k at None es others same = same
word_first r k at (Some w) es others same = ap (λ ws. w ∷ ws) same

row_placed : (cols r : ℕ) (bits words : List ℕ) (first n : ℕ)
    → words_of (row_part (held cols bits words) r first n) ≡ words_of (column_entries (word_in bits words) (r * cols + first) n)
unfolding count_from
row_placed cols r bits words first zero = refl
row_placed cols r bits words first (suc n) =
    let at = r * cols + first in
    let next : r * cols + first + 1 ≡ r * cols + (first + 1) = omega arith in
    let rest = row_placed cols r bits words (first + 1) n in
    let others : words_of (row_part (held cols bits words) r (first + 1) n) ≡ words_of (column_entries (word_in bits words) (at + 1) n) = rest ∙ ap (λ k. words_of (column_entries (word_in bits words) k n)) (sym next) in
    word_first r first at (word_in bits words at) (row_part (held cols bits words) r (first + 1) n) (column_entries (word_in bits words) (at + 1) n) others

rows_placed : (cols : ℕ) (bits words : List ℕ) (first n : ℕ)
    → words_of (flat_map (row_entries cols (held cols bits words)) (count_from first n)) ≡ words_of (column_entries (word_in bits words) (first * cols) (n * cols))
unfolding count_from
rows_placed cols bits words first zero = let none : 0 * cols ≡ 0 = omega arith in rw none refl
rows_placed cols bits words first (suc n) =
    let f = word_in bits words in
    let c = held cols bits words in
    let product : suc n * cols ≡ cols + n * cols = omega arith in
    let next : (first + 1) * cols ≡ first * cols + cols = omega arith in
    let start : first * cols + 0 ≡ first * cols = omega arith in
    let row : words_of (row_entries cols c first) ≡ words_of (column_entries f (first * cols) cols) = row_placed cols first bits words 0 cols ∙ ap (λ k. words_of (column_entries f k cols)) start in
    let rest : words_of (flat_map (row_entries cols c) (count_from (first + 1) n)) ≡ words_of (column_entries f (first * cols + cols) (n * cols)) = rows_placed cols bits words (first + 1) n ∙ ap (λ k. words_of (column_entries f k (n * cols))) next in
    let parts : column_entries f (first * cols) (suc n * cols) ≡ column_entries f (first * cols) cols ++ column_entries f (first * cols + cols) (n * cols) = ap (column_entries f (first * cols)) product ∙ column_append f (first * cols) cols (n * cols) in
    map-append (λ (e : Entry). e.word) (row_entries cols c first) (flat_map (row_entries cols c) (count_from (first + 1) n))
    ∙ ap (λ ws. ws ++ words_of (flat_map (row_entries cols c) (count_from (first + 1) n))) row
    ∙ ap (λ ws. words_of (column_entries f (first * cols) cols) ++ ws) rest
    ∙ sym (ap words_of parts ∙ map-append (λ (e : Entry). e.word) (column_entries f (first * cols) cols) (column_entries f (first * cols + cols) (n * cols)))

-- the words of the entries are those at the places, in order
pub placed_words : (rows cols : ℕ) (bits words : List ℕ) → length words ≡ rows * cols
    → words_of (entries_of rows cols (held cols bits words)) ≡ words_of (column_entries (word_in bits words) 0 (length words))
unfolding entries_of
placed_words rows cols bits words each =
    let f = word_in bits words in
    let from : 0 * cols ≡ 0 = omega arith in
    rows_placed cols bits words 0 rows ∙ ap (λ k. words_of (column_entries f k (rows * cols))) from ∙ ap (λ n. words_of (column_entries f 0 n)) (sym each)

-- ---- words whose bits are set

present_placed : (bits words rest : List ℕ) (at : ℕ) → ((k : ℕ) → get_or words (at + k) 0 ≡ get_or rest k 0)
    → words_of (column_entries (word_in bits words) at (length rest)) ≡ present_from bits at rest
unfolding count_from present_from
present_placed bits words [] at same = refl
present_placed bits words (w ∷ rest) at same =
    let f = word_in bits words in
    let first : at + 0 ≡ at = omega arith in
    let here : get_or words at 0 ≡ w = ap (λ k. get_or words k 0) (sym first) ∙ same 0 in
    let others = present_placed bits words rest (at + 1) (λ k. let next : at + 1 + k ≡ at + suc k = omega arith in ap (λ n. get_or words n 0) next ∙ same (suc k)) in
    elim (has_bit bits at) as (λ b. words_of (cons_option (option_map (entry_at at 0) (cond b (Some (get_or words at 0)) None)) (column_entries f (at + 1) (length rest))) ≡ cond b (w ∷ present_from bits (at + 1) rest) (present_from bits (at + 1) rest)) [
      | true ↦ ap (λ v. v ∷ words_of (column_entries f (at + 1) (length rest))) here ∙ ap (λ ws. w ∷ ws) others
      | false ↦ others
    ]

pub present_are : (rows cols : ℕ) (bits words : List ℕ) → length words ≡ rows * cols
    → present_words bits words ≡ words_of (entries_of rows cols (held cols bits words))
present_are rows cols bits words each =
    let all = present_placed bits words words 0 (λ k. let same : 0 + k ≡ k = omega arith in ap (λ n. get_or words n 0) same) in
    sym (placed_words rows cols bits words each ∙ all)

-- ---- how many there are

pub count_placed : (rows cols : ℕ) (bits words : List ℕ) → length words ≡ rows * cols
    → count_of rows cols bits words ≡ length (column_entries (word_in bits words) 0 (length words))
count_placed rows cols bits words each =
    sym (length-map (entries_of rows cols (held cols bits words)) (λ e. e.word)) ∙ ap length (placed_words rows cols bits words each) ∙ length-map (column_entries (word_in bits words) 0 (length words)) (λ e. e.word)

same_many : (bits words words' : List ℕ) (first n : ℕ)
    → length (column_entries (word_in bits words') first n) ≡ length (column_entries (word_in bits words) first n)
unfolding count_from
same_many bits words words' first zero = refl
same_many bits words words' first (suc n) =
    let rest = same_many bits words words' (first + 1) n in
    let news = one_more first 0 (word_in bits words' first) (column_entries (word_in bits words') (first + 1) n) in
    let olds = one_more first 0 (word_in bits words first) (column_entries (word_in bits words) (first + 1) n) in
    let new_one = one_in bits words' first in
    let old_one = one_in bits words first in
    omega arith

-- other words leave their number
pub count_kept : (rows cols : ℕ) (bits words words' : List ℕ) → length words ≡ rows * cols → length words' ≡ rows * cols
    → count_of rows cols bits words' ≡ count_of rows cols bits words
count_kept rows cols bits words words' each each' =
    count_placed rows cols bits words' each'
    ∙ ap (λ n. length (column_entries (word_in bits words') 0 n)) (each' ∙ sym each)
    ∙ same_many bits words words' 0 (length words)
    ∙ sym (count_placed rows cols bits words each)

bit_byte : (b : ℕ) → b < 2 → bool_byte (eqb b 1) ≡ b
bit_byte zero small = refl
bit_byte (suc zero) small = refl
bit_byte (suc (suc b)) small = absurd (omega arith)

-- the entries at the 64 places of a word of bits, from the k-th on
word_ones : (bits words : List ℕ) (at k m : ℕ) → k + m ≤ 64
    → length (column_entries (word_in bits words) (64 * at + k) m) + count_ones (higher (k + m) (get_or bits at 0)) ≡ count_ones (higher k (get_or bits at 0))
unfolding count_from
word_ones bits words at k zero le = let same : k + 0 ≡ k = omega arith in rw same (omega arith)
word_ones bits words at k (suc m) le =
    let word = get_or bits at 0 in
    let f = word_in bits words in
    let place = 64 * at + k in
    let same : place - 64 * at ≡ k = omega arith in
    let bit : has_bit bits place ≡ eqb (bit_at word k) 1 = bit_here bits at place (omega arith) (omega arith) ∙ ap (λ i. eqb (bit_at word i) 1) same in
    let one = one_in bits words place ∙ ap bool_byte bit ∙ bit_byte (bit_at word k) (bit_at-lt word k) in
    let more = one_more place 0 (f place) (column_entries f (place + 1) m) in
    let next : place + 1 ≡ 64 * at + (k + 1) = omega arith in
    let after : k + 1 ≡ suc k = omega arith in
    let past : k + 1 + m ≡ k + suc m = omega arith in
    let rest = word_ones bits words at (k + 1) m (omega arith) in
    let others : length (column_entries f (place + 1) m) + count_ones (higher (k + suc m) word) ≡ count_ones (higher (k + 1) word) = ap (λ n. length (column_entries f n m) + count_ones (higher (k + suc m) word)) next ∙ ap (λ n. length (column_entries f (64 * at + (k + 1)) m) + count_ones (higher n word)) (sym past) ∙ rest in
    let here : count_ones (higher k word) ≡ bit_at word k + count_ones (higher (k + 1) word) = ones_at k word ∙ ap (λ n. bit_at word k + count_ones (higher n word)) (sym after) in
    omega arith

ones_before : (bits words : List ℕ) (n : ℕ) → n ≤ length bits → ((k : ℕ) → get_or bits k 0 < 18446744073709551616)
    → length (column_entries (word_in bits words) 0 (64 * n)) ≡ sum (map count_ones (take n bits))
ones_before bits words zero le small = ap length (column_zero (word_in bits words) 0)
ones_before bits words (suc n) le small =
    let f = word_in bits words in
    let word = get_or bits n 0 in
    let rest = ones_before bits words n (omega arith) small in
    let one : suc n ≡ n + 1 = omega arith in
    let start : 64 * n + 0 ≡ 64 * n = omega arith in
    let here = ap (λ k. length (column_entries f k 64) + count_ones (higher 64 word)) (sym start) ∙ word_ones bits words n 0 64 (omega arith) in
    let none : count_ones 0 ≤ 0 = ones-le 0 0 (omega arith) in
    let behind : count_ones (higher 64 word) ≡ 0 = ap (λ n. count_ones n) (higher_none 64 word (small n)) ∙ omega arith in
    let both = ap length (next_places f n) ∙ length-append (column_entries f 0 (64 * n)) (column_entries f (64 * n) 64) in
    let more = ones_more bits n (omega arith) in
    rw one (omega arith)

-- as many entries as bits are set
pub ones_are : (rows cols : ℕ) (bits words : List ℕ) → length words ≡ rows * cols
    → length bits ≡ length words / 64 + 1 → ((at : ℕ) → length words ≤ at → has_bit bits at ≡ false)
    → ((k : ℕ) → get_or bits k 0 < 18446744073709551616)
    → sum (map count_ones bits) ≡ count_of rows cols bits words
ones_are rows cols bits words each long none small =
    let all = ones_before bits words (length bits) (omega arith) small in
    let places = ap length (all_places bits words (64 * length bits) (omega arith) none) in
    ap (λ xs. sum (map count_ones xs)) (sym (take_all (length bits) bits (omega arith))) ∙ sym all ∙ places ∙ sym (count_placed rows cols bits words each)
