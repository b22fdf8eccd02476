-- Parts of a row of a map, gathered by the bits of their columns.
use Rattle.std.proofs.Common.{◌≡◌, ◌≢◌, ℕ, zero, suc, ◌+◌, ◌-◌, ◌*◌, ◌<◌, ◌≤◌, cond, eqb, w64, List, [], ◌∷◌, ◌++◌, get_or, map, Some, None, refl, sym, ◌∙◌, ap, arith}
use Rattle.std.specs.Int.{bit_at, trailing_zeros}
use Rattle.std.specs.List.{filter_map}
use Rattle.std.specs.Option.{option_map}
use Rattle.std.proofs.lemmas.List.{append-nil, append_assoc, map-append}
use Rattle.std.proofs.lemmas.List.Elements.{filter_map-append}
use Rattle.std.proofs.lemmas.Nat.Bits.{bit_at-zero}
use Rattle.lanes.proofs.BitLaws.{AreLeft, next_left, without_bit}
use Rattle.bitmap.specs.Bitmaps.{row_part}
use Rattle.model.specs.declared.entry.Entry.{Entry}
use Rattle.model.specs.Entries.{count_from, entry_at}
use Rattle.model.specs.Object.{Content}

counted_append : (first m n : ℕ) → count_from first (m + n) ≡ count_from first m ++ count_from (first + m) n
unfolding count_from
counted_append first zero n = let same : first + 0 ≡ first = omega arith in let all : 0 + n ≡ n = omega arith in rw (same, all) refl
counted_append first (suc m) n =
    let all : suc m + n ≡ suc (m + n) = omega arith in
    let next : first + suc m ≡ first + 1 + m = omega arith in
    rw (all, next) (ap (λ xs. first ∷ xs) (counted_append (first + 1) m n))

part_append : (c : Content) (i first m n : ℕ) → row_part c i first (m + n) ≡ row_part c i first m ++ row_part c i (first + m) n
part_append c i first m n =
    let f = λ (k : ℕ). option_map (entry_at i k) (c i k) in
    ap (filter_map f) (counted_append first m n) ∙ filter_map-append f (count_from first m) (count_from (first + m) n)

pub part_zero : (c : Content) (i first : ℕ) → row_part c i first 0 ≡ []
unfolding count_from
part_zero c i first = refl

part_none : (c : Content) (i first n : ℕ) → ((k : ℕ) → first ≤ k → k < first + n → c i k ≡ None)
    → row_part c i first n ≡ []
unfolding count_from
part_none c i first zero none = refl
part_none c i first (suc n) none = rw (none first (omega arith) (omega arith)) (part_none c i (first + 1) n (λ k low high. none k (omega arith) (omega arith)))

part_one : (c : Content) (i at word : ℕ) → c i at ≡ Some word → row_part c i at 1 ≡ entry_at i at word ∷ []
unfolding count_from
part_one c i at word is = rw is refl

-- columns without an entry add none
part_longer : (c : Content) (i first m n : ℕ) → m ≤ n → ((k : ℕ) → first + m ≤ k → k < first + n → c i k ≡ None)
    → row_part c i first n ≡ row_part c i first m
part_longer c i first m n le none =
    let whole : n ≡ m + (n - m) = omega arith in
    ap (row_part c i first) whole ∙ part_append c i first m (n - m)
    ∙ rw (part_none c i (first + m) (n - m) (λ k low high. none k low (omega arith))) (append-nil (row_part c i first m))

part_up_to : (c : Content) (i first p q word : ℕ) → p ≤ q
    → ((k : ℕ) → first + p ≤ k → k < first + q → c i k ≡ None) → c i (first + q) ≡ Some word
    → row_part c i first (q + 1) ≡ row_part c i first p ++ entry_at i (first + q) word ∷ []
part_up_to c i first p q word le none is =
    part_append c i first q 1 ∙ rw (part_longer c i first p q le none, part_one c i (first + q) word is) refl

-- a field of the entries behind those that are there
pub put_more : (f : Entry → ℕ) (start now made : List ℕ) (before more after : List Entry) → now ≡ start ++ map f before
    → after ≡ before ++ more → made ≡ now ++ map f more → made ≡ start ++ map f after
put_more f start now made before more after here all put =
    put ∙ ap (λ xs. xs ++ map f more) here ∙ append_assoc start (map f before) (map f more)
    ∙ ap (λ xs. start ++ xs) (sym (ap (map f) all ∙ map-append f before more))

-- ---- 64 columns, one bit after another

-- bits say where 64 columns have an entry, and words what it is
abbrev pub AreBits : Content → ℕ → ℕ → ℕ → List ℕ → Type 0
AreBits c i first bits words = (k : ℕ) → k < 64 → c i (first + k) ≡ cond (eqb (bit_at bits k) 1) (Some (get_or words k 0)) None

no_entry : (c : Content) (i first bits k : ℕ) (words : List ℕ) → AreBits c i first bits words → first ≤ k
    → k < first + 64 → bit_at bits (k - first) ≡ 0 → c i k ≡ None
no_entry c i first bits k words are low high none =
    let same : first + (k - first) ≡ k = omega arith in
    ap (c i) (sym same) ∙ are (k - first) (omega arith) ∙ rw none refl

-- the lowest bit that is left is that of the next entry
pub next_entry : (c : Content) (i first bits left p : ℕ) (words : List ℕ) → AreBits c i first bits words
    → AreLeft bits left p → left ≢ 0 → left < 18446744073709551616
    → let place = trailing_zeros w64 left in (place < 64) × AreLeft bits (without_bit left place) (place + 1) × (p ≤ place) × (bit_at bits place ≡ 1) × (row_part c i first (place + 1) ≡ row_part c i first p ++ entry_at i (first + place) (get_or words place 0) ∷ [])
next_entry c i first bits left p words are here some fits =
    let next = next_left bits left p here some fits in
    let place = trailing_zeros w64 left in
    let word : c i (first + place) ≡ Some (get_or words place 0) = are place next.0 ∙ rw next.3 refl in (
      next.0,
      next.1,
      next.2,
      next.3,
      part_up_to c i first p place (get_or words place 0) next.2
          (λ k low high. no_entry c i first bits k words are (omega arith) (omega (arith, next.0)) (next.4 (k - first) (omega arith) (omega arith)))
          word,
    )

-- where no bit is left, all entries were found
pub none_left : (c : Content) (i first bits left p : ℕ) (words : List ℕ) → AreBits c i first bits words
    → AreLeft bits left p → left ≡ 0 → row_part c i first 64 ≡ row_part c i first p
none_left c i first bits left p words are here none =
    let le = here.p_le in
    part_longer c i first p 64 le
    (λ k low high. no_entry c i first bits k words are (omega arith) high (sym (here.high (k - first) (omega arith) (omega arith)) ∙ ap (λ n. bit_at n (k - first)) none ∙ bit_at-zero (k - first)))

-- ---- one part after another

pub next_part : (c : Content) (i part : ℕ)
    → row_part c i 0 (64 * (part + 1)) ≡ row_part c i 0 (64 * part) ++ row_part c i (64 * part) 64
next_part c i part =
    let whole : 64 * (part + 1) ≡ 64 * part + 64 = omega arith in
    let from : 0 + 64 * part ≡ 64 * part = omega arith in
    ap (row_part c i 0) whole ∙ part_append c i 0 (64 * part) 64 ∙ ap (λ n. row_part c i 0 (64 * part) ++ row_part c i n 64) from

-- the last part may reach behind the last column
pub all_parts : (c : Content) (i cols n : ℕ) → cols ≤ n → ((k : ℕ) → cols ≤ k → c i k ≡ None)
    → row_part c i 0 n ≡ row_part c i 0 cols
all_parts c i cols n le none = part_longer c i 0 cols n le (λ k low high. none k (omega arith))
