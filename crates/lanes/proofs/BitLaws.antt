-- Bits of places in lists of words.
use lib.Count.{ones_step}
use mir.Val.{bool_byte}
use Rattle.std.proofs.Common.{◌≡◌, ◌≢◌, ℕ, zero, suc, ◌+◌, ◌-◌, ◌*◌, ◌/◌, ◌%◌, ◌^◌, ◌<◌, ◌≤◌, ◌&&◌, ◌||◌, not, Bool, true, false, eqb, ltb, List, length, get_or, set, bit_and, bit_or, w64, refl, sym, ◌∙◌, ap, inl, inr, arith}
use Rattle.std.specs.Int.{bit_at, bit_not, trailing_zeros}
use Rattle.std.specs.Prelude.{count_ones}
use Rattle.std.specs.Int.Bits.{or_zero_r}
use Rattle.std.proofs.Math.Nat.{pow-suc}
use Rattle.std.proofs.lemmas.Bool.{cases_Bool, cases_eq, cases_lt, eq-eqb, ne_eqb}
use Rattle.std.proofs.lemmas.Bool.Decides.{nat_tests}
use Rattle.std.proofs.lemmas.List.{get_or-set_other, get_or-set_same, get_or_past}
use Rattle.std.proofs.lemmas.Nat.{and_le_l, pow_pos, shr-shr}
use Rattle.std.proofs.lemmas.Nat.Bits.{bit_at-suc, bit_at-trailing_zeros, bit_at-zero, bit_at_above, bit_at_and, bit_at_cat_high, bit_at_cat_low, bit_at_clear_other, bit_at_clear_same, bit_at_lowest, bit_at_or, bit_at_set_other, bit_at_set_same, same_from_bits_below}
use Rattle.lanes.specs.Bits.{has_bit}

abbrev with_bit : ℕ → ℕ → ℕ
with_bit n i = bit_or n (1 * 2 ^ i % 18446744073709551616)

pub bit_set : (xs : List ℕ) (at k : ℕ) → at < 64 * length xs
    → has_bit (set xs (at / 64) (with_bit (get_or xs (at / 64) 0) (at % 64))) k ≡ (eqb k at || has_bit xs k)
bit_set xs at k within =
    let old = get_or xs (at / 64) 0 in
    let new = with_bit old (at % 64) in
    let inside : at / 64 < length xs = omega arith in
    let small : at % 64 < 64 = omega arith in
    elim (cases_eq (k / 64) (at / 64)) [
      | inl word ↦
          let here : get_or (set xs (at / 64) new) (k / 64) 0 ≡ new = ap (λ p. get_or (set xs (at / 64) new) p 0) word ∙ get_or-set_same xs (at / 64) new 0 inside in
          let was : get_or xs (k / 64) 0 ≡ old = ap (λ p. get_or xs p 0) word in
          elim (cases_eq (k % 64) (at % 64)) [
            | inl same ↦
                let is : k ≡ at = omega arith in
                let set_there : bit_at new (k % 64) ≡ 1 = ap (bit_at new) same ∙ bit_at_set_same w64 old (at % 64) small in
                rw (here, set_there, eq-eqb k at is) refl
            | inr other ↦
                let is : k ≢ at = λ e. other (ap (λ n. n % 64) e) in
                let stays : bit_at new (k % 64) ≡ bit_at old (k % 64) = bit_at_set_other w64 old (at % 64) small (k % 64) other in
                rw (here, stays, was, ne_eqb k at is) refl
          ]
      | inr away ↦
          let is : k ≢ at = λ e. away (ap (λ n. n / 64) e) in
          rw (get_or-set_other xs (at / 64) (k / 64) new 0 away, ne_eqb k at is) refl
    ]

-- ---- a bit that is a mark

pub mark_here : (word k : ℕ) (mark : Bool) → k < 64 → bit_at word k ≡ 0
    → eqb (bit_at (bit_or word (bool_byte mark * 2 ^ k % 18446744073709551616)) k) 1 ≡ mark
mark_here word k true small none = rw (bit_at_set_same w64 word k small) refl
mark_here word k false small none = let nothing : 0 * 2 ^ k % 18446744073709551616 ≡ 0 = omega arith in rw (nothing, or_zero_r word, none) refl

pub mark_away : (word k at : ℕ) (mark : Bool) → k < 64 → at ≢ k
    → bit_at (bit_or word (bool_byte mark * 2 ^ k % 18446744073709551616)) at ≡ bit_at word at
mark_away word k at true small other = bit_at_set_other w64 word k small at other
mark_away word k at false small other = let nothing : 0 * 2 ^ k % 18446744073709551616 ≡ 0 = omega arith in rw (nothing, or_zero_r word) refl

-- ---- the lowest bit taken away

abbrev pub without_bit : ℕ → ℕ → ℕ
without_bit n i = bit_and n (bit_not w64 (1 * 2 ^ i % 18446744073709551616))

pub cleared_less : (n : ℕ) → n ≢ 0 → n < 18446744073709551616 → without_bit n (trailing_zeros w64 n) < n
cleared_less n some fits =
    let low = bit_at-trailing_zeros w64 n (omega arith) fits in
    let place = trailing_zeros w64 n in
    let le : without_bit n place ≤ n = and_le_l n (bit_not w64 (1 * 2 ^ place % 18446744073709551616)) in
    elim (cases_eq (without_bit n place) n) [
      | inl same ↦
          let gone : bit_at (without_bit n place) place ≡ 0 = bit_at_clear_same w64 n place low.0 in
          let there : bit_at (without_bit n place) place ≡ 1 = ap (λ m. bit_at m place) same ∙ low.1 in
          absurd (omega arith)
      | inr other ↦ omega arith
    ]

pub bit_cleared : (xs : List ℕ) (at k : ℕ) → at < 64 * length xs
    → has_bit (set xs (at / 64) (without_bit (get_or xs (at / 64) 0) (at % 64))) k ≡ (not (eqb k at) && has_bit xs k)
bit_cleared xs at k within =
    let old = get_or xs (at / 64) 0 in
    let new = without_bit old (at % 64) in
    let inside : at / 64 < length xs = omega arith in
    let small : at % 64 < 64 = omega arith in
    elim (cases_eq (k / 64) (at / 64)) [
      | inl word ↦
          let here : get_or (set xs (at / 64) new) (k / 64) 0 ≡ new = ap (λ p. get_or (set xs (at / 64) new) p 0) word ∙ get_or-set_same xs (at / 64) new 0 inside in
          let was : get_or xs (k / 64) 0 ≡ old = ap (λ p. get_or xs p 0) word in
          elim (cases_eq (k % 64) (at % 64)) [
            | inl same ↦
                let is : k ≡ at = omega arith in
                let gone : bit_at new (k % 64) ≡ 0 = ap (bit_at new) same ∙ bit_at_clear_same w64 old (at % 64) small in
                rw (here, gone, eq-eqb k at is) refl
            | inr other ↦
                let is : k ≢ at = λ e. other (ap (λ n. n % 64) e) in
                let stays : bit_at new (k % 64) ≡ bit_at old (k % 64) = bit_at_clear_other w64 old (at % 64) small (k % 64) (omega arith) other in
                rw (here, stays, was, ne_eqb k at is) refl
          ]
      | inr away ↦
          let is : k ≢ at = λ e. away (ap (λ n. n / 64) e) in
          rw (get_or-set_other xs (at / 64) (k / 64) new 0 away, ne_eqb k at is) refl
    ]

-- ---- bits taken from the lowest on

-- bits are left from some place on, and those before it are done
pub record AreLeft (bits left p : ℕ) : Type 0 where
  pub p_le : p ≤ 64
  pub low : (i : ℕ) → i < p → bit_at left i ≡ 0
  pub high : (i : ℕ) → p ≤ i → i < 64 → bit_at left i ≡ bit_at bits i

pub all_left : (bits : ℕ) → AreLeft bits bits 0
all_left bits = record { p_le = omega arith; low = λ i less. absurd (omega arith); high = λ i low high. refl }

-- the lowest bit that is left is the next one
pub next_left : (bits left p : ℕ) → AreLeft bits left p → left ≢ 0 → left < 18446744073709551616
    → let place = trailing_zeros w64 left in (place < 64) × AreLeft bits (without_bit left place) (place + 1) × (p ≤ place) × (bit_at bits place ≡ 1) × ((i : ℕ) → p ≤ i → i < place → bit_at bits i ≡ 0)
next_left bits left p here some fits =
    let first = bit_at-trailing_zeros w64 left (omega arith) fits in
    let place = trailing_zeros w64 left in
    let small : place < 64 = first.0 in
    let not_done : p ≤ place = elim (cases_Bool (ltb place p)) [
      | inl less ↦ let zero_there = here.low place (grind (arith, nat_tests)) in let one_there = first.1 in absurd (omega arith)
      | inr behind ↦ grind (arith, nat_tests)
    ] in (
      small,
      record {
        p_le = omega arith;
        low = λ i less.
            elim (cases_eq i place) [
              | inl same ↦ ap (bit_at (without_bit left place)) same ∙ bit_at_clear_same w64 left place small
              | inr other ↦ bit_at_clear_other w64 left place small i (omega arith) other ∙ first.2 i (omega arith)
            ];
        high = λ i low high. bit_at_clear_other w64 left place small i high (λ e. absurd (omega arith)) ∙ here.high i (omega arith) high;
      },
      not_done,
      sym (here.high place not_done small) ∙ first.1,
      (λ i low high. sym (here.high i low (omega arith)) ∙ first.2 i high),
    )

-- one less is the same above the lowest bit, which it lacks
one_less : (t n i : ℕ) → bit_at n t ≡ 1 → ((j : ℕ) → j < t → bit_at n j ≡ 0) → t < i → bit_at (n - 1) i ≡ bit_at n i
one_less t n zero there none less = absurd (omega arith)
one_less zero n (suc i) there none less =
    let odd : n % 2 ≡ 1 = sym (bit_at_lowest n) ∙ there in
    let half : (n - 1) / 2 ≡ n / 2 = omega arith in
    bit_at-suc (n - 1) i ∙ ap (λ m. bit_at m i) half ∙ sym (bit_at-suc n i)
one_less (suc t) n (suc i) there none less =
    let even : n % 2 ≡ 0 = sym (bit_at_lowest n) ∙ none 0 (omega arith) in
    let rest : bit_at (n / 2) t ≡ 1 = sym (bit_at-suc n t) ∙ there in
    let some : n / 2 ≢ 0 = λ zero_is. let no : bit_at (n / 2) t ≡ 0 = ap (λ m. bit_at m t) zero_is ∙ bit_at-zero t in absurd (omega arith) in
    let half : (n - 1) / 2 ≡ n / 2 - 1 = omega arith in
    bit_at-suc (n - 1) i ∙ ap (λ m. bit_at m i) half
    ∙ one_less t (n / 2) i rest (λ j low. sym (bit_at-suc n j) ∙ none (suc j) (omega arith)) (omega arith)
    ∙ sym (bit_at-suc n i)

lowest_gone : (t n : ℕ) → bit_at n t ≡ 1 → ((j : ℕ) → j < t → bit_at n j ≡ 0) → bit_at (n - 1) t ≡ 0
lowest_gone zero n there none =
    let odd : n % 2 ≡ 1 = sym (bit_at_lowest n) ∙ there in
    bit_at_lowest (n - 1) ∙ omega arith
lowest_gone (suc t) n there none =
    let even : n % 2 ≡ 0 = sym (bit_at_lowest n) ∙ none 0 (omega arith) in
    let rest : bit_at (n / 2) t ≡ 1 = sym (bit_at-suc n t) ∙ there in
    let some : n / 2 ≢ 0 = λ zero_is. let no : bit_at (n / 2) t ≡ 0 = ap (λ m. bit_at m t) zero_is ∙ bit_at-zero t in absurd (omega arith) in
    let half : (n - 1) / 2 ≡ n / 2 - 1 = omega arith in
    bit_at-suc (n - 1) t ∙ ap (λ m. bit_at m t) half
    ∙ lowest_gone t (n / 2) rest (λ j low. sym (bit_at-suc n j) ∙ none (suc j) (omega arith))

-- what a number has in common with the one before it is all but its lowest bit
pub lowest_cleared : (n : ℕ) → n ≢ 0 → n < 18446744073709551616
    → bit_and n (n - 1) ≡ without_bit n (trailing_zeros w64 n)
lowest_cleared n some fits =
    let place = trailing_zeros w64 n in
    let low = bit_at-trailing_zeros w64 n (omega arith) fits in
    let small : place < 64 = low.0 in
    let left = bit_and n (n - 1) in
    let right = without_bit n place in
    let left_le : left ≤ n = and_le_l n (n - 1) in
    let right_le : right ≤ n = and_le_l n (bit_not w64 (1 * 2 ^ place % 18446744073709551616)) in
    let left_fits : left < 18446744073709551616 = omega arith in
    let right_fits : right < 18446744073709551616 = omega arith in
    same_from_bits_below 64 left right left_fits right_fits
    (λ i within.
    let both = bit_at_and n (n - 1) i in
    elim (cases_eq i place) [
      | inl same ↦
          let there : bit_at n i ≡ 1 = ap (bit_at n) same ∙ low.1 in
          let gone : bit_at (n - 1) i ≡ 0 = ap (bit_at (n - 1)) same ∙ lowest_gone place n low.1 low.2 in
          let clear : bit_at right i ≡ 0 = ap (bit_at right) same ∙ bit_at_clear_same w64 n place small in
          omega arith
      | inr other ↦
          let kept : bit_at right i ≡ bit_at n i = bit_at_clear_other w64 n place small i within other in
          elim (cases_lt i place) [
            | inl below ↦ let none : bit_at n i ≡ 0 = low.2 i below in omega arith
            | inr above ↦ let same : bit_at (n - 1) i ≡ bit_at n i = one_less place n i low.1 low.2 (omega arith) in omega arith
          ]
    ])

-- ---- how many bits are set

-- a number without its lowest digits, so many
abbrev pub higher : ℕ → ℕ → ℕ
higher zero n = n
higher (suc k) n = higher k (n / 2)

higher_step : (k n : ℕ) → higher (suc k) n ≡ higher k n / 2
higher_step zero n = refl
higher_step (suc k) n = higher_step k (n / 2)

bit_is : (k n : ℕ) → bit_at n k ≡ higher k n % 2
bit_is zero n = bit_at_lowest n
bit_is (suc k) n = bit_at-suc n k ∙ bit_is k (n / 2)

-- the lowest digit that is left counts, where it is 1
pub ones_at : (k n : ℕ) → count_ones (higher k n) ≡ bit_at n k + count_ones (higher (suc k) n)
ones_at k n = ones_step (higher k n) ∙ rw (bit_is k n, higher_step k n) refl

fewer_ones : (j k n : ℕ) → count_ones (higher (k + j) n) ≤ count_ones (higher k n)
fewer_ones zero k n = let same : k + 0 ≡ k = omega arith in rw same (omega arith)
fewer_ones (suc j) k n =
    let more = fewer_ones j k n in
    let at = ones_at (k + j) n in
    let next : k + suc j ≡ suc (k + j) = omega arith in
    rw next (omega arith)

-- behind a bit that is set there is one fewer
pub ones_behind : (n p k : ℕ) → p ≤ k → bit_at n k ≡ 1
    → count_ones (higher (k + 1) n) + 1 ≤ count_ones (higher p n)
ones_behind n p k le there =
    let to : p + (k - p) ≡ k = omega arith in
    let more : count_ones (higher k n) ≤ count_ones (higher p n) = rw to at (fewer_ones (k - p) p n) in
    let at = ones_at k n in
    let next : k + 1 ≡ suc k = omega arith in
    rw next (omega arith)

-- a number of at most so many digits has none behind them
pub higher_none : (k n : ℕ) → n < 2 ^ k → higher k n ≡ 0
higher_none zero n less = omega arith
higher_none (suc k) n less = let double = pow-suc 2 k in higher_none k (n / 2) (omega arith)

-- ---- 64 bits from any place on

bit_down : (n s k : ℕ) → bit_at (n / 2 ^ s) k ≡ bit_at n (s + k)
bit_down n s k = ap (λ x. x % 2) (shr-shr n s k)

-- a shift up to the width of a word drops what doesn't fit
whole_up : (n m k : ℕ) → k < 64 → bit_at (n * 2 ^ m % 18446744073709551616) k ≡ bit_at (n * 2 ^ m + 0) k
whole_up n m k small =
    let all = n * 2 ^ m in
    let parts : all / 18446744073709551616 * 2 ^ 64 + all % 18446744073709551616 ≡ all + 0 = omega arith in
    sym (bit_at_cat_low (all / 18446744073709551616) 64 (all % 18446744073709551616) k small) ∙ ap (λ x. bit_at x k) parts

bit_up_low : (n m k : ℕ) → k < m → k < 64 → bit_at (n * 2 ^ m % 18446744073709551616) k ≡ 0
bit_up_low n m k less small = whole_up n m k small ∙ bit_at_cat_low n m 0 k less ∙ bit_at-zero k

bit_up_high : (n m k : ℕ) → m ≤ k → k < 64 → bit_at (n * 2 ^ m % 18446744073709551616) k ≡ bit_at n (k - m)
bit_up_high n m k le small = whole_up n m k small ∙ bit_at_cat_high n m 0 k (pow_pos m) le

-- the places of one word
first_bits : (xs : List ℕ) (at k : ℕ) → at % 64 + k < 64
    → bit_at (get_or xs (at / 64) 0 / 2 ^ (at % 64)) k ≡ bit_at (get_or xs ((at + k) / 64) 0) ((at + k) % 64)
first_bits xs at k here =
    let word : (at + k) / 64 ≡ at / 64 = omega arith in
    let place : (at + k) % 64 ≡ at % 64 + k = omega arith in
    bit_down (get_or xs (at / 64) 0) (at % 64) k ∙ sym (rw (word, place) refl)

-- a word has no bit behind its last
none_behind : (xs : List ℕ) (at k : ℕ) → get_or xs (at / 64) 0 < 18446744073709551616 → 64 ≤ at % 64 + k
    → bit_at (get_or xs (at / 64) 0 / 2 ^ (at % 64)) k ≡ 0
none_behind xs at k fits past = bit_down (get_or xs (at / 64) 0) (at % 64) k ∙ bit_at_above (get_or xs (at / 64) 0) 64 (at % 64 + k) fits past

-- all bits lie in one word, or in the last
pub bits_alone : (xs : List ℕ) (at k : ℕ) → k < 64 → get_or xs (at / 64) 0 < 18446744073709551616
    → (64 ≤ at % 64 + k → length xs ≤ at / 64 + 1)
    → eqb (bit_at (get_or xs (at / 64) 0 / 2 ^ (at % 64)) k) 1 ≡ has_bit xs (at + k)
bits_alone xs at k small fits last =
    elim (cases_lt (at % 64 + k) 64) [
      | inl here ↦ ap (λ b. eqb b 1) (first_bits xs at k here)
      | inr past ↦
          let word : (at + k) / 64 ≡ at / 64 + 1 = omega arith in
          let none : get_or xs ((at + k) / 64) 0 ≡ 0 = ap (λ w. get_or xs w 0) word ∙ get_or_past xs (at / 64 + 1) 0 (last past) in
          ap (λ b. eqb b 1) (none_behind xs at k fits past ∙ sym (ap (λ w. bit_at w ((at + k) % 64)) none ∙ bit_at-zero ((at + k) % 64)))
    ]

-- the bits of two words, one behind the other
pub bits_joined : (xs : List ℕ) (at k : ℕ) → k < 64 → get_or xs (at / 64) 0 < 18446744073709551616 → 0 < at % 64
    → eqb (bit_at (bit_or (get_or xs (at / 64) 0 / 2 ^ (at % 64)) (get_or xs (at / 64 + 1) 0 * 2 ^ (64 - at % 64) % 18446744073709551616)) k) 1 ≡ has_bit xs (at + k)
bits_joined xs at k small fits inside =
    let low = get_or xs (at / 64) 0 / 2 ^ (at % 64) in
    let next = get_or xs (at / 64 + 1) 0 in
    let up = 64 - at % 64 in
    let both = bit_at_or low (next * 2 ^ up % 18446744073709551616) k in
    elim (cases_lt (at % 64 + k) 64) [
      | inl here ↦
          let high : bit_at (next * 2 ^ up % 18446744073709551616) k ≡ 0 = bit_up_low next up k (omega arith) small in
          let is = first_bits xs at k here in
          ap (λ b. eqb b 1) (omega arith)
      | inr past ↦
          let word : (at + k) / 64 ≡ at / 64 + 1 = omega arith in
          let place : (at + k) % 64 ≡ k - up = omega arith in
          let none = none_behind xs at k fits past in
          let high : bit_at (next * 2 ^ up % 18446744073709551616) k ≡ bit_at (get_or xs ((at + k) / 64) 0) ((at + k) % 64) = bit_up_high next up k (omega arith) small ∙ sym (rw (word, place) refl) in
          ap (λ b. eqb b 1) (omega arith)
    ]
