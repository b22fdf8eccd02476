-- The next row of a column as a bitmap that has an entry, by the bits of 64 rows.
use Rattle.std.proofs.Common.{◌≡◌, ◌≢◌, ◌∙◌, List, ◌+◌, ◌*◌, ◌/◌, ◌%◌, ◌-◌, ◌<◌, ◌≤◌, ℕ, None, Option, Some, ap, arith, bit_and, eqb, false, is_some, ltb, refl, sym, w64}
use Rattle.std.specs.Int.{bit_at, bit_not, trailing_zeros}
use Rattle.std.specs.Int.Bits.{and_lt}
use Rattle.std.proofs.lemmas.Bool.Decides.{nat_tests}
use Rattle.std.proofs.lemmas.Nat.Bits.{bit_at-lt, bit_at-zero, bit_at_and, bit_at_not}
use Rattle.lanes.proofs.BitLaws.{AreLeft, next_left}
use Rattle.model.specs.declared.entry.Entry.{Entry}
use Rattle.model.specs.Entries.{word_at}

-- a word's bits from a place on
left_from : (word mask p : ℕ) → p ≤ 64 → mask < 18446744073709551616
    → ((k : ℕ) → k < 64 → eqb (bit_at mask k) 1 ≡ ltb k p) → AreLeft word (bit_and word (bit_not w64 mask)) p
left_from word mask p le fits lowest = record {
  p_le = le;
  low = λ i less.
      let here = lowest i (omega arith) in
      let one : bit_at mask i ≡ 1 = grind (arith, nat_tests) in
      let both = bit_at_and word (bit_not w64 mask) i in
      let other = bit_at_not w64 mask i fits (omega arith) in
      grind (arith, nat_tests);
  high = λ i low high.
      let here = lowest i high in
      let small = bit_at-lt mask i in
      let bit_small = bit_at-lt word i in
      let zero : bit_at mask i ≡ 0 = grind (arith, nat_tests) in
      let both = bit_at_and word (bit_not w64 mask) i in
      let other = bit_at_not w64 mask i fits high in
      grind (arith, nat_tests);
}

none_of : (o : Option ℕ) → is_some o ≡ false → o ≡ None
none_of None none = refl
none_of (Some x) none = absurd (cc)

module _ (entries : List Entry) (word mask row : ℕ) (word_fits : word < 18446744073709551616)
    (fits : mask < 18446744073709551616)
    (rows : (k : ℕ) → k < 64 → eqb (bit_at word k) 1 ≡ is_some (word_at entries (64 * (row / 64) + k) 0))
    (lowest : (k : ℕ) → k < 64 → eqb (bit_at mask k) 1 ≡ ltb k (row % 64)) where
  abbrev left : ℕ
  left = bit_and word (bit_not w64 mask)

  nothing_at : (i : ℕ) → i < 64 → bit_at word i ≡ 0 → word_at entries (64 * (row / 64) + i) 0 ≡ None
  nothing_at i high zero = none_of (word_at entries (64 * (row / 64) + i) 0) (sym (rows i high) ∙ rw zero refl)

  nothing_before : (q : ℕ) → q ≤ 64 → ((i : ℕ) → row % 64 ≤ i → i < q → bit_at word i ≡ 0) → (k : ℕ) → row ≤ k
      → k < row / 64 * 64 + q → word_at entries k 0 ≡ None
  nothing_before q le zero k low high =
      let i = k - 64 * (row / 64) in
      let at : 64 * (row / 64) + i ≡ k = omega arith in
      ap (λ n. word_at entries n 0) (sym at) ∙ nothing_at i (omega arith) (zero i (omega arith) (omega arith))

  -- the lowest bit that is left is that of the next row
  pub next_found : left ≢ 0
      → (row ≤ row / 64 * 64 + trailing_zeros w64 left)
      × ((k : ℕ) → row ≤ k → k < row / 64 * 64 + trailing_zeros w64 left → word_at entries k 0 ≡ None)
  next_found some =
      let not_mask : bit_not w64 mask < 18446744073709551616 = omega arith in
      let small : left < 18446744073709551616 = and_lt 64 word (bit_not w64 mask) word_fits not_mask in
      let next = next_left word left (row % 64) (left_from word mask (row % 64) (omega arith) fits lowest) some small in
      let place : row % 64 ≤ trailing_zeros w64 left = next.2 in
      let below : trailing_zeros w64 left < 64 = next.0 in
      (omega arith, nothing_before (trailing_zeros w64 left) (omega arith) next.4)

  -- where none is left, no row up to the end of the 64 has an entry
  pub none_found : left ≡ 0 → (k : ℕ) → row ≤ k → k < row / 64 * 64 + 64 → word_at entries k 0 ≡ None
  none_found none =
      let here = left_from word mask (row % 64) (omega arith) fits lowest in
      nothing_before 64 (omega arith) (λ i low high. sym (here.high i low high) ∙ ap (λ n. bit_at n i) none ∙ bit_at-zero i)
