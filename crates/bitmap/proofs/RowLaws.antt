-- What stands at 64 columns of a row, by a word of bits and the words from a place on.
use Rattle.std.proofs.Common.{◌≡◌, ℕ, ◌+◌, ◌-◌, ◌*◌, ◌<◌, true, false, cond, ◌&&◌, eqb, ltb, List, length, get_or, take, drop, bit_and, Some, None, refl, ◌∙◌, ap, inl, inr, arith}
use Rattle.std.specs.Int.{bit_at}
use Rattle.std.proofs.lemmas.Bool.{cases_lt}
use Rattle.std.proofs.lemmas.Bool.Decides.{nat_tests}
use Rattle.std.proofs.lemmas.List.{get_or-drop, length-drop, take_all}
use Rattle.std.proofs.lemmas.Nat.Bits.{bit_at-lt, bit_at_and}
use Rattle.lanes.specs.Bits.{has_bit}
use Rattle.bitmap.specs.Bitmaps.{place_of, word_in}
use Rattle.bitmap.proofs.KernelLaws.{min_one}
use Rattle.bitmap.proofs.PlaceLaws.{held_is, map_of, none_outside, place_inside}

-- a list from a place on, as the code cuts it
abbrev pub rest_of : ℕ → List ℕ → List ℕ
rest_of at words = take (length words - at) (drop at words)

rest_is : (at : ℕ) (words : List ℕ) → rest_of at words ≡ drop at words
rest_is at words = take_all (length words - at) (drop at words) (let long = length-drop at words in omega arith)

rest_at : (at k : ℕ) (words : List ℕ) → get_or (rest_of at words) k 0 ≡ get_or words (at + k) 0
rest_at at k words = ap (λ ws. get_or ws k 0) (rest_is at words) ∙ get_or-drop at words k 0

bit_both : (a b k : ℕ) → eqb (bit_at (bit_and a b) k) 1 ≡ (eqb (bit_at a k) 1 && eqb (bit_at b k) 1)
bit_both a b k = ap (λ n. eqb n 1) (bit_at_and a b k) ∙ min_one (bit_at a k) (bit_at b k) (bit_at-lt a k) (bit_at-lt b k)

-- the bits of 64 columns from a position on: those behind the last column are cleared
pub row_bits : (bits now : List ℕ) (from low at place n : ℕ) → now ≡ bits → place ≡ at
    → ((k : ℕ) → k < 64 → eqb (bit_at from k) 1 ≡ has_bit now (place + k))
    → ((k : ℕ) → k < 64 → eqb (bit_at low k) 1 ≡ ltb k n) → (k : ℕ) → k < 64
    → eqb (bit_at (bit_and from low) k) 1 ≡ (has_bit bits (at + k) && ltb k n)
row_bits bits now from low at place n same is each less k small =
    let here : eqb (bit_at from k) 1 ≡ has_bit bits (at + k) = each k small ∙ ap (λ bs. has_bit bs (place + k)) same ∙ ap (λ p. has_bit bits (p + k)) is in
    bit_both from low k ∙ rw (here, less k small) refl

pub row_held : (rows cols i j k word : ℕ) (bits words : List ℕ) → i < rows → j < cols
    → eqb (bit_at word k) 1 ≡ (has_bit bits (place_of cols i j + k) && ltb k (cols - j))
    → map_of rows cols bits words i (j + k) ≡ cond (eqb (bit_at word k) 1) (Some (get_or (rest_of (place_of cols i j) words) k 0)) None
row_held rows cols i j k word bits words i_in j_in is =
    elim (cases_lt k (cols - j)) [
      | inl inside ↦
          let place : place_of cols i (j + k) ≡ place_of cols i j + k = omega arith in
          let yes : ltb k (cols - j) ≡ true = grind (arith, nat_tests) in
          let bit : eqb (bit_at word k) 1 ≡ has_bit bits (place_of cols i j + k) = is ∙ rw yes (grind (arith, nat_tests)) in
          held_is rows cols bits words i (j + k) i_in (omega arith) ∙ ap (word_in bits words) place
          ∙ rw (bit, rest_at (place_of cols i j) k words) refl
      | inr past ↦
          let no : ltb k (cols - j) ≡ false = grind (arith, nat_tests) in
          let bit : eqb (bit_at word k) 1 ≡ false = is ∙ rw no (grind (arith, nat_tests)) in
          let out : (ltb i rows && ltb (j + k) cols) ≡ false = grind (arith, nat_tests) in
          none_outside rows cols bits words i (j + k) out ∙ rw bit refl
    ]

-- a bit that is set has its word
pub row_inside : (rows cols i j k word : ℕ) (bits words : List ℕ) → length words ≡ rows * cols → i < rows → j < cols
    → eqb (bit_at word k) 1 ≡ (has_bit bits (place_of cols i j + k) && ltb k (cols - j)) → bit_at word k ≡ 1
    → k < length (rest_of (place_of cols i j) words)
row_inside rows cols i j k word bits words each i_in j_in is there =
    let less : k < cols - j = grind (arith, nat_tests) in
    let place : place_of cols i (j + k) ≡ place_of cols i j + k = omega arith in
    let under = place_inside rows cols i (j + k) i_in (omega arith) in
    let long = ap length (rest_is (place_of cols i j) words) ∙ length-drop (place_of cols i j) words in
    omega arith
