-- The parts of a list, by the first place at which a test passes.
use Rattle.std.proofs.Common.{◌≡◌, ℕ, ◌+◌, ◌≤◌, Bool, List, [], ◌∷◌, length, take, drop, Some, None, arith, nat_lt, ◌==◌, false, refl, inl, inr, ltb-false}
use Rattle.std.proofs.lemmas.Bool.Decides.{nat_tests}
use Rattle.std.specs.List.{position, position_or_len, slice_split, count_by}
use Rattle.model.specs.Grammar.{semiring_name_of, dotted_of}
use Rattle.std.proofs.lemmas.Bool.{ltb-true, cases_Bool}
use Rattle.std.proofs.lemmas.Option.{cond_some}
use Rattle.std.proofs.lemmas.List.Splits.{slice_split_first, slice_split_none, length-slice_split}
use Rattle.std.proofs.lemmas.List.Sums.{fails_before_first}

-- the first part stands before the first place, and the others are those of what stands after it
pub first_part : {X : Type 0} (p : X → Bool) (xs : List X) (d : X) (n : ℕ) → position p xs ≡ Some n
    → slice_split p xs ≡ take n xs ∷ slice_split p (drop (n + 1) xs)
first_part p xs d n e =
    let parts = cond_some (nat_lt (position_or_len p xs) (length xs)) (position_or_len p xs) n e in
    rw (← parts.1) (slice_split_first p xs d (ltb-true _ _ parts.0))

-- where the test passes nowhere, there is one part
pub one_part : {X : Type 0} (p : X → Bool) (xs : List X) → position p xs ≡ None → slice_split p xs ≡ xs ∷ []
one_part p xs e = elim (cases_Bool (nat_lt (position_or_len p xs) (length xs))) [
  | inl t ↦ let bad : Some (position_or_len p xs) ≡ None = rw t at e in cc
  | inr f ↦ let past : length xs ≤ position_or_len p xs = ltb-false _ _ f in slice_split_none p xs (λ k d inside. fails_before_first p xs k d (omega arith))
]

-- a word of four parts or more names no semiring
pub semiring_name_of-four_parts : (word rest last others first second third : List ℕ)
    → slice_split (λ b. b == 46) word ≡ first ∷ slice_split (λ b. b == 46) rest
    → slice_split (λ b. b == 46) rest ≡ second ∷ slice_split (λ b. b == 46) last
    → slice_split (λ b. b == 46) last ≡ third ∷ slice_split (λ b. b == 46) others
    → semiring_name_of word ≡ None
unfolding semiring_name_of
semiring_name_of-four_parts word rest last others first second third e f g =
    let count : length (slice_split (λ b. b == 46) others) ≡ count_by (λ b. b == 46) others + 1 = length-slice_split (λ b. b == 46) others in
    let four : (length (slice_split (λ b. b == 46) word) == 3) ≡ false = rw (e, f, g) (grind (arith, nat_tests)) in
    rw four refl

-- a word of three parts or more is no name and domain
pub dotted_of-three_parts : (word rest others first second : List ℕ)
    → slice_split (λ b. b == 46) word ≡ first ∷ slice_split (λ b. b == 46) rest
    → slice_split (λ b. b == 46) rest ≡ second ∷ slice_split (λ b. b == 46) others
    → dotted_of word ≡ None
unfolding dotted_of
dotted_of-three_parts word rest others first second e f =
    let count : length (slice_split (λ b. b == 46) others) ≡ count_by (λ b. b == 46) others + 1 = length-slice_split (λ b. b == 46) others in
    let three : (length (slice_split (λ b. b == 46) word) == 2) ≡ false = rw (e, f) (grind (arith, nat_tests)) in
    rw three refl
