-- Worked values of sums of the words whose bits are set.
use Rattle.std.proofs.Common.{◌≡◌, ℕ, List, [], ◌∷◌, replicate, refl}
use Rattle.algebra.specs.declared.domain.Domain.TheVariants.{Int64, Uint64}
use Rattle.algebra.specs.declared.kinds.MonoidKind.TheVariants.{Max, Min, Plus}
use Rattle.lanes.specs.Bits.{present_from, present_words}
use Rattle.lanes.specs.Lists.{fold_of}

-- the first and the last of three words; the last is -2 in INT64
abbrev some_of_three : List ℕ
some_of_three = present_words (5 ∷ []) (7 ∷ 99 ∷ 18446744073709551614 ∷ [])

pub signed_sum : fold_of Plus Int64 some_of_three ≡ 5
unfolding present_from
signed_sum = refl

pub signed_least : fold_of Min Int64 some_of_three ≡ 18446744073709551614
unfolding present_from
signed_least = refl

pub unsigned_least : fold_of Min Uint64 some_of_three ≡ 7
unfolding present_from
unsigned_least = refl

pub unsigned_greatest : fold_of Max Uint64 some_of_three ≡ 18446744073709551614
unfolding present_from
unsigned_greatest = refl

-- of no words it is the identity
pub least_of_none : fold_of Min Int64 (present_words [] []) ≡ 9223372036854775807
unfolding present_from
least_of_none = refl

-- a word of bits that are all set, and one place behind it
pub sum_past_a_word : fold_of Plus Int64 (present_words (18446744073709551615 ∷ 1 ∷ []) (replicate 65 3)) ≡ 195
unfolding present_from
sum_past_a_word = refl
