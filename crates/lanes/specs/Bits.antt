-- Lists of bits, 64 in a word, which say at which places of other lists there is something.
use Rattle.std.specs.Prelude.{ℕ, ◌≡◌, ◌<◌, ◌+◌, ◌/◌, ◌%◌, ◌==◌, ◌&&◌, if◌then◌else◌}
use Rattle.std.specs.Prelude.{Bool, List, [], ◌∷◌, length, slice_index}
use Rattle.std.specs.Int.{bit_at}
use Rattle.algebra.specs.declared.domain.Domain.{Domain}
use Rattle.algebra.specs.declared.kinds.BinaryKind.{BinaryKind}
use Rattle.algebra.specs.Operators.{answer_domain, eval_of}
use Rattle.algebra.specs.Value.{cast_of}

-- whether the bit of a place is set; 64 places have theirs in one word
abbrev pub has_bit : List ℕ → ℕ → Bool
has_bit bits at = bit_at (slice_index bits (at / 64)) (at % 64) == 1

-- the words whose bits are set, of words from a place on
unfoldable pub present_from : List ℕ → ℕ → List ℕ → List ℕ
present_from bits at [] = []
present_from bits at (word ∷ words) =
    if has_bit bits at then word ∷ present_from bits (at + 1) words else present_from bits (at + 1) words

-- the words of a list whose bits are set, in order
abbrev pub present_words : List ℕ → List ℕ → List ℕ
present_words bits words = present_from bits 0 words

-- what a union has at a place, by whether the left and the right bit are set: where both are, what the operator gives;
-- where one is, its word, cast to the domain of the answer; elsewhere 0
abbrev pub united_at : BinaryKind → Domain → Bool → Bool → ℕ → ℕ → ℕ
united_at kind d left right a b =
    if left && right then eval_of kind d a b
    else if left then cast_of d (answer_domain kind d) a
    else if right then cast_of d (answer_domain kind d) b
    else 0

-- each word is what a union has in its place, by whether the left and the right bits of the place are set
unfoldable pub AreUnited : BinaryKind → Domain → List ℕ → List ℕ → List ℕ → List ℕ → List ℕ → Type 0
AreUnited kind d left right a b words = (k : ℕ) → k < length words
    → slice_index words k ≡ united_at kind d (has_bit left k) (has_bit right k) (slice_index a k) (slice_index b k)
