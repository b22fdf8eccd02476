-- Words that are made of those of others, place by place.
use Rattle.std.specs.Prelude.{ℕ, ◌≡◌, ◌<◌, ◌+◌, ◌*◌, ◌/◌, ◌%◌, ◌==◌, length, slice_index}
use Rattle.std.specs.Int.{bit_at}
use Rattle.algebra.specs.IndexOperators.{index_eval_of, passes}
use Rattle.algebra.specs.Operators.{eval_of}
use Rattle.lanes.specs.Bits.{has_bit, united_at}
use Rattle.lanes.specs.Functions.{word_made}
use Rattle.bitmap.specs.declared.making.Words.{Words}
use Rattle.bitmap.specs.declared.making.Words.TheVariants as made

-- how many there are
abbrev pub places_of : Words → ℕ
places_of (made.Copied a) = length a.now
places_of (made.Mapped function a) = length a.now
places_of (made.Answers op s cols a) = length a.now
places_of (made.Passing op s cols a) = length a.now / 64 + 1
places_of (made.Zipped op a b) = length a.now
places_of (made.United op left right a b) = length a.now

-- whether all lists reach that far, and rows have columns
abbrev pub Fits : Words → Type 0
Fits (made.Copied a) = Unit
Fits (made.Mapped function a) = Unit
Fits (made.Answers op s cols a) = 0 < length a.now → 0 < cols
Fits (made.Passing op s cols a) = 0 < length a.now → 0 < cols
Fits (made.Zipped op a b) = length b.now ≡ length a.now
Fits (made.United op left right a b) =
    (length b.now ≡ length a.now) × (length a.now < 64 * length left.now) × (length a.now < 64 * length right.now)

-- what the word in a place is; of bits, where there is a word for each
abbrev pub IsMade : Words → ℕ → ℕ → Type 0
IsMade (made.Copied a) k word = word ≡ slice_index a.now k
IsMade (made.Mapped function a) k word = word ≡ word_made function (slice_index a.now k)
IsMade (made.Answers op s cols a) k word =
    word ≡ index_eval_of op.kind op.domain (slice_index a.now k) (k / cols) (k % cols) s
IsMade (made.Passing op s cols a) k word = (b : ℕ) → b < 64 → 64 * k + b < length a.now → (bit_at word b == 1)
    ≡ passes op.kind op.domain (slice_index a.now (64 * k + b)) ((64 * k + b) / cols) ((64 * k + b) % cols) s
IsMade (made.Zipped op a b) k word = word ≡ eval_of op.kind op.domain (slice_index a.now k) (slice_index b.now k)
IsMade (made.United op left right a b) k word = word
    ≡ united_at op.kind op.domain (has_bit left.now k) (has_bit right.now k) (slice_index a.now k) (slice_index b.now k)
