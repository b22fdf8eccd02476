-- Values as whole numbers, the words that hold them, and casts between domains (`GrB_Type` of GraphBLAS
-- C API 2.0; modulo 2 ^ 64 by this profile).
use Rattle.std.specs.Prelude.{ℕ, ℤ, pos, negsuc, unsigned_abs, int_le, ◌==◌, ◌-◌, ◌^◌, ◌<◌, if◌then◌else◌, Bool, true}
use Rattle.std.specs.Prelude.{false, ◌&&◌}
use Rattle.std.specs.Int.{cast_signed, w64, int_rem_euclid}
use Rattle.algebra.specs.declared.domain.Domain.{Domain}
use Rattle.algebra.specs.declared.domain.Domain.TheVariants.{Bool as Boolean, Int64, Uint64, User}

-- the number from 0 to 2 ^ 64 - 1 that differs from a whole number by a multiple of 2 ^ 64
abbrev pub residue : ℤ → ℕ
residue z = unsigned_abs (int_rem_euclid z (pos (2 ^ 64)))

-- the whole number that a word stands for: in BOOL 0 for 0 and 1 for every other word, in INT64 in
-- two's complement
abbrev pub value_of : Domain → ℕ → ℤ
value_of Boolean word = if word == 0 then pos 0 else pos 1
value_of Int64 word = cast_signed w64 word
value_of Uint64 word = pos word
value_of (User k) word = pos word

-- the word of a whole number that is brought into a domain: in BOOL whether it is not 0, else modulo 2 ^ 64
abbrev pub word_of : Domain → ℤ → ℕ
word_of Boolean z = if unsigned_abs z == 0 then 0 else 1
word_of Int64 z = residue z
word_of Uint64 z = residue z
word_of (User k) z = residue z

-- the least value of a domain: in INT64 -(2 ^ 63)
abbrev pub least_of : Domain → ℤ
least_of Boolean = pos 0
least_of Int64 = negsuc (2 ^ 63 - 1)
least_of Uint64 = pos 0
least_of (User k) = pos 0

-- the greatest value of a domain: in INT64 2 ^ 63 - 1
abbrev pub greatest_of : Domain → ℤ
greatest_of Boolean = pos 1
greatest_of Int64 = pos (2 ^ 63 - 1)
greatest_of Uint64 = pos (2 ^ 64 - 1)
greatest_of (User k) = pos (2 ^ 64 - 1)

-- whether a whole number is a value of a domain
abbrev pub is_value_of : Domain → ℤ → Bool
is_value_of d z = int_le (least_of d) z && int_le z (greatest_of d)

-- how many words hold values of a domain: in BOOL 0 and 1, else all of 64 bits
abbrev pub words_in : Domain → ℕ
words_in Boolean = 2
words_in _ = 2 ^ 64

abbrev pub IsWordOf : Domain → ℕ → Type 0
IsWordOf d word = word < words_in d

-- a word of one domain as a word of another
abbrev pub cast_of : Domain → Domain → ℕ → ℕ
cast_of from to word = word_of to (value_of from word)

-- ---- kinds of domains

abbrev pub is_boolean : Domain → Bool
is_boolean Boolean = true
is_boolean _ = false

abbrev pub is_integer : Domain → Bool
is_integer Int64 = true
is_integer Uint64 = true
is_integer _ = false

-- the domains of the standard: BOOL and the integers
abbrev pub is_built_in : Domain → Bool
is_built_in (User k) = false
is_built_in _ = true

-- whether values of one domain can be cast to another: both are built in, or both are the same
abbrev pub are_compatible : Domain → Domain → Bool
are_compatible (User k) (User m) = k == m
are_compatible a b = is_built_in a && is_built_in b

abbrev pub same_domain : Domain → Domain → Bool
same_domain Boolean Boolean = true
same_domain Int64 Int64 = true
same_domain Uint64 Uint64 = true
same_domain (User k) (User m) = k == m
same_domain _ _ = false
