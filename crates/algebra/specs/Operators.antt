-- Binary operators, monoids and semirings as formulas on whole numbers, brought into the answer's domain
-- (`GrB_BinaryOp`, `GrB_Monoid` and `GrB_Semiring` of GraphBLAS C API 2.0; arithmetic modulo 2 ^ 64 by
-- this profile).
use Rattle.std.specs.Prelude.{ℕ, ℤ, pos, ◌+ℤ◌, ◌-ℤ◌, ◌*ℤ◌, ◌-◌, ◌^◌, if◌then◌else◌, Bool, ◌&&◌, not, bit_and, bit_or}
use Rattle.std.specs.Prelude.{bit_xor, int_lt}
use Rattle.std.specs.Int.{int_min, int_max}
use Rattle.algebra.specs.declared.domain.Domain.{Domain}
use Rattle.algebra.specs.declared.domain.Domain.TheVariants as domains
use Rattle.algebra.specs.declared.kinds.BinaryKind.{BinaryKind}
use Rattle.algebra.specs.declared.kinds.BinaryKind.TheVariants as binary
use Rattle.algebra.specs.declared.kinds.MonoidKind.{MonoidKind}
use Rattle.algebra.specs.declared.kinds.MonoidKind.TheVariants as monoid
use Rattle.algebra.specs.Value.{residue, value_of, word_of, is_boolean, is_built_in, is_integer}

-- a test's answer as a whole number
abbrev pub truth : Bool → ℤ
truth t = if t then pos 1 else pos 0

-- whether two whole numbers are equal
abbrev pub int_equal : ℤ → ℤ → Bool
int_equal a b = not (int_lt a b) && not (int_lt b a)

-- what each operator gives for two values, before it is brought into the answer's domain
abbrev pub formula : BinaryKind → ℤ → ℤ → ℤ
formula binary.First a b = a
formula binary.Second a b = b
formula binary.Oneb a b = pos 1
formula binary.Min a b = int_min a b
formula binary.Max a b = int_max a b
formula binary.Plus a b = a +ℤ b
formula binary.Minus a b = a -ℤ b
formula binary.Times a b = a *ℤ b
formula binary.Eq a b = truth (int_equal a b)
formula binary.Ne a b = truth (not (int_equal a b))
formula binary.Gt a b = truth (int_lt b a)
formula binary.Lt a b = truth (int_lt a b)
formula binary.Ge a b = truth (not (int_lt a b))
formula binary.Le a b = truth (not (int_lt b a))
formula binary.Lor a b = int_max a b
formula binary.Land a b = int_min a b
formula binary.Lxor a b = truth (not (int_equal a b))
formula binary.Lxnor a b = truth (int_equal a b)
formula binary.Bor a b = pos (bit_or (residue a) (residue b))
formula binary.Band a b = pos (bit_and (residue a) (residue b))
formula binary.Bxor a b = pos (bit_xor (residue a) (residue b))
formula binary.Bxnor a b = pos (2 ^ 64 - 1 - bit_xor (residue a) (residue b))

-- the domain of an operator's answer
abbrev pub answer_domain : BinaryKind → Domain → Domain
answer_domain binary.Eq d = domains.Bool
answer_domain binary.Ne d = domains.Bool
answer_domain binary.Gt d = domains.Bool
answer_domain binary.Lt d = domains.Bool
answer_domain binary.Ge d = domains.Bool
answer_domain binary.Le d = domains.Bool
answer_domain _ d = d

-- what an operator on a domain gives for two words of it
abbrev pub eval_of : BinaryKind → Domain → ℕ → ℕ → ℕ
eval_of kind d a b = word_of (answer_domain kind d) (formula kind (value_of d a) (value_of d b))

-- the operator by which a monoid combines
abbrev pub combines_by : MonoidKind → BinaryKind
combines_by monoid.Plus = binary.Plus
combines_by monoid.Times = binary.Times
combines_by monoid.Min = binary.Min
combines_by monoid.Max = binary.Max
combines_by monoid.Bor = binary.Bor
combines_by monoid.Band = binary.Band
combines_by monoid.Bxor = binary.Bxor
combines_by monoid.Lor = binary.Lor
combines_by monoid.Land = binary.Land
combines_by monoid.Lxor = binary.Lxor
combines_by monoid.Lxnor = binary.Lxnor

-- the domains on which an operator is there; a monoid is there where its operator is
abbrev pub offers : BinaryKind → Domain → Bool
offers binary.First d = is_built_in d
offers binary.Second d = is_built_in d
offers binary.Oneb d = is_built_in d
offers binary.Eq d = is_built_in d
offers binary.Ne d = is_built_in d
offers binary.Lor d = is_boolean d
offers binary.Land d = is_boolean d
offers binary.Lxor d = is_boolean d
offers binary.Lxnor d = is_boolean d
offers _ d = is_integer d

-- the semirings: the operator is there, and the monoid is there on the operator's answers
abbrev pub offers_semiring : MonoidKind → BinaryKind → Domain → Bool
offers_semiring add multiply d = offers multiply d && offers (combines_by add) (answer_domain multiply d)
