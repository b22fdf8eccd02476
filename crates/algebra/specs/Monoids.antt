-- The identity of each monoid as a word, and sums of words (`GrB_Monoid` of GraphBLAS C API 2.0; the
-- monoids BOR, BAND and BXOR by this profile).
use Rattle.std.specs.Prelude.{ℕ, ◌-◌, ◌^◌, List, Option}
use Rattle.std.specs.List.{reduce}
use Rattle.algebra.specs.declared.domain.Domain.{Domain}
use Rattle.algebra.specs.declared.kinds.MonoidKind.{MonoidKind}
use Rattle.algebra.specs.declared.kinds.MonoidKind.TheVariants as monoid
use Rattle.algebra.specs.Operators.{combines_by, eval_of}
use Rattle.algebra.specs.Value.{greatest_of, least_of, word_of}

-- the identity of a monoid on a domain, as a word: that of MIN the greatest value, that of MAX the
-- least, that of BAND 64 ones
abbrev pub identity_of : MonoidKind → Domain → ℕ
identity_of monoid.Plus d = 0
identity_of monoid.Times d = 1
identity_of monoid.Min d = word_of d (greatest_of d)
identity_of monoid.Max d = word_of d (least_of d)
identity_of monoid.Bor d = 0
identity_of monoid.Band d = 2 ^ 64 - 1
identity_of monoid.Bxor d = 0
identity_of monoid.Lor d = 0
identity_of monoid.Land d = 1
identity_of monoid.Lxor d = 0
identity_of monoid.Lxnor d = 1

-- a monoid's sum of words, in order; there is none of no words
abbrev pub sum_of : MonoidKind → Domain → List ℕ → Option ℕ
sum_of kind d words = reduce (eval_of (combines_by kind) d) words
