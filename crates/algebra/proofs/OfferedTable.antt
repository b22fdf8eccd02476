-- What is offered, written out (the operators `GrB_UnaryOp`, `GrB_BinaryOp` and `GrB_IndexUnaryOp`, the
-- `GrB_Monoid`s and the `GrB_Semiring`s of GraphBLAS C API 2.0, on the domains of this profile), and
-- compared with the definitions at every kind and domain.
use Rattle.std.proofs.Common.{◌≡◌, ℕ, List, [], ◌∷◌, ◌++◌, map, codes, refl}
use Rattle.std.specs.Prelude.{Bool, filter}
use Rattle.algebra.specs.IndexOperators.{offers_index, index_answer_domain}
use Rattle.algebra.specs.Names.{binary_kinds, binary_name, index_kinds, index_name, monoid_kinds, monoid_name, unary_kinds, unary_name}
use Rattle.algebra.specs.Operators.{answer_domain, combines_by, offers, offers_semiring}
use Rattle.algebra.specs.UnaryOperators.{offers_unary}
use Rattle.algebra.specs.declared.domain.Domain.{Domain}
use Rattle.algebra.specs.declared.domain.Domain.TheVariants as domains

abbrev boolean : List Domain
boolean = domains.Bool ∷ []

abbrev integers : List Domain
integers = domains.Int64 ∷ domains.Uint64 ∷ []

abbrev built_in : List Domain
built_in = domains.Bool ∷ domains.Int64 ∷ domains.Uint64 ∷ []

-- each built-in domain, and some user domain
abbrev domains_with : ℕ → List Domain
domains_with k = domains.Bool ∷ domains.Int64 ∷ domains.Uint64 ∷ domains.User k ∷ []

-- an operator's name, the domains that it is on, and that of its answer on each
abbrev Row : Type 0
Row = List ℕ × List Domain × List Domain

abbrev pub unary_rows : List Row
unary_rows =
    (codes "IDENTITY", built_in, built_in)
    ∷ (codes "AINV", integers, integers)
    ∷ (codes "ABS", integers, integers)
    ∷ (codes "LNOT", boolean, boolean)
    ∷ (codes "BNOT", integers, integers)
    ∷ []

abbrev truth_2 : List Domain
truth_2 = domains.Bool ∷ domains.Bool ∷ []

abbrev truth_3 : List Domain
truth_3 = domains.Bool ∷ domains.Bool ∷ domains.Bool ∷ []

abbrev pub binary_rows : List Row
binary_rows =
    (codes "FIRST", built_in, built_in)
    ∷ (codes "SECOND", built_in, built_in)
    ∷ (codes "ONEB", built_in, built_in)
    ∷ (codes "MIN", integers, integers)
    ∷ (codes "MAX", integers, integers)
    ∷ (codes "PLUS", integers, integers)
    ∷ (codes "MINUS", integers, integers)
    ∷ (codes "TIMES", integers, integers)
    ∷ (codes "EQ", built_in, truth_3)
    ∷ (codes "NE", built_in, truth_3)
    ∷ (codes "GT", integers, truth_2)
    ∷ (codes "LT", integers, truth_2)
    ∷ (codes "GE", integers, truth_2)
    ∷ (codes "LE", integers, truth_2)
    ∷ (codes "LOR", boolean, boolean)
    ∷ (codes "LAND", boolean, boolean)
    ∷ (codes "LXOR", boolean, boolean)
    ∷ (codes "LXNOR", boolean, boolean)
    ∷ (codes "BOR", integers, integers)
    ∷ (codes "BAND", integers, integers)
    ∷ (codes "BXOR", integers, integers)
    ∷ (codes "BXNOR", integers, integers)
    ∷ []

abbrev pub monoid_rows : List Row
monoid_rows =
    (codes "PLUS", integers, integers)
    ∷ (codes "TIMES", integers, integers)
    ∷ (codes "MIN", integers, integers)
    ∷ (codes "MAX", integers, integers)
    ∷ (codes "BOR", integers, integers)
    ∷ (codes "BAND", integers, integers)
    ∷ (codes "BXOR", integers, integers)
    ∷ (codes "LOR", boolean, boolean)
    ∷ (codes "LAND", boolean, boolean)
    ∷ (codes "LXOR", boolean, boolean)
    ∷ (codes "LXNOR", boolean, boolean)
    ∷ []

-- the index operators, on the built-in domains and a user domain
abbrev pub index_rows : ℕ → List Row
index_rows k =
    let every = built_in ++ (domains.User k ∷ []) in
    let places = domains.Int64 ∷ domains.Int64 ∷ domains.Int64 ∷ domains.Int64 ∷ [] in
    let tests = domains.Bool ∷ truth_3 in
    (codes "ROWINDEX", every, places)
    ∷ (codes "COLINDEX", every, places)
    ∷ (codes "DIAGINDEX", every, places)
    ∷ (codes "TRIL", every, tests)
    ∷ (codes "TRIU", every, tests)
    ∷ (codes "DIAG", every, tests)
    ∷ (codes "OFFDIAG", every, tests)
    ∷ (codes "COLLE", every, tests)
    ∷ (codes "COLGT", every, tests)
    ∷ (codes "ROWLE", every, tests)
    ∷ (codes "ROWGT", every, tests)
    ∷ (codes "VALUEEQ", built_in, truth_3)
    ∷ (codes "VALUENE", built_in, truth_3)
    ∷ (codes "VALUELT", integers, truth_2)
    ∷ (codes "VALUELE", integers, truth_2)
    ∷ (codes "VALUEGT", integers, truth_2)
    ∷ (codes "VALUEGE", integers, truth_2)
    ∷ []

-- the operators whose answers are integers, on an integer domain
abbrev with_integers : List (List ℕ)
with_integers =
    codes "FIRST" ∷ codes "SECOND" ∷ codes "ONEB" ∷ codes "MIN" ∷ codes "MAX" ∷ codes "PLUS" ∷ codes "MINUS" ∷ codes "TIMES"
    ∷ codes "BOR" ∷ codes "BAND" ∷ codes "BXOR" ∷ codes "BXNOR" ∷ []

-- the operators on BOOL
abbrev with_truths : List (List ℕ)
with_truths =
    codes "FIRST" ∷ codes "SECOND" ∷ codes "ONEB" ∷ codes "EQ" ∷ codes "NE" ∷ codes "LOR" ∷ codes "LAND" ∷ codes "LXOR" ∷ codes "LXNOR" ∷ []

-- the operators whose answers are of BOOL, on an integer domain
abbrev with_comparisons : List (List ℕ)
with_comparisons = codes "EQ" ∷ codes "NE" ∷ codes "GT" ∷ codes "LT" ∷ codes "GE" ∷ codes "LE" ∷ []

-- a monoid's name, and the operators with which it makes a semiring on BOOL, INT64, UINT64 and a user domain
abbrev SemiringRow : Type 0
SemiringRow = List ℕ × List (List (List ℕ))

abbrev pub semiring_rows : List SemiringRow
semiring_rows =
    let of_integers = [] ∷ with_integers ∷ with_integers ∷ [] ∷ [] in
    let of_truths = with_truths ∷ with_comparisons ∷ with_comparisons ∷ [] ∷ [] in
    (codes "PLUS", of_integers)
    ∷ (codes "TIMES", of_integers)
    ∷ (codes "MIN", of_integers)
    ∷ (codes "MAX", of_integers)
    ∷ (codes "BOR", of_integers)
    ∷ (codes "BAND", of_integers)
    ∷ (codes "BXOR", of_integers)
    ∷ (codes "LOR", of_truths)
    ∷ (codes "LAND", of_truths)
    ∷ (codes "LXOR", of_truths)
    ∷ (codes "LXNOR", of_truths)
    ∷ []

-- the row of an operator by the definitions
abbrev row_of : List ℕ → (Domain → Bool) → (Domain → Domain) → ℕ → Row
row_of name on answer k = (name, filter on (domains_with k), map answer (filter on (domains_with k)))

pub unary-offered : (k : ℕ)
    → map (λ kind. row_of (unary_name kind) (offers_unary kind) (λ d. d) k) unary_kinds ≡ unary_rows
unary-offered k = refl

pub binary-offered : (k : ℕ)
    → map (λ kind. row_of (binary_name kind) (offers kind) (answer_domain kind) k) binary_kinds ≡ binary_rows
binary-offered k = refl

pub monoid-offered : (k : ℕ)
    → map (λ kind. row_of (monoid_name kind) (offers (combines_by kind)) (answer_domain (combines_by kind)) k) monoid_kinds ≡ monoid_rows
monoid-offered k = refl

pub index-offered : (k : ℕ)
    → map (λ kind. row_of (index_name kind) (offers_index kind) (λ d. index_answer_domain kind) k) index_kinds ≡ index_rows k
index-offered k = refl

pub semiring-offered : (k : ℕ)
    → map (λ add. (monoid_name add, map (λ d. map binary_name (filter (λ multiply. offers_semiring add multiply d) binary_kinds)) (domains_with k))) monoid_kinds ≡ semiring_rows
semiring-offered k = refl
