-- The words that name domains and kinds, both ways: the names of GraphBLAS C API 2.0 without prefixes and
-- types (`GrB_PLUS_INT64` is PLUS, `GrB_ONEB_T` is ONEB); USER by this profile.
use Rattle.std.specs.Prelude.{ℕ, ◌^◌, nat_le, nat_lt, ◌&&◌, if◌then◌else◌, List, [], ◌∷◌, ◌++◌, length, take, drop}
use Rattle.std.specs.Prelude.{Option, Some, None, codes, decimal, find}
use Rattle.std.specs.Char.{is_ascii_digit}
use Rattle.std.specs.List.{list_all}
use Rattle.std.specs.Option.{option_map}
use Rattle.std.specs.Str.{bytes_eq}
use Rattle.std.specs.Str.Parse.{digits_value}
use Rattle.algebra.specs.declared.domain.Domain.{Domain}
use Rattle.algebra.specs.declared.domain.Domain.TheVariants as domains
use Rattle.algebra.specs.declared.kinds.BinaryKind.{BinaryKind}
use Rattle.algebra.specs.declared.kinds.BinaryKind.TheVariants as binary
use Rattle.algebra.specs.declared.kinds.IndexKind.{IndexKind}
use Rattle.algebra.specs.declared.kinds.IndexKind.TheVariants as index
use Rattle.algebra.specs.declared.kinds.MonoidKind.{MonoidKind}
use Rattle.algebra.specs.declared.kinds.MonoidKind.TheVariants as monoid
use Rattle.algebra.specs.declared.kinds.UnaryKind.{UnaryKind}
use Rattle.algebra.specs.declared.kinds.UnaryKind.TheVariants as unary
use Rattle.algebra.specs.Operators.{combines_by}

-- ---- domains

-- what stands before the number of a user domain
abbrev pub user_prefix : List ℕ
user_prefix = codes "USER:"

-- the name of a built-in domain, and what stands before the number of a user domain
abbrev pub domain_word : Domain → List ℕ
domain_word domains.Bool = codes "BOOL"
domain_word domains.Int64 = codes "INT64"
domain_word domains.Uint64 = codes "UINT64"
domain_word (domains.User k) = user_prefix

abbrev pub domain_name : Domain → List ℕ
domain_name (domains.User k) = domain_word (domains.User k) ++ decimal k
domain_name d = domain_word d

abbrev pub built_in_domains : List Domain
built_in_domains = domains.Bool ∷ domains.Int64 ∷ domains.Uint64 ∷ []

abbrev pub built_in_from_name : List ℕ → Option Domain
built_in_from_name word = find (λ d. bytes_eq (domain_word d) word) built_in_domains

-- the number that 1 to 10 digits write, at most 4294967295
abbrev pub user_number : List ℕ → Option ℕ
user_number digits =
    if nat_le 1 (length digits) && nat_le (length digits) 10 && list_all is_ascii_digit digits
    && nat_lt (digits_value 10 digits) (2 ^ 32)
    then Some (digits_value 10 digits)
    else None

-- the domain of a name; the number of a user domain may have leading zeros
unfoldable pub domain_from_name : List ℕ → Option Domain
domain_from_name word =
    if bytes_eq (take (length user_prefix) word) user_prefix
    then option_map domains.User (user_number (drop (length user_prefix) word))
    else built_in_from_name word

-- ---- unary operators

abbrev pub unary_name : UnaryKind → List ℕ
unary_name unary.Identity = codes "IDENTITY"
unary_name unary.Ainv = codes "AINV"
unary_name unary.Abs = codes "ABS"
unary_name unary.Lnot = codes "LNOT"
unary_name unary.Bnot = codes "BNOT"

abbrev pub unary_kinds : List UnaryKind
unary_kinds = unary.Identity ∷ unary.Ainv ∷ unary.Abs ∷ unary.Lnot ∷ unary.Bnot ∷ []

unfoldable pub unary_from_name : List ℕ → Option UnaryKind
unary_from_name word = find (λ kind. bytes_eq (unary_name kind) word) unary_kinds

-- ---- binary operators

abbrev pub binary_name : BinaryKind → List ℕ
binary_name binary.First = codes "FIRST"
binary_name binary.Second = codes "SECOND"
binary_name binary.Oneb = codes "ONEB"
binary_name binary.Min = codes "MIN"
binary_name binary.Max = codes "MAX"
binary_name binary.Plus = codes "PLUS"
binary_name binary.Minus = codes "MINUS"
binary_name binary.Times = codes "TIMES"
binary_name binary.Eq = codes "EQ"
binary_name binary.Ne = codes "NE"
binary_name binary.Gt = codes "GT"
binary_name binary.Lt = codes "LT"
binary_name binary.Ge = codes "GE"
binary_name binary.Le = codes "LE"
binary_name binary.Lor = codes "LOR"
binary_name binary.Land = codes "LAND"
binary_name binary.Lxor = codes "LXOR"
binary_name binary.Lxnor = codes "LXNOR"
binary_name binary.Bor = codes "BOR"
binary_name binary.Band = codes "BAND"
binary_name binary.Bxor = codes "BXOR"
binary_name binary.Bxnor = codes "BXNOR"

-- the operators whose answers are numbers where their operands are
abbrev pub numerics : List BinaryKind
numerics = binary.First ∷ binary.Second ∷ binary.Oneb ∷ binary.Min ∷ binary.Max ∷ binary.Plus ∷ binary.Minus
    ∷ binary.Times ∷ []

-- those that compare
abbrev pub comparisons : List BinaryKind
comparisons = binary.Eq ∷ binary.Ne ∷ binary.Gt ∷ binary.Lt ∷ binary.Ge ∷ binary.Le ∷ []

-- those on truths and on bits
abbrev pub connectives : List BinaryKind
connectives = binary.Lor ∷ binary.Land ∷ binary.Lxor ∷ binary.Lxnor ∷ binary.Bor ∷ binary.Band ∷ binary.Bxor
    ∷ binary.Bxnor ∷ []

abbrev pub binary_kinds : List BinaryKind
binary_kinds = numerics ++ comparisons ++ connectives

unfoldable pub binary_from_name : List ℕ → Option BinaryKind
binary_from_name word = find (λ kind. bytes_eq (binary_name kind) word) binary_kinds

-- ---- index operators

abbrev pub index_name : IndexKind → List ℕ
index_name index.RowIndex = codes "ROWINDEX"
index_name index.ColIndex = codes "COLINDEX"
index_name index.DiagIndex = codes "DIAGINDEX"
index_name index.Tril = codes "TRIL"
index_name index.Triu = codes "TRIU"
index_name index.Diag = codes "DIAG"
index_name index.OffDiag = codes "OFFDIAG"
index_name index.ColLe = codes "COLLE"
index_name index.ColGt = codes "COLGT"
index_name index.RowLe = codes "ROWLE"
index_name index.RowGt = codes "ROWGT"
index_name index.ValueEq = codes "VALUEEQ"
index_name index.ValueNe = codes "VALUENE"
index_name index.ValueLt = codes "VALUELT"
index_name index.ValueLe = codes "VALUELE"
index_name index.ValueGt = codes "VALUEGT"
index_name index.ValueGe = codes "VALUEGE"

-- the operators that look at positions alone
abbrev pub positional : List IndexKind
positional = index.RowIndex ∷ index.ColIndex ∷ index.DiagIndex ∷ index.Tril ∷ index.Triu ∷ index.Diag ∷ index.OffDiag
    ∷ index.ColLe ∷ index.ColGt ∷ index.RowLe ∷ index.RowGt ∷ []

-- those that compare values
abbrev pub by_values : List IndexKind
by_values = index.ValueEq ∷ index.ValueNe ∷ index.ValueLt ∷ index.ValueLe ∷ index.ValueGt ∷ index.ValueGe ∷ []

abbrev pub index_kinds : List IndexKind
index_kinds = positional ++ by_values

unfoldable pub index_from_name : List ℕ → Option IndexKind
index_from_name word = find (λ kind. bytes_eq (index_name kind) word) index_kinds

-- ---- monoids, each under the name of its operator

abbrev pub monoid_name : MonoidKind → List ℕ
monoid_name kind = binary_name (combines_by kind)

abbrev pub monoid_kinds : List MonoidKind
monoid_kinds = monoid.Plus ∷ monoid.Times ∷ monoid.Min ∷ monoid.Max ∷ monoid.Bor ∷ monoid.Band ∷ monoid.Bxor
    ∷ monoid.Lor ∷ monoid.Land ∷ monoid.Lxor ∷ monoid.Lxnor ∷ []

unfoldable pub monoid_from_name : List ℕ → Option MonoidKind
monoid_from_name word = find (λ kind. bytes_eq (monoid_name kind) word) monoid_kinds
