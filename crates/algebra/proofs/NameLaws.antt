-- Names and what they name: each kind and domain is found under its name, and what is found has it.
use Rattle.std.proofs.Common.{◌≡◌, ◌++◌, ℕ, ◌<◌, ◌^◌, true, List, [], ◌∷◌, Some, length, nat_le, nat_lt, refl, ap, inl, inr, arith}
use Rattle.std.specs.Prelude.{Bool, IfSome, decimal, find}
use Rattle.std.specs.Char.{is_ascii_digit}
use Rattle.std.specs.List.{list_all}
use Rattle.std.specs.Option.{option_map, option_or}
use Rattle.std.specs.Str.{bytes_eq}
use Rattle.std.specs.Str.Parse.{digits_value}
use Rattle.std.proofs.lemmas.Bool.{cases_Bool, le-leb, lt-ltb}
use Rattle.std.proofs.lemmas.List.Folds.{find-append}
use Rattle.std.proofs.lemmas.Fmt.{decimal_nonempty, digits_decimal, digits_value-decimal, length-decimal-le}
use Rattle.std.proofs.lemmas.Slice.Eq.{bytes_eq-Decides}
use Rattle.algebra.proofs.Digits.{numerals}
use Rattle.algebra.specs.Names.{unary_name, unary_kinds, unary_from_name, binary_name, binary_kinds, binary_from_name, index_name, index_kinds, index_from_name, monoid_name, monoid_kinds, monoid_from_name, domain_name, domain_from_name, user_number, numerics, comparisons, connectives, positional, by_values}
use Rattle.algebra.specs.declared.domain.Domain.{Domain}
use Rattle.algebra.specs.declared.domain.Domain.TheVariants as domains
use Rattle.algebra.specs.declared.kinds.BinaryKind.{BinaryKind}
use Rattle.algebra.specs.declared.kinds.BinaryKind.TheVariants as binary
use Rattle.algebra.specs.declared.kinds.IndexKind.{IndexKind}
use Rattle.algebra.specs.declared.kinds.IndexKind.TheVariants as index
use Rattle.algebra.specs.declared.kinds.MonoidKind.{MonoidKind}
use Rattle.algebra.specs.declared.kinds.MonoidKind.TheVariants as monoid
use Rattle.algebra.specs.declared.kinds.UnaryKind.{UnaryKind}
use Rattle.algebra.specs.declared.kinds.UnaryKind.TheVariants as unary

-- ---- each kind is found under its name

pub unary-named : (kind : UnaryKind) → unary_from_name (unary_name kind) ≡ Some kind
unfolding unary_from_name
unary-named unary.Identity = refl
unary-named _ = refl

pub binary-named : (kind : BinaryKind) → binary_from_name (binary_name kind) ≡ Some kind
unfolding binary_from_name
binary-named binary.First = refl
binary-named _ = refl

pub index-named : (kind : IndexKind) → index_from_name (index_name kind) ≡ Some kind
unfolding index_from_name
index-named index.RowIndex = refl
index-named _ = refl

pub monoid-named : (kind : MonoidKind) → monoid_from_name (monoid_name kind) ≡ Some kind
unfolding monoid_from_name
monoid-named monoid.Plus = refl
monoid-named _ = refl

-- the number of a user domain is read as it is written
user_number-decimal : (k : ℕ) → k < 2 ^ 32 → user_number (decimal k) ≡ Some k
user_number-decimal k small =
    let wide : k < 2 ^ 64 = omega arith in
    let some : nat_le 1 (length (decimal k)) ≡ true = le-leb 1 (length (decimal k)) (decimal_nonempty k wide) in
    let few : nat_le (length (decimal k)) 10 ≡ true = le-leb (length (decimal k)) 10 (length-decimal-le 10 k (omega arith) (omega arith) wide) in
    let digits : list_all is_ascii_digit (decimal k) ≡ true = digits_decimal numerals k wide in
    let number : digits_value 10 (decimal k) ≡ k = digits_value-decimal numerals k wide in
    let fits : nat_lt k (2 ^ 32) ≡ true = lt-ltb k (2 ^ 32) small in
    rw (some, few, digits, number, fits) refl

-- so is each domain, whose number has 32 bits
pub domain-named : (d : Domain) → ((k : ℕ) → d ≡ domains.User k → k < 2 ^ 32)
    → domain_from_name (domain_name d) ≡ Some d
unfolding domain_from_name
domain-named domains.Bool fits = refl
domain-named domains.Int64 fits = refl
domain-named domains.Uint64 fits = refl
domain-named (domains.User k) fits = ap (option_map domains.User) (user_number-decimal k (fits k refl))

-- ---- what is found has the name

found : {K : Type 0} (name : K → List ℕ) (word : List ℕ) (kinds : List K)
    → IfSome (find (λ kind. bytes_eq (name kind) word) kinds) (λ kind. name kind ≡ word)
found name word [] = tt
found name word (kind ∷ kinds) =
    elim (cases_Bool (bytes_eq (name kind) word)) [
      | inl same ↦ rw same ((bytes_eq-Decides (name kind) word).0 same)
      | inr other ↦ rw other (found name word kinds)
    ]

pub unary_found : (word : List ℕ) → IfSome (unary_from_name word) (λ kind. unary_name kind ≡ word)
unfolding unary_from_name
unary_found word = found unary_name word unary_kinds

pub binary_found : (word : List ℕ) → IfSome (binary_from_name word) (λ kind. binary_name kind ≡ word)
unfolding binary_from_name
binary_found word = found binary_name word binary_kinds

pub index_found : (word : List ℕ) → IfSome (index_from_name word) (λ kind. index_name kind ≡ word)
unfolding index_from_name
index_found word = found index_name word index_kinds

pub monoid_found : (word : List ℕ) → IfSome (monoid_from_name word) (λ kind. monoid_name kind ≡ word)
unfolding monoid_from_name
monoid_found word = found monoid_name word monoid_kinds

-- ---- names are looked for group by group

abbrev binary_named : List ℕ → BinaryKind → Bool
binary_named word kind = bytes_eq (binary_name kind) word

abbrev index_named : List ℕ → IndexKind → Bool
index_named word kind = bytes_eq (index_name kind) word

pub binary_in_groups : (word : List ℕ) → binary_from_name word
    ≡ option_or (find (binary_named word) numerics)
    (option_or (find (binary_named word) comparisons) (find (binary_named word) connectives))
unfolding binary_from_name
binary_in_groups word = rw (
  find-append (binary_named word) numerics (comparisons ++ connectives),
  find-append (binary_named word) comparisons connectives,
) refl

pub index_in_groups : (word : List ℕ) → index_from_name word
    ≡ option_or (find (index_named word) positional) (find (index_named word) by_values)
unfolding index_from_name
index_in_groups word = find-append (index_named word) positional by_values
