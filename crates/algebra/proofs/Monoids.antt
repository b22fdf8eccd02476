-- The laws of the monoids on the words of their domains: neither the order nor the grouping matters,
-- and the identity changes nothing.
use Rattle.std.proofs.Common.{◌≡◌, ℕ, ◌-◌, ◌%◌, ◌^◌, ◌<◌, sym, ◌∙◌, ap, refl, arith, true, false, cond}
use Rattle.std.proofs.Math.Nat.{add-mod-mod, mod-add-mod, mul_assoc, mod-eq_of_lt}
use Rattle.std.proofs.lemmas.Nat.{mul-mod_first, mul-mod_second, or_comm, and_comm, xor_comm, or_lt, xor_lt, and_le_l, and_assoc, and_mask}
use Rattle.std.proofs.lemmas.Nat.Bits.{same_from_bits, bit_at_or}
use Rattle.std.proofs.lemmas.Int.{ints, clamps}
use Rattle.std.specs.Prelude.{ℤ, pos, bit_and, bit_or, bit_xor, int_lt}
use Rattle.std.specs.Int.{int_min, int_max}
use Rattle.std.specs.Int.Bits.{xor_assoc}
use Rattle.algebra.proofs.Casts.{IsWordOf-lt, IsWordOf-word_of, cast_own, each_pair, each_truth}
use Rattle.algebra.proofs.Words.{plus-words, times-words, min-words, max-words, or-words, and-words, xor-words}
use Rattle.algebra.specs.Value.{greatest_of, least_of, residue, value_of, word_of, IsWordOf}
use Rattle.algebra.specs.Monoids.{identity_of}
use Rattle.algebra.specs.Operators.{eval_of, offers, combines_by}
use Rattle.algebra.specs.declared.domain.Domain.{Domain}
use Rattle.algebra.specs.declared.domain.Domain.TheVariants.{Bool, Int64, Uint64, User}
use Rattle.algebra.specs.declared.kinds.BinaryKind.{BinaryKind}
use Rattle.algebra.specs.declared.kinds.BinaryKind.TheVariants as binary
use Rattle.algebra.specs.declared.kinds.MonoidKind.{MonoidKind}
use Rattle.algebra.specs.declared.kinds.MonoidKind.TheVariants.{Plus, Times, Min, Max, Bor, Band, Bxor, Lor, Land, Lxor, Lxnor}

-- the two groupings of three words
abbrev Associates : BinaryKind → Domain → ℕ → ℕ → ℕ → Type 0
Associates kind d a b c = eval_of kind d (eval_of kind d a b) c ≡ eval_of kind d a (eval_of kind d b c)

-- ---- sums and products

plus-associates : (d : Domain) (a b c : ℕ) → offers binary.Plus d ≡ true → IsWordOf d a → IsWordOf d b → IsWordOf d c
    → Associates binary.Plus d a b c
plus-associates d a b c h p q r =
    let small_a = IsWordOf-lt d a p in
    let small_b = IsWordOf-lt d b q in
    let small_c = IsWordOf-lt d c r in
    let left = plus-words d (eval_of binary.Plus d a b) c h (IsWordOf-lt d _ (IsWordOf-word_of d _)) small_c in
    let right = plus-words d a (eval_of binary.Plus d b c) h small_a (IsWordOf-lt d _ (IsWordOf-word_of d _)) in
    rw (← left, ← right, ← plus-words d a b h small_a small_b, ← plus-words d b c h small_b small_c, mod-add-mod, add-mod-mod)
    (omega arith)

times-associates : (d : Domain) (a b c : ℕ) → offers binary.Times d ≡ true → IsWordOf d a → IsWordOf d b → IsWordOf d c
    → Associates binary.Times d a b c
times-associates d a b c h p q r =
    let small_a = IsWordOf-lt d a p in
    let small_b = IsWordOf-lt d b q in
    let small_c = IsWordOf-lt d c r in
    let left = times-words d (eval_of binary.Times d a b) c h (IsWordOf-lt d _ (IsWordOf-word_of d _)) small_c in
    let right = times-words d a (eval_of binary.Times d b c) h small_a (IsWordOf-lt d _ (IsWordOf-word_of d _)) in
    rw (← left, ← right, ← times-words d a b h small_a small_b, ← times-words d b c h small_b small_c, mul-mod_first, mul-mod_second)
    (ap (λ x. x % 2 ^ 64) (mul_assoc a b c))

-- ---- the least and the greatest

int_min_comm : (x y : ℤ) → int_min x y ≡ int_min y x
int_min_comm x y = omega (arith, ints, clamps)

int_min_assoc : (x y z : ℤ) → int_min (int_min x y) z ≡ int_min x (int_min y z)
int_min_assoc x y z = omega (arith, ints, clamps)

int_max_comm : (x y : ℤ) → int_max x y ≡ int_max y x
int_max_comm x y = omega (arith, ints, clamps)

int_max_assoc : (x y z : ℤ) → int_max (int_max x y) z ≡ int_max x (int_max y z)
int_max_assoc x y z = omega (arith, ints, clamps)

-- the value of MIN is the lesser of the two values
min-value : (d : Domain) (a b : ℕ) → IsWordOf d a → IsWordOf d b
    → value_of d (eval_of binary.Min d a b) ≡ int_min (value_of d a) (value_of d b)
min-value d a b p q =
    rw (min-words d a b p q)
    (elim (int_lt (value_of d b) (value_of d a)) as (λ t. value_of d (cond t b a) ≡ cond t (value_of d b) (value_of d a)) [ true ↦ refl | false ↦ refl ])

-- the value of MAX is the greater of the two values
max-value : (d : Domain) (a b : ℕ) → IsWordOf d a → IsWordOf d b
    → value_of d (eval_of binary.Max d a b) ≡ int_max (value_of d a) (value_of d b)
max-value d a b p q =
    rw (max-words d a b p q)
    (elim (int_lt (value_of d b) (value_of d a)) as (λ t. value_of d (cond t a b) ≡ cond t (value_of d a) (value_of d b)) [ true ↦ refl | false ↦ refl ])

min-associates : (d : Domain) (a b c : ℕ) → IsWordOf d a → IsWordOf d b → IsWordOf d c → Associates binary.Min d a b c
min-associates d a b c p q r =
    ap (word_of d) (rw (min-value d a b p q, min-value d b c q r) (int_min_assoc (value_of d a) (value_of d b) (value_of d c)))

max-associates : (d : Domain) (a b c : ℕ) → IsWordOf d a → IsWordOf d b → IsWordOf d c → Associates binary.Max d a b c
max-associates d a b c p q r =
    ap (word_of d) (rw (max-value d a b p q, max-value d b c q r) (int_max_assoc (value_of d a) (value_of d b) (value_of d c)))

-- no value of a word is past the greatest
below_greatest : (d : Domain) (a : ℕ) → IsWordOf d a → int_min (value_of d (word_of d (greatest_of d)))
    (value_of d a) ≡ value_of d a
below_greatest Bool a p = each_truth (λ w. int_min (pos 1) (value_of Bool w) ≡ value_of Bool w) refl refl a p
below_greatest Int64 a p = omega (arith, ints, clamps)
below_greatest Uint64 a p = omega (arith, ints, clamps)
below_greatest (User k) a p = omega (arith, ints, clamps)

-- no value of a word is before the least
above_least : (d : Domain) (a : ℕ) → IsWordOf d a → int_max (value_of d (word_of d (least_of d)))
    (value_of d a) ≡ value_of d a
above_least Bool a p = each_truth (λ w. int_max (pos 0) (value_of Bool w) ≡ value_of Bool w) refl refl a p
above_least Int64 a p = omega (arith, ints, clamps)
above_least Uint64 a p = omega (arith, ints, clamps)
above_least (User k) a p = omega (arith, ints, clamps)

min-identity : (d : Domain) (a : ℕ) → IsWordOf d a → eval_of binary.Min d (word_of d (greatest_of d)) a ≡ a
min-identity d a p = ap (word_of d) (below_greatest d a p) ∙ cast_own d a p

max-identity : (d : Domain) (a : ℕ) → IsWordOf d a → eval_of binary.Max d (word_of d (least_of d)) a ≡ a
max-identity d a p = ap (word_of d) (above_least d a p) ∙ cast_own d a p

-- ---- bit by bit

or_assoc : (a b c : ℕ) → bit_or (bit_or a b) c ≡ bit_or a (bit_or b c)
or_assoc a b c = same_from_bits _ _ (λ i. simp bit_at_or (omega arith))

or-associates : (d : Domain) (a b c : ℕ) → offers binary.Bor d ≡ true → IsWordOf d a → IsWordOf d b → IsWordOf d c
    → Associates binary.Bor d a b c
or-associates d a b c h p q r =
    let small_a = IsWordOf-lt d a p in
    let small_b = IsWordOf-lt d b q in
    let small_c = IsWordOf-lt d c r in
    rw (
      ← or-words d a b h small_a small_b,
      ← or-words d b c h small_b small_c,
      ← or-words d (bit_or a b) c h (or_lt 64 a b small_a small_b) small_c,
      ← or-words d a (bit_or b c) h small_a (or_lt 64 b c small_b small_c),
    )
    (or_assoc a b c)

and_lt : (a b : ℕ) → a < 2 ^ 64 → bit_and a b < 2 ^ 64
and_lt a b p = omega (arith, and_le_l a b)

and-associates : (d : Domain) (a b c : ℕ) → offers binary.Band d ≡ true → IsWordOf d a → IsWordOf d b → IsWordOf d c
    → Associates binary.Band d a b c
and-associates d a b c h p q r =
    let small_a = IsWordOf-lt d a p in
    let small_b = IsWordOf-lt d b q in
    let small_c = IsWordOf-lt d c r in
    rw (
      ← and-words d a b h small_a small_b,
      ← and-words d b c h small_b small_c,
      ← and-words d (bit_and a b) c h (and_lt a b small_a) small_c,
      ← and-words d a (bit_and b c) h small_a (and_lt b c small_b),
    )
    (and_assoc c a b)

xor-associates : (d : Domain) (a b c : ℕ) → offers binary.Bxor d ≡ true → IsWordOf d a → IsWordOf d b → IsWordOf d c
    → Associates binary.Bxor d a b c
xor-associates d a b c h p q r =
    let small_a = IsWordOf-lt d a p in
    let small_b = IsWordOf-lt d b q in
    let small_c = IsWordOf-lt d c r in
    rw (
      ← xor-words d a b h small_a small_b,
      ← xor-words d b c h small_b small_c,
      ← xor-words d (bit_xor a b) c h (xor_lt 64 a b small_a small_b) small_c,
      ← xor-words d a (bit_xor b c) h small_a (xor_lt 64 b c small_b small_c),
    )
    (xor_assoc a b c)

ones_and : (a : ℕ) → a < 2 ^ 64 → bit_and (2 ^ 64 - 1) a ≡ a
ones_and a p = and_comm (2 ^ 64 - 1) a ∙ and_mask a 64 ∙ mod-eq_of_lt p

-- ---- the monoids

-- a combination of two words is a word
pub monoid-word : (kind : MonoidKind) (d : Domain) (a b : ℕ) → IsWordOf d (eval_of (combines_by kind) d a b)
monoid-word Plus d a b = IsWordOf-word_of d _
monoid-word _ d a b = IsWordOf-word_of d _

-- the identity is a word
pub identity-word : (kind : MonoidKind) (d : Domain) → offers (combines_by kind) d ≡ true
    → IsWordOf d (identity_of kind d)
identity-word Min d h = IsWordOf-word_of d (greatest_of d)
identity-word Max d h = IsWordOf-word_of d (least_of d)
identity-word Band Bool h = absurd (cc)
identity-word _ Bool h = omega arith
identity-word _ Int64 h = omega arith
identity-word _ Uint64 h = omega arith
identity-word _ (User k) h = omega arith

-- the order of two words does not matter
pub monoid-commutes : (kind : MonoidKind) (d : Domain) (a b : ℕ)
    → offers (combines_by kind) d ≡ true → IsWordOf d a → IsWordOf d b
    → eval_of (combines_by kind) d a b ≡ eval_of (combines_by kind) d b a
monoid-commutes Plus d a b h p q =
    sym (plus-words d a b h (IsWordOf-lt d a p) (IsWordOf-lt d b q)) ∙ omega arith ∙ plus-words d b a h (IsWordOf-lt d b q) (IsWordOf-lt d a p)
monoid-commutes Times d a b h p q =
    sym (times-words d a b h (IsWordOf-lt d a p) (IsWordOf-lt d b q)) ∙ omega arith ∙ times-words d b a h (IsWordOf-lt d b q) (IsWordOf-lt d a p)
monoid-commutes Min d a b h p q = ap (word_of d) (int_min_comm (value_of d a) (value_of d b))
monoid-commutes Max d a b h p q = ap (word_of d) (int_max_comm (value_of d a) (value_of d b))
monoid-commutes Bor d a b h p q = ap (λ n. word_of d (pos n)) (or_comm (residue (value_of d a)) (residue (value_of d b)))
monoid-commutes Band d a b h p q = ap (λ n. word_of d (pos n)) (and_comm (residue (value_of d a)) (residue (value_of d b)))
monoid-commutes Bxor d a b h p q = ap (λ n. word_of d (pos n)) (xor_comm (residue (value_of d a)) (residue (value_of d b)))
monoid-commutes Lor d a b h p q = ap (word_of d) (int_max_comm (value_of d a) (value_of d b))
monoid-commutes Land d a b h p q = ap (word_of d) (int_min_comm (value_of d a) (value_of d b))
monoid-commutes Lxor Bool a b h p q =
    each_pair (λ x y. eval_of binary.Lxor Bool x y ≡ eval_of binary.Lxor Bool y x) refl refl refl refl a b p q
monoid-commutes Lxnor Bool a b h p q =
    each_pair (λ x y. eval_of binary.Lxnor Bool x y ≡ eval_of binary.Lxnor Bool y x) refl refl refl refl a b p q
monoid-commutes _ _ a b h p q = cc

-- the grouping of three words does not matter
pub monoid-associates : (kind : MonoidKind) (d : Domain) (a b c : ℕ)
    → offers (combines_by kind) d ≡ true → IsWordOf d a → IsWordOf d b → IsWordOf d c
    → Associates (combines_by kind) d a b c
monoid-associates Plus d a b c h p q r = plus-associates d a b c h p q r
monoid-associates Times d a b c h p q r = times-associates d a b c h p q r
monoid-associates Min d a b c h p q r = min-associates d a b c p q r
monoid-associates Max d a b c h p q r = max-associates d a b c p q r
monoid-associates Bor d a b c h p q r = or-associates d a b c h p q r
monoid-associates Band d a b c h p q r = and-associates d a b c h p q r
monoid-associates Bxor d a b c h p q r = xor-associates d a b c h p q r
monoid-associates Lor d a b c h p q r = max-associates d a b c p q r
monoid-associates Land d a b c h p q r = min-associates d a b c p q r
monoid-associates Lxor Bool a b c h p q r =
    each_truth (λ z. Associates binary.Lxor Bool a b z)
    (each_pair (λ x y. Associates binary.Lxor Bool x y 0) refl refl refl refl a b p q)
    (each_pair (λ x y. Associates binary.Lxor Bool x y 1) refl refl refl refl a b p q) c r
monoid-associates Lxnor Bool a b c h p q r =
    each_truth (λ z. Associates binary.Lxnor Bool a b z)
    (each_pair (λ x y. Associates binary.Lxnor Bool x y 0) refl refl refl refl a b p q)
    (each_pair (λ x y. Associates binary.Lxnor Bool x y 1) refl refl refl refl a b p q) c r
monoid-associates _ _ a b c h p q r = cc

-- the identity on the left changes no word
pub monoid-identity : (kind : MonoidKind) (d : Domain) (a : ℕ)
    → offers (combines_by kind) d ≡ true → IsWordOf d a
    → eval_of (combines_by kind) d (identity_of kind d) a ≡ a
monoid-identity Plus d a h p = let small = IsWordOf-lt d a p in sym (plus-words d 0 a h (omega arith) small) ∙ omega arith
monoid-identity Times d a h p = let small = IsWordOf-lt d a p in sym (times-words d 1 a h (omega arith) small) ∙ omega arith
monoid-identity Min d a h p = min-identity d a p
monoid-identity Max d a h p = max-identity d a p
monoid-identity Bor d a h p = sym (or-words d 0 a h (omega arith) (IsWordOf-lt d a p))
monoid-identity Band d a h p = sym (and-words d (2 ^ 64 - 1) a h (omega arith) (IsWordOf-lt d a p)) ∙ ones_and a (IsWordOf-lt d a p)
monoid-identity Bxor d a h p = sym (xor-words d 0 a h (omega arith) (IsWordOf-lt d a p))
monoid-identity Lor Bool a h p = max-identity Bool a p
monoid-identity Land Bool a h p = min-identity Bool a p
monoid-identity Lxor Bool a h p = each_truth (λ w. eval_of binary.Lxor Bool 0 w ≡ w) refl refl a p
monoid-identity Lxnor Bool a h p = each_truth (λ w. eval_of binary.Lxnor Bool 1 w ≡ w) refl refl a p
monoid-identity _ _ a h p = cc
