-- What operators give as a word: it is one of the answer's domain, and what the word instruction gives.
use Rattle.std.proofs.Common.{◌≡◌, ℕ, ◌+◌, ◌*◌, ◌%◌, ◌^◌, ◌<◌, sym, refl, arith, true, false, cond}
use Rattle.std.proofs.Math.Nat.{mod-eq_of_lt}
use Rattle.std.proofs.lemmas.Int.{wrapping_add-bits, wrapping_mul-bits}
use Rattle.std.proofs.lemmas.Nat.{or_lt, xor_lt, and_le_l}
use Rattle.std.specs.Prelude.{pos, bit_and, bit_or, bit_xor, int_lt}
use Rattle.std.specs.Int.{w64}
use Rattle.algebra.proofs.Casts.{IsWordOf-word_of, cast_own}
use Rattle.algebra.proofs.Residues.{residue-signed, residue_from_wrap}
use Rattle.algebra.specs.Operators.{answer_domain, eval_of, formula, offers}
use Rattle.algebra.specs.IndexOperators.{index_answer_domain, index_eval_of, index_formula, scalar_domain}
use Rattle.algebra.specs.UnaryOperators.{unary_eval_of, unary_formula}
use Rattle.algebra.specs.Value.{residue, value_of, word_of, IsWordOf}
use Rattle.algebra.specs.declared.domain.Domain.{Domain}
use Rattle.algebra.specs.declared.domain.Domain.TheVariants.{Bool, Int64, Uint64, User}
use Rattle.algebra.specs.declared.kinds.BinaryKind.{BinaryKind}
use Rattle.algebra.specs.declared.kinds.IndexKind.{IndexKind}
use Rattle.algebra.specs.declared.kinds.UnaryKind.{UnaryKind}
use Rattle.algebra.specs.declared.kinds.BinaryKind.TheVariants.{Plus, Times, Min, Max, Bor, Band, Bxor}

-- each operator gives a word of its answer's domain
pub IsWordOf-eval : (kind : BinaryKind) (d : Domain) (a b : ℕ) → IsWordOf (answer_domain kind d) (eval_of kind d a b)
IsWordOf-eval kind d a b = IsWordOf-word_of (answer_domain kind d) (formula kind (value_of d a) (value_of d b))

pub IsWordOf-unary_eval : (kind : UnaryKind) (d : Domain) (a : ℕ) → IsWordOf d (unary_eval_of kind d a)
IsWordOf-unary_eval kind d a = IsWordOf-word_of d (unary_formula kind (value_of d a))

pub IsWordOf-index_eval : (kind : IndexKind) (d : Domain) (a i j s : ℕ)
    → IsWordOf (index_answer_domain kind) (index_eval_of kind d a i j s)
IsWordOf-index_eval kind d a i j s =
    IsWordOf-word_of (index_answer_domain kind) (index_formula kind (value_of d a) (pos i) (pos j) (value_of (scalar_domain kind d) s))

-- the wrapping sum of two words is PLUS on each domain that has it
pub plus-words : (d : Domain) (a b : ℕ) → offers Plus d ≡ true → a < 2 ^ 64 → b < 2 ^ 64
    → (a + b) % 2 ^ 64 ≡ eval_of Plus d a b
plus-words Bool a b h p q = cc
plus-words Int64 a b h p q = residue_from_wrap _ _ (omega arith) (wrapping_add-bits w64 a b p q)
plus-words Uint64 a b h p q = refl
plus-words (User k) a b h p q = cc

-- the wrapping product of two words is TIMES on each domain that has it
pub times-words : (d : Domain) (a b : ℕ) → offers Times d ≡ true → a < 2 ^ 64 → b < 2 ^ 64
    → (a * b) % 2 ^ 64 ≡ eval_of Times d a b
times-words Bool a b h p q = cc
times-words Int64 a b h p q = residue_from_wrap _ _ (omega arith) (wrapping_mul-bits w64 a b p q)
times-words Uint64 a b h p q = refl
times-words (User k) a b h p q = cc

-- MIN gives one of its two words
pub min-words : (d : Domain) (a b : ℕ) → IsWordOf d a → IsWordOf d b
    → eval_of Min d a b ≡ cond (int_lt (value_of d b) (value_of d a)) b a
min-words d a b p q =
    elim (int_lt (value_of d b) (value_of d a)) as (λ t. word_of d (cond t (value_of d b) (value_of d a)) ≡ cond t b a)
    [ true ↦ cast_own d b q | false ↦ cast_own d a p ]

-- MAX gives one of its two words
pub max-words : (d : Domain) (a b : ℕ) → IsWordOf d a → IsWordOf d b
    → eval_of Max d a b ≡ cond (int_lt (value_of d b) (value_of d a)) a b
max-words d a b p q =
    elim (int_lt (value_of d b) (value_of d a)) as (λ t. word_of d (cond t (value_of d a) (value_of d b)) ≡ cond t a b)
    [ true ↦ cast_own d a p | false ↦ cast_own d b q ]

-- a word is the residue of its value on each domain that has operators bit by bit
residue-value : (d : Domain) (a : ℕ) → offers Bor d ≡ true → a < 2 ^ 64 → residue (value_of d a) ≡ a
residue-value Bool a h p = cc
residue-value Int64 a h p = residue-signed a p
residue-value Uint64 a h p = mod-eq_of_lt p
residue-value (User k) a h p = cc

-- a number of 64 bits is the same in each domain that has operators bit by bit
word_of-small : (d : Domain) (n : ℕ) → offers Bor d ≡ true → n < 2 ^ 64 → word_of d (pos n) ≡ n
word_of-small Bool n h p = cc
word_of-small Int64 n h p = mod-eq_of_lt p
word_of-small Uint64 n h p = mod-eq_of_lt p
word_of-small (User k) n h p = cc

-- BOR is `|` of the words
pub or-words : (d : Domain) (a b : ℕ) → offers Bor d ≡ true → a < 2 ^ 64 → b < 2 ^ 64 → bit_or a b ≡ eval_of Bor d a b
or-words d a b h p q =
    rw (residue-value d a h p, residue-value d b h q) (sym (word_of-small d (bit_or a b) h (or_lt 64 a b p q)))

-- BAND is `&` of the words
pub and-words : (d : Domain) (a b : ℕ) → offers Band d ≡ true → a < 2 ^ 64 → b < 2 ^ 64
    → bit_and a b ≡ eval_of Band d a b
and-words d a b h p q =
    let small : bit_and a b < 2 ^ 64 = omega (arith, and_le_l a b) in
    rw (residue-value d a h p, residue-value d b h q) (sym (word_of-small d (bit_and a b) h small))

-- BXOR is `^` of the words
pub xor-words : (d : Domain) (a b : ℕ) → offers Bxor d ≡ true → a < 2 ^ 64 → b < 2 ^ 64
    → bit_xor a b ≡ eval_of Bxor d a b
xor-words d a b h p q =
    rw (residue-value d a h p, residue-value d b h q) (sym (word_of-small d (bit_xor a b) h (xor_lt 64 a b p q)))
