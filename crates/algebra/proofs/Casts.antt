-- Words cast from one domain to another.
use Rattle.std.proofs.Common.{◌≡◌, ◌∙◌, ℕ, zero, suc, ◌^◌, ◌<◌, true, refl, sym, ap, arith}
use Rattle.std.proofs.Math.Nat.{mod-eq_of_lt}
use Rattle.std.proofs.lemmas.Bool.Decides.{nat_tests}
use Rattle.std.proofs.lemmas.Int.{int_wrap_fits}
use Rattle.std.specs.Int.{cast_signed, w64, int_wrap}
use Rattle.std.specs.Int.RustNames.{FitsSigned}
use Rattle.std.specs.Prelude.{ℤ, pos, negsuc}
use Rattle.algebra.proofs.Residues.{residue-lt, residue-signed, signed-residue}
use Rattle.algebra.specs.Value.{are_compatible, cast_of, is_value_of, residue, value_of, word_of, IsWordOf}
use Rattle.algebra.specs.declared.domain.Domain.{Domain}
use Rattle.algebra.specs.declared.domain.Domain.TheVariants.{Bool, Int64, Uint64, User}

-- what holds of both words of BOOL holds of each
pub each_truth : (P : ℕ → Type 0) → P 0 → P 1 → (word : ℕ) → word < 2 → P word
each_truth P p q zero small = p
each_truth P p q (suc zero) small = q
each_truth P p q (suc (suc n)) small = absurd (omega arith)

-- what holds of the four pairs of words of BOOL holds of each pair
pub each_pair : (P : ℕ → ℕ → Type 0) → P 0 0 → P 0 1 → P 1 0 → P 1 1 → (a b : ℕ) → a < 2 → b < 2 → P a b
each_pair P none second first both a b p q =
    each_truth (λ x. P x b) (each_truth (P 0) none second b q) (each_truth (P 1) first both b q) a p

-- a word of a domain has 64 bits
pub IsWordOf-lt : (d : Domain) (word : ℕ) → IsWordOf d word → word < 2 ^ 64
IsWordOf-lt Bool word p = omega arith
IsWordOf-lt Int64 word p = p
IsWordOf-lt Uint64 word p = p
IsWordOf-lt (User k) word p = p

-- what is brought into a domain is a word of it
pub IsWordOf-word_of : (d : Domain) (z : ℤ) → IsWordOf d (word_of d z)
IsWordOf-word_of Bool z = grind (arith, nat_tests)
IsWordOf-word_of Int64 z = residue-lt z
IsWordOf-word_of Uint64 z = residue-lt z
IsWordOf-word_of (User k) z = residue-lt z

-- a cast gives a word of the domain to which it casts
pub IsWordOf-cast : (from to : Domain) (word : ℕ) → IsWordOf to (cast_of from to word)
IsWordOf-cast from to word = IsWordOf-word_of to (value_of from word)

-- a cast of a word to its own domain changes nothing
pub cast_own : (d : Domain) (word : ℕ) → IsWordOf d word → cast_of d d word ≡ word
cast_own Bool word p = each_truth (λ w. cast_of Bool Bool w ≡ w) refl refl word p
cast_own Int64 word p = residue-signed word p
cast_own Uint64 word p = omega arith
cast_own (User k) word p = omega arith

-- a whole number of 64 bits with a sign fits them
signed : (z : ℤ) → is_value_of Int64 z ≡ true → FitsSigned w64 z
signed (pos n) h = grind (arith, nat_tests)
signed (negsuc n) h = grind (arith, nat_tests)

-- a whole number of 64 bits without a sign is its own residue
unsigned : (z : ℤ) → is_value_of Uint64 z ≡ true → pos (residue z) ≡ z
unsigned (pos n) h = let small : n < 2 ^ 64 = grind (arith, nat_tests) in ap pos (mod-eq_of_lt small)
unsigned (negsuc n) h = absurd (cc)

-- the word that holds a value of a domain stands for that value: what is set is what is got
pub value_of-word_of : (d : Domain) (z : ℤ) → is_value_of d z ≡ true → value_of d (word_of d z) ≡ z
unfolding int_wrap
value_of-word_of Bool (pos zero) h = refl
value_of-word_of Bool (pos (suc zero)) h = refl
value_of-word_of Bool (pos (suc (suc n))) h = absurd (grind (arith, nat_tests))
value_of-word_of Bool (negsuc n) h = absurd (cc)
value_of-word_of Int64 z h = int_wrap_fits w64 z (signed z h)
value_of-word_of Uint64 z h = unsigned z h
value_of-word_of (User k) z h = unsigned z h

-- a word of INT64 is 0 where its value is
signed_zero : (word : ℕ) → word < 2 ^ 64 → value_of Bool (cast_of Int64 Bool word) ≡ value_of Bool word
signed_zero word small = grind (arith, nat_tests)

signed_truth : (word : ℕ) → word < 2 ^ 64 → cast_of Int64 Bool word ≡ cast_of Uint64 Bool word
signed_truth word small = grind (arith, nat_tests)

-- a word stands for the same value in a domain, whether it is cast there or not: an operator needs no cast before it
pub value_of-cast : (from to : Domain) (word : ℕ) → are_compatible from to ≡ true → IsWordOf from word
    → value_of to (cast_of from to word) ≡ value_of to word
value_of-cast Bool Bool word h p = each_truth (λ w. value_of Bool (cast_of Bool Bool w) ≡ value_of Bool w) refl refl word p
value_of-cast Bool Int64 word h p = each_truth (λ w. value_of Int64 (cast_of Bool Int64 w) ≡ value_of Int64 w) refl refl word p
value_of-cast Bool Uint64 word h p = each_truth (λ w. value_of Uint64 (cast_of Bool Uint64 w) ≡ value_of Uint64 w) refl refl word p
value_of-cast Int64 Bool word h p = signed_zero word p
value_of-cast Int64 Int64 word h p = signed-residue word
value_of-cast Int64 Uint64 word h p = ap pos (residue-signed word p)
value_of-cast Uint64 Bool word h p = grind (arith, nat_tests)
value_of-cast Uint64 Int64 word h p = ap (cast_signed w64) (mod-eq_of_lt p)
value_of-cast Uint64 Uint64 word h p = ap pos (mod-eq_of_lt p)
value_of-cast (User k) (User m) word h p = ap pos (mod-eq_of_lt p)
value_of-cast (User k) _ word h p = absurd (cc)
value_of-cast _ (User k) word h p = absurd (cc)

-- a cast to BOOL tells whether the word is 0, from whatever domain
truth-word : (d : Domain) (word : ℕ) → word < 2 ^ 64 → cast_of d Bool word ≡ cast_of Uint64 Bool word
truth-word Bool word small = grind (arith, nat_tests)
truth-word Int64 word small = signed_truth word small
truth-word Uint64 word small = refl
truth-word (User k) word small = refl

-- a cast to BOOL by way of another domain is the cast to BOOL
pub truth-cast : (from to : Domain) (word : ℕ) → IsWordOf from word → cast_of from Bool word ≡ cast_of to Bool word
truth-cast from to word p =
    let small = IsWordOf-lt from word p in truth-word from word small ∙ sym (truth-word to word small)

-- a cast to a domain is the same, whatever domain it was held to be of
pub own-cast : (from to : Domain) (word : ℕ) → are_compatible from to ≡ true → IsWordOf from word
    → cast_of from to word ≡ cast_of to to word
own-cast from to word h p =
    sym (cast_own to (cast_of from to word) (IsWordOf-cast from to word)) ∙ ap (word_of to) (value_of-cast from to word h p)

-- a word of 64 bits stands for the same value after a cast to its own domain
pub value_of-cast_own : (d : Domain) (word : ℕ) → word < 2 ^ 64 → value_of d (cast_of d d word) ≡ value_of d word
value_of-cast_own Bool word small = grind (arith, nat_tests)
value_of-cast_own Int64 word small = signed-residue word
value_of-cast_own Uint64 word small = ap pos (mod-eq_of_lt small)
value_of-cast_own (User k) word small = ap pos (mod-eq_of_lt small)
