-- What the word of a value says, by its sign and the digits behind it.
use Rattle.std.proofs.Common.{◌≡◌, ℕ, ℤ, zero, suc, pos, negsuc, neg_ℤ, ◌<◌, ◌==◌, ◌||◌, Bool, true, false, cond, List, [], ◌∷◌, length, drop, Option, None, Some, refl, ap, sym, ◌∙◌, arith, slice_index}
use Rattle.std.specs.Option.{option_map}
use Rattle.std.proofs.lemmas.Bool.Decides.{nat_tests}
use Rattle.algebra.specs.Value.{residue, word_of}
use Rattle.algebra.specs.declared.domain.Domain.{Domain}
use Rattle.algebra.specs.declared.domain.Domain.TheVariants.{Bool as Boolean, Int64, Uint64, User}
use Rattle.model.specs.Grammar.{◌>>=◌, digits_value, is_blank, nth_word, where_it, words_of}
use Rattle.model.specs.MatrixMarket.{are_digits, digits_of, is_of_64_bits}
use Rattle.mmio.proofs.FrontLaws.{words_of-front}
use Rattle.mmio.specs.Fronts.{before, behind_front, from, front_of, in_64_bits}
use Rattle.mmio.specs.Said.{in_domain, is_negative, only_residue, residue_said, signed_word, unsigned}

-- ---- signs

before_without : (p : ℕ → Bool) (s : Bool) (b : ℕ) (bs : List ℕ) → p b ≡ false
    → before p (cond s bs (b ∷ bs)) ≡ cond s (before p bs) (b ∷ before p bs)
before_without p true b bs other = refl
before_without p false b bs other = rw other refl

from_without : (p : ℕ → Bool) (s : Bool) (b : ℕ) (bs : List ℕ) → p b ≡ false
    → from p (cond s bs (b ∷ bs)) ≡ from p (b ∷ bs)
from_without p true b bs other = rw other refl
from_without p false b bs other = refl

before_first : (p : ℕ → Bool) (b : ℕ) (bs : List ℕ) → p b ≡ false → before p (b ∷ bs) ≡ b ∷ before p bs
before_first p b bs other = rw other refl

-- the first word without its sign stands at the front of the text without it
front_of-unsigned : (b : ℕ) (bs : List ℕ) → is_blank b ≡ false
    → front_of (unsigned (b ∷ bs)) ≡ unsigned (b ∷ front_of bs)
front_of-unsigned b bs other = before_without is_blank ((b == 45) || (b == 43)) b bs other

behind_front-unsigned : (b : ℕ) (bs : List ℕ) → is_blank b ≡ false
    → behind_front (unsigned (b ∷ bs)) ≡ behind_front (b ∷ bs)
behind_front-unsigned b bs other = from_without is_blank ((b == 45) || (b == 43)) b bs other

-- ---- ranges

positive : (n : ℕ) → option_map residue (where_it is_of_64_bits (Some (pos n))) ≡ in_64_bits n
positive n = grind (arith, nat_tests)

negative : (n : ℕ)
    → option_map residue (where_it is_of_64_bits (Some (neg_ℤ (pos n)))) ≡ signed_word true (in_64_bits n)
negative zero = refl
negative (suc k) = grind (arith, nat_tests)

by_digits : (d : Bool) (n : ℕ)
    → option_map residue (where_it is_of_64_bits ((cond d (Some n) None) >>= λ n. Some (pos n))) ≡ cond d (in_64_bits n) None
by_digits true n = positive n
by_digits false n = refl

by_digits_below : (d : Bool) (n : ℕ)
    → option_map residue (where_it is_of_64_bits ((cond d (Some n) None) >>= λ n. Some (neg_ℤ (pos n)))) ≡ cond d (signed_word true (in_64_bits n)) None
by_digits_below true n = negative n
by_digits_below false n = refl

by_sign : (minus plus : Bool) (rest word : List ℕ)
    → option_map residue (where_it is_of_64_bits (cond minus (digits_of rest >>= λ n. Some (neg_ℤ (pos n))) (cond plus (digits_of rest >>= λ n. Some (pos n)) (digits_of word >>= λ n. Some (pos n)))))
    ≡ cond (are_digits (cond (minus || plus) rest word)) (signed_word minus (in_64_bits (digits_value (cond (minus || plus) rest word)))) None
by_sign true plus rest word = by_digits_below (are_digits rest) (digits_value rest)
by_sign false true rest word = by_digits (are_digits rest) (digits_value rest)
by_sign false false rest word = by_digits (are_digits word) (digits_value word)

-- a word says what the digits behind its sign do
pub residue_said-is : (word : List ℕ) → residue_said word ≡ cond (are_digits (unsigned word))
    (signed_word (is_negative word) (in_64_bits (digits_value (unsigned word)))) None
residue_said-is word = by_sign (slice_index word 0 == 45) (slice_index word 0 == 43) (drop 1 word) word

-- a value in a domain, by its word modulo 2 ^ 64
pub in_domain-residue : (domain : Domain) (z : ℤ) → is_of_64_bits z ≡ true
    → in_domain domain (residue z) ≡ word_of domain z
in_domain-residue Boolean (pos n) small = grind (arith, nat_tests)
in_domain-residue Boolean (negsuc n) small = grind (arith, nat_tests)
in_domain-residue Int64 z small = refl
in_domain-residue Uint64 z small = refl
in_domain-residue (User k) z small = refl

-- ---- the only word of a line

by_count : {X : Type 0} (front : List ℕ) (words : List (List ℕ)) (x y : X)
    → cond (length (front ∷ words) == 1) x y ≡ cond (length words == 0) x y
by_count front words x y = grind (arith, nat_tests)

-- a word by its own digits, where those stand elsewhere too
at_digits : (minus : Bool) (unsigned digits : List ℕ) → digits ≡ unsigned → are_digits digits ≡ true
    → cond (are_digits unsigned)
    (signed_word minus (in_64_bits (digits_value unsigned))) None ≡ signed_word minus (in_64_bits (digits_value digits))
at_digits minus unsigned digits same are = rw (← same, are) refl

at_others : (x : Option ℕ) (unsigned digits : List ℕ) → digits ≡ unsigned → are_digits digits ≡ false
    → cond (are_digits unsigned) x None ≡ None
at_others x unsigned digits same are = rw (← same, are) refl

-- the words of a line whose first one begins here
line_is : (line : List ℕ) (b : ℕ) (bs : List ℕ) → words_of (b ∷ bs) ≡ words_of line → is_blank b ≡ false
    → words_of line ≡ (b ∷ front_of bs) ∷ words_of (behind_front (b ∷ bs))
line_is line b bs same other =
    sym same ∙ words_of-front b bs other ∙ ap (λ front. front ∷ words_of (behind_front (b ∷ bs))) (before_first is_blank b bs other)

digits_only : (line text : List ℕ) → words_of text ≡ words_of line
    → (0 < length text → is_blank (slice_index text 0) ≡ false) → are_digits (front_of (unsigned text)) ≡ true
    → only_residue (words_of line) ≡ cond (length (words_of (behind_front (unsigned text))) == 0)
    (Some (signed_word (is_negative text) (in_64_bits (digits_value (front_of (unsigned text)))))) None
digits_only line [] same begins digits = absurd (cc)
digits_only line (b ∷ bs) same begins digits =
    let other : is_blank b ≡ false = begins (omega arith) in
    let words = words_of (behind_front (b ∷ bs)) in
    let value : residue_said (b ∷ front_of bs) ≡ signed_word (b == 45) (in_64_bits (digits_value (front_of (unsigned (b ∷ bs))))) =
    residue_said-is (b ∷ front_of bs) ∙ at_digits (b == 45) (unsigned (b ∷ front_of bs)) (front_of (unsigned (b ∷ bs))) (front_of-unsigned b bs other) digits in
    ap only_residue (line_is line b bs same other)
    ∙ by_count (b ∷ front_of bs) words (Some (residue_said (b ∷ front_of bs))) None
    ∙ ap (λ v. cond (length words == 0) (Some v) None) value
    ∙ ap (λ rest. cond (length (words_of rest) == 0) (Some (signed_word (b == 45) (in_64_bits (digits_value (front_of (unsigned (b ∷ bs))))))) None) (sym (behind_front-unsigned b bs other))

others_only : (line text : List ℕ) → words_of text ≡ words_of line
    → (0 < length text → is_blank (slice_index text 0) ≡ false) → are_digits (front_of (unsigned text)) ≡ false
    → only_residue (words_of line) ≡ cond (length (words_of line) == 1) (Some None) None
others_only line [] same begins digits = rw (← same) refl
others_only line (b ∷ bs) same begins digits =
    let other : is_blank b ≡ false = begins (omega arith) in
    let value : residue_said (b ∷ front_of bs) ≡ None =
    residue_said-is (b ∷ front_of bs) ∙ at_others _ (unsigned (b ∷ front_of bs)) (front_of (unsigned (b ∷ bs))) (front_of-unsigned b bs other) digits in
    let first : nth_word (words_of line) 0 ≡ b ∷ front_of bs = ap (λ words. nth_word words 0) (line_is line b bs same other) in
    ap (λ v. cond (length (words_of line) == 1) (Some v) None) (ap residue_said first ∙ value)

-- what the digits behind a sign at the front of a line say, where they are a word
pub only_residue-digits : (line text digits rest : List ℕ) (minus : Bool) (magnitude : Option ℕ)
    → words_of text ≡ words_of line → (0 < length text → is_blank (slice_index text 0) ≡ false)
    → minus ≡ is_negative text → digits ≡ unsigned text → true ≡ are_digits (front_of digits)
    → magnitude ≡ in_64_bits (digits_value (front_of digits)) → rest ≡ behind_front digits
    → only_residue (words_of line) ≡ cond (length (words_of rest) == 0) (Some (signed_word minus magnitude)) None
only_residue-digits line text digits rest minus magnitude same begins sign unsigned are value behind =
    let all = digits_only line text same begins (rw (← unsigned) (sym are)) in
    rw (value, behind, unsigned, sign) all

-- ..and where they aren't
pub only_residue-other : (line text digits : List ℕ) → words_of text ≡ words_of line
    → (0 < length text → is_blank (slice_index text 0) ≡ false)
    → digits ≡ unsigned text → false ≡ are_digits (front_of digits)
    → only_residue (words_of line) ≡ cond (length (words_of text) == 1) (Some None) None
only_residue-other line text digits same begins unsigned are =
    let all = others_only line text same begins (rw (← unsigned) (sym are)) in rw same all
