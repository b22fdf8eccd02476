-- Lines of words, numbers and values as they are written, and what is read of them.
use Rattle.std.proofs.Common.{◌≡◌, ℕ, suc, ◌+◌, ◌-◌, ◌*◌, ◌^◌, ◌<◌, ◌≤◌, ◌==◌, Bool, true, false, List, [], ◌∷◌, ◌++◌, map, fold, length, get_or, Some, refl, ◌∙◌, ap, arith, append_assoc}
use Rattle.std.specs.Prelude.{ℤ, pos, negsuc, decimal}
use Rattle.std.specs.Fmt.{signed_decimal}
use Rattle.std.specs.List.{All, flat_map, list_all, slice_split}
use Rattle.std.specs.Str.Lines.{strip_carriage_return}
use Rattle.std.proofs.lemmas.Bool.{and_from, and_parts}
use Rattle.std.proofs.lemmas.Bool.Decides.{nat_tests}
use Rattle.std.proofs.lemmas.Fmt.{decimal_nonempty, digits_decimal, digits_value-decimal}
use Rattle.std.proofs.lemmas.List.Elements.{All-append, All-cons, All-head, All-nil, All-tail, All-weaker}
use Rattle.std.proofs.lemmas.List.Splits.{slice_split_at, slice_split_none}
use Rattle.std.proofs.lemmas.Str.Parse.{IsNumeralModel, numerals_by_fold}
use Rattle.algebra.proofs.Casts.{each_truth}
use Rattle.algebra.specs.declared.domain.Domain.{Domain}
use Rattle.algebra.specs.declared.domain.Domain.TheVariants.{Bool as Boolean, Int64, Uint64, User}
use Rattle.algebra.specs.Value.{IsWordOf, is_built_in, value_of}
use Rattle.model.specs.Grammar.{digits_value, is_blank, is_digit, lines_of, without_empty_last, words_of}
use Rattle.model.specs.MatrixMarket.{are_digits, digits_of, is_of_64_bits, whole_of}
use Rattle.model.specs.Text.{ended}

-- ---- lines

-- no byte is a line feed, or another control character
abbrev pub IsPrinted : List ℕ → Type 0
IsPrinted line = All (λ b. 32 ≤ b) line

parts_ended : (lines : List (List ℕ)) → All IsPrinted lines
    → slice_split (λ b. b == 10) (flat_map ended lines) ≡ lines ++ [] ∷ []
parts_ended [] all = refl
parts_ended (line ∷ lines) all =
    let feed : ℕ → Bool = λ b. b == 10 in
    let none : All (λ b. feed b ≡ false) line = All-weaker (λ b. 32 ≤ b) (λ b. feed b ≡ false) (λ b low. grind (arith, nat_tests)) line (All-head IsPrinted line lines all) in
    ap (slice_split feed) (append_assoc line (10 ∷ []) (flat_map ended lines))
    ∙ slice_split_at feed line 10 (flat_map ended lines) none refl
    ∙ ap (λ (parts : List (List ℕ)). line ∷ parts) (parts_ended lines (All-tail IsPrinted line lines all))

without_empty_last-ended : (lines : List (List ℕ)) → without_empty_last (lines ++ [] ∷ []) ≡ lines
without_empty_last-ended [] = refl
without_empty_last-ended (line ∷ []) = refl
without_empty_last-ended (line ∷ next ∷ lines) = ap (λ (lines : List (List ℕ)). line ∷ lines) (without_empty_last-ended (next ∷ lines))

unstripped : (line : List ℕ) → IsPrinted line → strip_carriage_return line ≡ line
unstripped [] all = refl
unstripped (b ∷ bs) all =
    let last : 32 ≤ get_or (b ∷ bs) (length (b ∷ bs) - 1) 0 = all (length (b ∷ bs) - 1) 0 (omega arith) in
    let other : (get_or (b ∷ bs) (length (b ∷ bs) - 1) 0 == 13) ≡ false = grind (arith, nat_tests) in
    rw other refl

all_unstripped : (lines : List (List ℕ)) → All IsPrinted lines → map strip_carriage_return lines ≡ lines
all_unstripped [] all = refl
all_unstripped (line ∷ lines) all = rw (unstripped line (All-head IsPrinted line lines all), all_unstripped lines (All-tail IsPrinted line lines all)) refl

-- the lines of lines that are ended are these lines
pub lines_of-ended : (lines : List (List ℕ)) → All IsPrinted lines → lines_of (flat_map ended lines) ≡ lines
unfolding lines_of
lines_of-ended lines all = rw (parts_ended lines all, without_empty_last-ended lines) (all_unstripped lines all)

-- ---- words

-- a word of a line: it has a byte, and none is a blank
pub record IsWord (word : List ℕ) : Type 0 where
  pub filled : 0 < length word
  pub whole : All (λ b. 33 ≤ b) word

no_blanks : (word : List ℕ) → IsWord word → All (λ b. is_blank b ≡ false) word
no_blanks word is = All-weaker (λ b. 33 ≤ b) (λ b. is_blank b ≡ false) (λ b low. grind (arith, nat_tests)) word is.whole

not_empty : (word : List ℕ) → IsWord word → (length word == 0) ≡ false
not_empty word is = let filled = is.filled in grind (arith, nat_tests)

pub words_of-three : (a b c : List ℕ) → IsWord a → IsWord b → IsWord c
    → words_of (a ++ 32 ∷ b ++ 32 ∷ c) ≡ a ∷ b ∷ c ∷ []
words_of-three a b c p q r =
    let parts : slice_split is_blank (a ++ 32 ∷ b ++ 32 ∷ c) ≡ a ∷ b ∷ c ∷ [] =
    ap (slice_split is_blank) (append_assoc a (32 ∷ b) (32 ∷ c))
    ∙ slice_split_at is_blank a 32 (b ++ 32 ∷ c) (no_blanks a p) refl
    ∙ ap (λ (words : List (List ℕ)). a ∷ words) (slice_split_at is_blank b 32 c (no_blanks b q) refl ∙ ap (λ (words : List (List ℕ)). b ∷ words) (slice_split_none is_blank c (no_blanks c r))) in
    rw (parts, not_empty a p, not_empty b q, not_empty c r) refl

-- a line of three words
pub three_words-printed : (a b c : List ℕ) → IsWord a → IsWord b → IsWord c → IsPrinted (a ++ 32 ∷ b ++ 32 ∷ c)
three_words-printed a b c p q r =
    let printed : (word : List ℕ) → IsWord word → IsPrinted word = λ word is. All-weaker (λ b. 33 ≤ b) (λ b. 32 ≤ b) (λ b low. omega arith) word is.whole in
    let space : 32 ≤ 32 = omega arith in
    let P : ℕ → Type 0 = λ b. 32 ≤ b in
    All-append P (a ++ 32 ∷ b) (32 ∷ c) (All-append P a (32 ∷ b) (printed a p) (All-cons P 32 b space (printed b q))) (All-cons P 32 c space (printed c r))

-- ---- numbers

numerals : IsNumeralModel (λ ds. list_all is_digit ds ≡ true) digits_value
numerals = numerals_by_fold (λ ds. list_all is_digit ds ≡ true)
    (record {
      empty = refl;
      parts = λ c cs is. (let parts = and_parts (is_digit c) (list_all is_digit cs) is in ((grind (arith, nat_tests), grind (arith, nat_tests)), parts.1));
      more = λ c cs inside rest. (let digit : is_digit c ≡ true = grind (arith, nat_tests) in and_from (is_digit c) (list_all is_digit cs) digit rest);
    })
    (λ n ds. fold (λ n b. n * 10 + (b - 48)) n ds)
    (record { empty = λ n. refl; more = λ n c cs inside. refl })

pub digits-whole : (digits : List ℕ) → list_all is_digit digits ≡ true → All (λ b. 48 ≤ b) digits
digits-whole [] is = All-nil (λ b. 48 ≤ b)
digits-whole (b ∷ digits) is =
    let parts = and_parts (is_digit b) (list_all is_digit digits) is in
    let low : 48 ≤ b = grind (arith, nat_tests) in
    All-cons (λ b. 48 ≤ b) b digits low (digits-whole digits parts.1)

-- a word that writes a number
pub record IsNumber (n : ℕ) (text : List ℕ) : Type 0 where
  pub word : IsWord text
  pub digits : are_digits text ≡ true
  pub value : digits_value text ≡ n
  pub first : 48 ≤ get_or text 0 0

pub decimal-number : (n : ℕ) → n < 2 ^ 64 → IsNumber n (decimal n)
decimal-number n small =
    let filled = decimal_nonempty n small in
    let digits = digits_decimal numerals n small in
    let whole = digits-whole (decimal n) digits in
    let long : (length (decimal n) == 0) ≡ false = grind (arith, nat_tests) in
    record {
      word = record { filled = filled; whole = All-weaker (λ b. 48 ≤ b) (λ b. 33 ≤ b) (λ b low. omega arith) (decimal n) whole };
      digits = rw (long, digits) refl;
      value = digits_value-decimal numerals n small;
      first = whole 0 0 filled;
    }

pub number-said : (n : ℕ) (text : List ℕ) → IsNumber n text → digits_of text ≡ Some n
number-said n text is = rw is.digits (ap Some is.value)

-- ---- values

whole_of-digits : (n : ℕ) (text : List ℕ) → IsNumber n text → whole_of text ≡ Some (pos n)
whole_of-digits n text is =
    let low = is.first in
    let no_minus : (get_or text 0 0 == 45) ≡ false = grind (arith, nat_tests) in
    let no_plus : (get_or text 0 0 == 43) ≡ false = grind (arith, nat_tests) in
    rw (no_minus, no_plus, number-said n text is) refl

-- a value of 64 bits, and the word that writes it
pub record IsValueText (z : ℤ) (text : List ℕ) : Type 0 where
  pub word : IsWord text
  pub value : whole_of text ≡ Some z

pub signed_decimal-value : (z : ℤ) → is_of_64_bits z ≡ true → IsValueText z (signed_decimal z)
signed_decimal-value (pos n) is =
    let small : n < 2 ^ 64 = grind (arith, nat_tests) in
    let number = decimal-number n small in
    record { word = number.word; value = whole_of-digits n (decimal n) number }
signed_decimal-value (negsuc n) is =
    let small : suc n < 2 ^ 64 = grind (arith, nat_tests) in
    let number = decimal-number (suc n) small in
    let minus : 33 ≤ 45 = omega arith in
    record {
      word = record { filled = omega arith; whole = All-cons (λ b. 33 ≤ b) 45 (decimal (suc n)) minus number.word.whole };
      value = rw (number-said (suc n) (decimal (suc n)) number) refl;
    }

pub value_of-of_64_bits : (domain : Domain) (word : ℕ) → is_built_in domain ≡ true → IsWordOf domain word
    → is_of_64_bits (value_of domain word) ≡ true
value_of-of_64_bits Boolean word built_in is = each_truth (λ w. is_of_64_bits (value_of Boolean w) ≡ true) refl refl word is
value_of-of_64_bits Int64 word built_in is = grind (arith, nat_tests)
value_of-of_64_bits Uint64 word built_in is = grind (arith, nat_tests)
value_of-of_64_bits (User k) word built_in is = absurd (cc)
