-- The words of a line by what stands at its front.
use Rattle.std.proofs.Common.{◌≡◌, ℕ, zero, suc, subst, add-zero, ◌+◌, ◌<◌, ◌≤◌, ◌==◌, ◌&&◌, Bool, true, false, not, List, [], ◌∷◌, ◌++◌, length, take, drop, get_or, refl, ap, sym, ◌∙◌, filter, inl, inr, arith, Option, None, Some, MatchOption, IfSome, is_some}
use denote.Ref.{Bor}
use Rattle.std.specs.List.{list_all, slice_split}
use Rattle.std.proofs.lemmas.Bool.{and_parts, and_right, cases_Bool}
use Rattle.std.proofs.lemmas.Bool.Decides.{nat_tests}
use Rattle.std.proofs.lemmas.List.{drop_more, get_or-drop, length-drop, length-take-le, take-append-drop}
use Rattle.model.specs.Grammar.{digits_value, is_blank, is_digit, nth_word, words_of}
use Rattle.model.specs.MatrixMarket.{are_digits}
use Rattle.mmio.specs.Fronts.{LeadsWithNumber, before, behind_front, from, front_of, in_64_bits, is_apart}

-- the parts that aren't empty
abbrev filled : List (List ℕ) → List (List ℕ)
filled parts = filter (λ word. not (length word == 0)) parts

-- what passes the test is no part
split_first : (p : ℕ → Bool) (b : ℕ) (bs : List ℕ) → p b ≡ true
    → filled (slice_split p (b ∷ bs)) ≡ filled (slice_split p bs)
split_first p b bs passes = rw passes refl

-- a blank is no part of a word
pub words_of-blank : (text : List ℕ) (i : ℕ) → i < length text → is_blank (get_or text i 0) ≡ true
    → words_of (drop i text) ≡ words_of (drop (i + 1) text)
words_of-blank text i inside blank =
    ap words_of (drop_more text i 0 inside) ∙ split_first is_blank (get_or text i 0) (drop (i + 1) text) blank

-- the parts of a text: the first, and those of what follows it
record Parted (p : ℕ → Bool) (text : List ℕ) : Type 0 where
  others : List (List ℕ)
  cut : slice_split p text ≡ before p text ∷ others
  words : filled others ≡ filled (slice_split p (from p text))

parted : (p : ℕ → Bool) (text : List ℕ) → Parted p text
parted p [] = record { others = []; cut = refl; words = refl }
parted p (b ∷ bs) = elim (cases_Bool (p b)) [
  | inl passes ↦ record { others = slice_split p bs; cut = rw passes refl; words = rw (passes, passes) refl }
  | inr fails ↦ let rest = parted p bs in record { others = rest.others; cut = rw (fails, rest.cut) refl; words = rw fails rest.words }
]

split_front : (p : ℕ → Bool) (b : ℕ) (bs : List ℕ) → p b ≡ false
    → filled (slice_split p (b ∷ bs)) ≡ before p (b ∷ bs) ∷ filled (slice_split p (from p (b ∷ bs)))
split_front p b bs fails =
    let rest = parted p bs in
    let some : (length (b ∷ before p bs) == 0) ≡ false = grind (arith, nat_tests) in
    rw (fails, rest.cut, some, rest.words) refl

-- a byte that is no blank begins the first word
pub words_of-front : (b : ℕ) (bs : List ℕ) → is_blank b ≡ false
    → words_of (b ∷ bs) ≡ front_of (b ∷ bs) ∷ words_of (behind_front (b ∷ bs))
words_of-front b bs other = split_front is_blank b bs other

-- ..also where nothing is known to stand there
pub words_of-first : (text : List ℕ) → 0 < length text → is_blank (get_or text 0 0) ≡ false
    → words_of text ≡ front_of text ∷ words_of (behind_front text)
words_of-first [] some other = absurd (omega arith)
words_of-first (b ∷ bs) some other = words_of-front b bs other

digit_is_no_blank : (b : ℕ) → is_digit b ≡ true → is_blank b ≡ false
digit_is_no_blank b digit = grind (arith, nat_tests)

-- digits up to a blank or the end are the first word
pub front_of-digits : (word rest : List ℕ) → list_all is_digit word ≡ true → is_apart rest ≡ true
    → (front_of (word ++ rest) ≡ word) × (behind_front (word ++ rest) ≡ rest)
front_of-digits [] [] digits apart = (refl, refl)
front_of-digits [] (b ∷ bs) digits apart = (rw apart refl, rw apart refl)
front_of-digits (d ∷ ds) rest digits apart =
    let parts = and_parts _ _ digits in
    let more = front_of-digits ds rest parts.1 apart in
    let other = digit_is_no_blank d parts.0 in
    (rw (other, more.0) refl, rw (other, more.1) refl)

-- no digits are at the front of what begins otherwise
pub are_digits-none : (rest : List ℕ) → (0 < length rest → is_digit (get_or rest 0 0) ≡ false)
    → are_digits (front_of rest) ≡ false
are_digits-none [] ends = refl
are_digits-none (b ∷ bs) ends = elim (cases_Bool (is_blank b)) [
  | inl blank ↦ rw blank refl
  | inr other ↦ let none = ends (omega arith) in rw (other, none) (grind (arith, nat_tests))
]

more_is_no_digits : (word rest : List ℕ) → list_all is_digit word ≡ true → is_apart rest ≡ false
    → (0 < length rest → is_digit (get_or rest 0 0) ≡ false) → list_all is_digit (front_of (word ++ rest)) ≡ false
more_is_no_digits [] [] digits apart ends = absurd (cc)
more_is_no_digits [] (b ∷ bs) digits apart ends = let none = ends (omega arith) in rw (apart, none) refl
more_is_no_digits (d ∷ ds) rest digits apart ends =
    let parts = and_parts _ _ digits in
    rw (digit_is_no_blank d parts.0, parts.0) (more_is_no_digits ds rest parts.1 apart ends)

-- nor where the word goes on behind its digits
pub are_digits-more : (word rest : List ℕ) → list_all is_digit word ≡ true → is_apart rest ≡ false
    → (0 < length rest → is_digit (get_or rest 0 0) ≡ false) → are_digits (front_of (word ++ rest)) ≡ false
are_digits-more word rest digits apart ends = rw (more_is_no_digits word rest digits apart ends) (grind (arith, nat_tests))

-- so many digits at the front of a text are its first word where a blank or the end follows
pub front_of-cut : (n : ℕ) (text : List ℕ) → list_all is_digit (take n text) ≡ true → is_apart (drop n text) ≡ true
    → (front_of text ≡ take n text) × (behind_front text ≡ drop n text)
front_of-cut n text digits apart =
    let e = take-append-drop n text in
    let parts = front_of-digits (take n text) (drop n text) digits apart in
    (ap front_of (sym e) ∙ parts.0, ap behind_front (sym e) ∙ parts.1)

-- ..and what they tell of that word
pub are_digits-cut : (n : ℕ) (text : List ℕ) → n ≤ length text → list_all is_digit (take n text) ≡ true
    → (n < length text → is_digit (get_or text n 0) ≡ false)
    → are_digits (front_of text) ≡ (not (n == 0) && is_apart (drop n text))
are_digits-cut zero text inside digits ends = are_digits-none text ends
are_digits-cut (suc n) text inside digits ends = elim (cases_Bool (is_apart (drop (suc n) text))) [
  | inl apart ↦
      let front = front_of-cut (suc n) text digits apart in
      let long = length-take-le (suc n) text inside in
      rw (front.0, digits, apart, long) refl
  | inr other ↦
      let none : 0 < length (drop (suc n) text) → is_digit (get_or (drop (suc n) text) 0 0) ≡ false =
      λ some. let inside : suc n < length text = omega (arith, length-drop (suc n) text) in rw (get_or-drop (suc n) text 0 0, add-zero) (ends inside) in
      ap (λ t. are_digits (front_of t)) (sym (take-append-drop (suc n) text))
      ∙ are_digits-more (take (suc n) text) (drop (suc n) text) digits other none
      ∙ sym (and_right (not (suc n == 0)) (is_apart (drop (suc n) text)) other)
]

first_digits : (text : List ℕ) → (0 < length text → is_blank (get_or text 0 0) ≡ false)
    → are_digits (nth_word (words_of text) 0) ≡ are_digits (front_of text)
first_digits [] begins = refl
first_digits (b ∷ bs) begins = rw (words_of-front b bs (begins (omega arith))) refl

-- a number in front leads the words
leading : (text : List ℕ) (number : Option ℕ) (rest : List ℕ) → (0 < length text → is_blank (get_or text 0 0) ≡ false)
    → are_digits (front_of text) ≡ true → number ≡ in_64_bits (digits_value (front_of text)) → rest ≡ behind_front text
    → LeadsWithNumber (words_of text) number (words_of rest)
leading [] number rest begins digits value behind = absurd (cc)
leading (b ∷ bs) number rest begins digits value behind =
    let words = words_of-front b bs (begins (omega arith)) in
    record { parts = rw (behind, words) refl; digits = rw words digits; value = rw words value }

-- the words of a line by its number in front
pub leads : (line text : List ℕ) (found : Option (Option ℕ × Bor (List ℕ))) → words_of text ≡ words_of line
    → (0 < length text → is_blank (get_or text 0 0) ≡ false)
    → is_some found ≡ are_digits (front_of text) → IfSome found (λ f. f.0 ≡ in_64_bits (digits_value (front_of text)))
    → IfSome found (λ f. f.1.now ≡ behind_front text)
    → MatchOption found (are_digits (nth_word (words_of line) 0) ≡ false)
    (λ f. LeadsWithNumber (words_of line) f.0 (words_of f.1.now))
leads line text None same begins digits value rest = ap (λ words. are_digits (nth_word words 0)) (sym same) ∙ first_digits text begins ∙ sym digits
leads line text (Some f) same begins digits value rest =
    subst (λ words. LeadsWithNumber words f.0 (words_of f.1.now)) same (leading text f.0 f.1.now begins (sym digits) value rest)
