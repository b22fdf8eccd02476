-- The first item of a word, by the digits that the word begins with.
use Rattle.std.proofs.Common.{◌≡◌, ◌∙◌, ℕ, ◌+◌, ◌<◌, ◌≤◌, ◌^◌, ◌==◌, Bool, List, [], ◌∷◌, length, take, drop, Some, None, false, true, nat_lt, refl, sym, ap, get_or, arith, inl, inr, ltb-false}
use Rattle.std.specs.List.{list_all, position_or_len}
use Rattle.std.proofs.lemmas.Bool.{cases_Bool, ltb-true}
use Rattle.std.proofs.lemmas.Bool.Decides.{nat_tests}
use Rattle.std.proofs.lemmas.List.{get_or-take, length-take-le, take_all}
use Rattle.std.proofs.lemmas.List.Folds.{list_all_at}
use Rattle.std.proofs.lemmas.List.Splits.{slice_split_first, slice_split_none}
use Rattle.std.proofs.lemmas.List.Sums.{fails_before_first, passes_at_first, position_or_len_is}
use Rattle.lines.proofs.NumberLaws.{number_of-digits, number_of-other}
use Rattle.model.specs.Grammar.{digits_value, is_digit, items_of, nth_word, number_of}

abbrev pub is_comma : ℕ → Bool
is_comma byte = byte == 44

no_comma : (byte : ℕ) → is_digit byte ≡ true → is_comma byte ≡ false
no_comma byte digit = grind (arith, nat_tests)

-- a word that begins with some digits
module _ (word : List ℕ) (count : ℕ) (within : count ≤ length word)
    (digits : list_all is_digit (take count word) ≡ true) where
  digit_at : (k d : ℕ) → k < count → is_digit (get_or word k d) ≡ true
  digit_at k d below = elim (cases_Bool (is_digit (get_or word k d))) [
    | inl digit ↦ digit
    | inr other ↦
        let long : length (take count word) ≡ count = length-take-le count word within in
        let same : get_or (take count word) k d ≡ get_or word k d = get_or-take count word k d below in
        let broken : list_all is_digit (take count word) ≡ false = list_all_at is_digit (take count word) k d (omega arith) (rw same other) in
        absurd (let bad : true ≡ false = sym digits ∙ broken in cc)
  ]

  no_comma_at : (k d : ℕ) → k < count → is_comma (get_or word k d) ≡ false
  no_comma_at k d below = no_comma (get_or word k d) (digit_at k d below)

  -- and has no other bytes
  pub items_of-digits : count ≡ length word → items_of word ≡ word ∷ []
  items_of-digits whole = slice_split_none is_comma word (λ k d inside. no_comma_at k d (omega arith))

  -- and then a comma
  pub items_of-comma : count < length word → is_comma (get_or word count 0) ≡ true
      → items_of word ≡ take count word ∷ items_of (drop (count + 1) word)
  items_of-comma inside comma =
      let same : position_or_len is_comma word ≡ count = position_or_len_is is_comma word count 0 within (λ k below. no_comma_at k 0 below) (λ _. comma) in
      rw same at (slice_split_first is_comma word 0 (omega (arith, inside, same)))

  -- so that the first item is a number, where the digits are few
  module _ (value : ℕ) (some : 0 < count) (few : count ≤ 19) (small : value < 2 ^ 64)
      (exact : value ≡ digits_value (take count word)) where
    first_number : number_of (take count word) ≡ Some value
    first_number =
        let long : length (take count word) ≡ count = length-take-le count word within in
        let all : take count (take count word) ≡ take count word = take_all count (take count word) (omega arith) in
        number_of-digits (take count word) value count (sym long) some few small (rw all exact) (rw all digits)

    pub first_item-digits : count ≡ length word → number_of (nth_word (items_of word) 0) ≡ Some value
    first_item-digits whole =
        let all : take count word ≡ word = take_all count word (omega arith) in
        rw (items_of-digits whole) (rw all at first_number)

    pub first_item-comma : count < length word → is_comma (get_or word count 0) ≡ true
        → number_of (nth_word (items_of word) 0) ≡ Some value
    first_item-comma inside comma = rw (items_of-comma inside comma) first_number

  behind_digits : count < length word → is_comma (get_or word count 0) ≡ false
      → position_or_len is_comma word < length word
      → is_comma (get_or word (position_or_len is_comma word) 0) ≡ true
      → count < position_or_len is_comma word
  behind_digits inside apart here comma = elim (cases_Bool (nat_lt count (position_or_len is_comma word))) [
    | inl t ↦ ltb-true _ _ t
    | inr f ↦
        let most : position_or_len is_comma word ≤ count = ltb-false _ _ f in
        elim (cases_Bool (nat_lt (position_or_len is_comma word) count)) [
          | inl u ↦ absurd (let bad : true ≡ false = sym comma ∙ no_comma_at (position_or_len is_comma word) 0 (ltb-true _ _ u) in cc)
          | inr g ↦
              let least : count ≤ position_or_len is_comma word = ltb-false _ _ g in
              let same : position_or_len is_comma word ≡ count = omega arith in
              absurd (let bad : true ≡ false = sym comma ∙ ap (λ k. is_comma (get_or word k 0)) same ∙ apart in cc)
        ]
  ]

  -- and then another byte, so that the first item is no number
  pub first_item-other : count < length word → is_digit (get_or word count 0) ≡ false
      → is_comma (get_or word count 0) ≡ false → number_of (nth_word (items_of word) 0) ≡ None
  first_item-other inside other apart =
      let place = position_or_len is_comma word in
      elim (cases_Bool (nat_lt place (length word))) [
        | inl t ↦
            let here : place < length word = ltb-true _ _ t in
            let comma : is_comma (get_or word place 0) ≡ true = passes_at_first is_comma word 0 here in
            let parts = slice_split_first is_comma word 0 here in
            let later : count < place = behind_digits inside apart here comma in
            let long : length (take place word) ≡ place = length-take-le place word (omega arith) in
            let same : get_or (take place word) count 0 ≡ get_or word count 0 = get_or-take place word count 0 later in
            rw parts (number_of-other (take place word) count (omega arith) (rw same other))
        | inr f ↦
            let past : length word ≤ place = ltb-false _ _ f in
            rw (slice_split_none is_comma word (λ k d below. fails_before_first is_comma word k d (omega arith))) (number_of-other word count inside other)
      ]

number_of-empty : (word : List ℕ) → length word ≤ 0 → number_of word ≡ None
unfolding number_of
number_of-empty [] none = refl
number_of-empty (b ∷ bs) none = absurd (omega arith)

-- where no digit begins a word, its first item is no number
pub first_item-none : (word : List ℕ) → (0 < length word → is_digit (get_or word 0 0) ≡ false)
    → number_of (nth_word (items_of word) 0) ≡ None
first_item-none word other = elim (cases_Bool (nat_lt 0 (length word))) [
  | inl t ↦
      let inside : 0 < length word = ltb-true _ _ t in
      elim (cases_Bool (is_comma (get_or word 0 0))) [
        | inl comma ↦ rw (items_of-comma word 0 (omega arith) refl inside comma) (number_of-empty [] (omega arith))
        | inr apart ↦ first_item-other word 0 (omega arith) refl inside (other inside) apart
      ]
  | inr f ↦
      let none : length word ≤ 0 = ltb-false _ _ f in
      rw (items_of-digits word 0 (omega arith) refl (omega arith)) (number_of-empty word none)
]
