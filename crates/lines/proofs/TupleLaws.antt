-- Tuples by the items of their words.
use Rattle.std.proofs.Common.{◌≡◌, ◌∙◌, ℕ, ◌+◌, ◌-◌, ◌<◌, ◌≤◌, ◌==◌, ◌⊎◌, pos, List, [], ◌∷◌, Option, length, drop, Some, None, false, true, nat_lt, refl, sym, ap, get_or, get_or-drop, length-drop, arith, inl, inr, ltb-false}
use Rattle.std.specs.List.{count_by, list_all, position_or_len}
use Rattle.std.specs.Option.{option_and_then, option_map}
use Rattle.std.proofs.lemmas.Bool.{cases_Bool, ltb-true}
use Rattle.std.proofs.lemmas.Bool.Decides.{nat_tests}
use Rattle.std.proofs.lemmas.List.Folds.{list_all_at}
use Rattle.std.proofs.lemmas.List.Splits.{length-slice_split, slice_split_first, slice_split_none}
use Rattle.std.proofs.lemmas.List.Sums.{fails_before_first, passes_at_first}
use Rattle.lines.proofs.ItemLaws.{is_comma}
use Rattle.lines.proofs.NumberLaws.{number_of-other}
use Rattle.model.specs.declared.shape.Place.TheVariants.{One, Two}
use Rattle.model.specs.Grammar.{is_digit, items_of, nth_word, number_of, tuple_of, value_of_word}

-- ---- the items of a word

first_and_others : (items : List (List ℕ)) → 0 < length items → items ≡ nth_word items 0 ∷ drop 1 items
first_and_others [] some = absurd (omega arith)
first_and_others (item ∷ items) some = refl

-- a word has a first item
pub items_of-first : (word : List ℕ) (others : List (List ℕ)) → drop 1 (items_of word) ≡ others
    → items_of word ≡ nth_word (items_of word) 0 ∷ others
items_of-first word others is =
    let count : length (items_of word) ≡ count_by is_comma word + 1 = length-slice_split is_comma word in
    first_and_others (items_of word) (omega arith) ∙ ap (λ more. nth_word (items_of word) 0 ∷ more) is

some_items : (word : List ℕ) → 1 ≤ length (items_of word)
some_items word =
    let count : length (items_of word) ≡ count_by is_comma word + 1 = length-slice_split is_comma word in omega arith

-- ---- values

no_digit : (byte : ℕ) → is_comma byte ≡ true → is_digit byte ≡ false
no_digit byte comma = grind (arith, nat_tests)

no_sign : (byte : ℕ) → (byte == 45) ≡ true → is_comma byte ≡ true → ⊥
no_sign byte sign comma = grind (arith, nat_tests)

sign_no_digit : (byte : ℕ) → (byte == 45) ≡ true → is_digit byte ≡ false
sign_no_digit byte sign = grind (arith, nat_tests)

-- a word with a comma is no value
value_of-comma : (word : List ℕ) (place : ℕ) → place < length word → is_comma (get_or word place 0) ≡ true
    → value_of_word word ≡ None
unfolding value_of_word
value_of-comma word place inside comma = elim (cases_Bool (get_or word 0 0 == 45)) [
  | inl sign ↦
      let behind : 0 < place = elim (cases_Bool (nat_lt 0 place)) [
        | inl t ↦ ltb-true _ _ t
        | inr f ↦
            let none : place ≡ 0 = let past : place ≤ 0 = ltb-false _ _ f in omega arith in
            absurd (no_sign (get_or word 0 0) sign (ap (λ k. is_comma (get_or word k 0)) (sym none) ∙ comma))
      ] in
      let size : length (drop 1 word) ≡ length word - 1 = length-drop 1 word in
      let same : 1 + (place - 1) ≡ place = omega arith in
      let there : is_digit (get_or (drop 1 word) (place - 1) 0) ≡ false = rw (get_or-drop, same) (no_digit (get_or word place 0) comma) in
      let broken : list_all is_digit (drop 1 word) ≡ false = list_all_at is_digit (drop 1 word) (place - 1) 0 (omega arith) there in
      rw sign (grind (arith, nat_tests))
  | inr plain ↦ rw (plain, number_of-other word place inside (no_digit (get_or word place 0) comma)) refl
]

-- a number is a value
value_of-number : (word : List ℕ) (n : ℕ) → number_of word ≡ Some n → value_of_word word ≡ Some (pos n)
unfolding value_of_word
value_of-number [] n is = rw is refl
value_of-number (byte ∷ bytes) n is = elim (cases_Bool (byte == 45)) [
  | inl sign ↦
      let none : number_of (byte ∷ bytes) ≡ None = number_of-other (byte ∷ bytes) 0 (omega arith) (sign_no_digit byte sign) in
      absurd (let bad : Some n ≡ None = sym is ∙ none in cc)
  | inr plain ↦ rw (plain, is) refl
]

-- a word is its only item, or is no value and has more items
one_or_more : (word : List ℕ)
    → (items_of word ≡ word ∷ []) ⊎ ((value_of_word word ≡ None) × (2 ≤ length (items_of word)))
one_or_more word = elim (cases_Bool (nat_lt (position_or_len is_comma word) (length word))) [
  | inl t ↦
      let inside : position_or_len is_comma word < length word = ltb-true _ _ t in
      let parts = slice_split_first is_comma word 0 inside in
      inr (value_of-comma word (position_or_len is_comma word) inside (passes_at_first is_comma word 0 inside), rw parts (let more = some_items (drop (position_or_len is_comma word + 1) word) in omega arith))
  | inr f ↦
      let past : length word ≤ position_or_len is_comma word = ltb-false _ _ f in
      inl (slice_split_none is_comma word (λ k d below. fails_before_first is_comma word k d (omega arith)))
]

-- ---- tuples

then_some : {A B : Type 0} (f : A → B) (o : Option A) → option_and_then (λ x. Some (f x)) o ≡ option_map f o
then_some f None = refl
then_some f (Some x) = refl

-- without an index first there is no tuple
pub tuple_of-no_index : (word : List ℕ) → number_of (nth_word (items_of word) 0) ≡ None → tuple_of word ≡ None
unfolding tuple_of
tuple_of-no_index word none = elim (cases_Bool (length (items_of word) == 2)) [
  | inl two ↦ rw (two, none) refl
  | inr other ↦ elim (cases_Bool (length (items_of word) == 3)) [
    | inl three ↦ rw (other, three, none) refl
    | inr more ↦ rw (other, more) refl
  ]
]

-- an index alone is none
pub tuple_of-one_item : (word first : List ℕ) → items_of word ≡ first ∷ [] → tuple_of word ≡ None
unfolding tuple_of
tuple_of-one_item word first is = rw is refl

-- an index, and a number
pub tuple_of-number : (word first second : List ℕ) (i n : ℕ) → items_of word ≡ first ∷ second ∷ []
    → number_of first ≡ Some i → number_of second ≡ Some n
    → tuple_of word ≡ Some (record { place = One i; value = pos n })
unfolding tuple_of
tuple_of-number word first second i n is index number =
    let value : value_of_word second ≡ Some (pos n) = value_of-number second n number in
    rw (is, index, value) refl

-- an index, and what doesn't begin with one
pub tuple_of-one : (word first rest : List ℕ) (i : ℕ) → items_of word ≡ first ∷ items_of rest
    → number_of first ≡ Some i → number_of (nth_word (items_of rest) 0) ≡ None
    → tuple_of word ≡ option_map (λ value. record { place = One i; value = value }) (value_of_word rest)
unfolding tuple_of
tuple_of-one word first rest i is index none = elim (one_or_more rest) [
  | inl alone ↦ rw (is, alone, index) (then_some (λ value. record { place = One i; value = value }) (value_of_word rest))
  | inr more ↦
      let two : (length (items_of word) == 2) ≡ false = rw is (let long = more.1 in grind (arith, nat_tests)) in
      elim (cases_Bool (length (items_of word) == 3)) [
        | inl three ↦ rw (two, three, is, index, none, more.0) refl
        | inr others ↦ rw (two, others, more.0) refl
      ]
]

-- two indices
pub tuple_of-two : (word first rest second last : List ℕ) (i j : ℕ) → items_of word ≡ first ∷ items_of rest
    → items_of rest ≡ second ∷ items_of last → number_of first ≡ Some i → number_of second ≡ Some j
    → tuple_of word ≡ option_map (λ value. record { place = Two i j; value = value }) (value_of_word last)
unfolding tuple_of
tuple_of-two word first rest second last i j is others row col = elim (one_or_more last) [
  | inl alone ↦ rw (is, others, alone, row, col) (then_some (λ value. record { place = Two i j; value = value }) (value_of_word last))
  | inr more ↦
      let two : (length (items_of word) == 2) ≡ false = rw (is, others) (let long = more.1 in grind (arith, nat_tests)) in
      let three : (length (items_of word) == 3) ≡ false = rw (is, others) (let long = more.1 in grind (arith, nat_tests)) in
      rw (two, three, more.0) refl
]
