-- Whether a line is silent, by its first byte that is no blank.
use Rattle.std.proofs.Common.{◌≡◌, ℕ, true, false, not, ◌==◌, List, [], ◌∷◌, length, filter, refl, arith, inl, inr}
use Rattle.std.specs.List.{find, onto_first, slice_split}
use Rattle.std.specs.Option.{option_map_or}
use Rattle.std.proofs.lemmas.Bool.{cases_Bool}
use Rattle.std.proofs.lemmas.Bool.Decides.{nat_tests}
use Rattle.model.specs.Grammar.{is_blank, is_silent, words_of}

-- a byte that is no blank begins the first word
first_word : (byte : ℕ) (parts : List (List ℕ))
    → is_silent (filter (λ word. not (length word == 0)) (onto_first byte parts)) ≡ (byte == 35)
first_word byte [] = refl
first_word byte (part ∷ parts) =
    let some : (length (byte ∷ part) == 0) ≡ false = grind (arith, nat_tests) in
    rw some refl

pub is_silent-words : (line : List ℕ) → is_silent (words_of line) ≡ option_map_or (λ first. first == 35)
    (find (λ byte. not (is_blank byte)) line) true
is_silent-words [] = refl
is_silent-words (byte ∷ bytes) = elim (cases_Bool (is_blank byte)) [
  | inl blank ↦ rw blank (is_silent-words bytes)
  | inr other ↦ rw other (first_word byte (slice_split is_blank bytes))
]
