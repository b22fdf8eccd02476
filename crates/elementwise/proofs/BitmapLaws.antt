-- What is made at the places of a bitmap is made at its positions.
use Rattle.std.proofs.Common.{◌≡◌, ℕ, ◌*◌, ◌/◌, ◌%◌, ◌<◌, ◌&&◌, ltb, true, false, if◌then◌else◌, cond, Bool, List, get_or, length, Option, Some, None, refl, ◌∙◌, ap, inl, inr, arith}
use Rattle.std.specs.Option.{option_and_then, option_map}
use Rattle.std.proofs.lemmas.Bool.{cases_Bool}
use Rattle.std.proofs.lemmas.Bool.Decides.{nat_tests}
use Rattle.std.proofs.lemmas.Nat.{div-mul-add, mod-mul-add}
use Rattle.bitmap.specs.Bitmaps.{place_of}
use Rattle.bitmap.proofs.PlaceLaws.{place_inside}
use Rattle.lanes.specs.Bits.{has_bit}
use Rattle.model.specs.declared.entry.Entry.{Entry}
use Rattle.model.specs.Entries.{IsInside, word_at}
use Rattle.store.proofs.Content.{nothing_outside}

-- words at the places of a shape, among them those of entries at their positions
pub record AreWordsOf (rows cols : ℕ) (es : List Entry) (words : List ℕ) : Type 0 where
  pub inside : IsInside rows cols es
  pub long : length words ≡ rows * cols
  pub here : (i j word : ℕ) → word_at es i j ≡ Some word → get_or words (place_of cols i j) 0 ≡ word

module _ (rows cols : ℕ) (es : List Entry) (words : List ℕ) (are : AreWordsOf rows cols es words) where
  -- an entry's place is one of those of the words
  pub place_there : (i j word : ℕ) → word_at es i j ≡ Some word
      → (place_of cols i j < length words) × (j < cols)
  place_there i j word is =
      elim (cases_Bool (ltb i rows && ltb j cols)) [
        | inl inside ↦
            let i_in : i < rows = grind (arith, nat_tests) in
            let j_in : j < cols = grind (arith, nat_tests) in
            let place = place_inside rows cols i j i_in j_in in
            let long = are.long in
            (omega arith, j_in)
        | inr out ↦ let none = nothing_outside rows cols es i j are.inside out in absurd (cc)
      ]

  -- what is made of each word, its row and its column
  pub made_at : (f : ℕ → ℕ → ℕ → ℕ) (made : List ℕ)
      → ((at : ℕ) → at < length words → get_or made at 0 ≡ f (at / cols) (at % cols) (get_or words at 0))
      → (i j : ℕ)
      → option_map (λ _. get_or made (place_of cols i j) 0) (word_at es i j) ≡ option_map (f i j) (word_at es i j)
  made_at f made each i j =
      let at = place_of cols i j in
      let go : (there : Option ℕ) → word_at es i j ≡ there
      → option_map (λ _. get_or made at 0) there ≡ option_map (f i j) there = λ there. elim there as (λ o. word_at es i j ≡ o → option_map (λ _. get_or made at 0) o ≡ option_map (f i j) o) [
        | None ↦ λ is. refl
        | Some w ↦ λ is.
            let place = place_there i j w is in
            ap Some (each at place.0 ∙ rw (div-mul-add i cols j place.1, mod-mul-add i cols j place.1, are.here i j w is) refl)
      ] in
      go (word_at es i j) refl

  -- the words that pass a test, which looks at their rows and columns
  pub kept_at : (test : ℕ → ℕ → ℕ → Bool) (bits : List ℕ)
      → ((at : ℕ) → at < length words → has_bit bits at ≡ test (at / cols) (at % cols) (get_or words at 0))
      → (i j : ℕ) → cond (has_bit bits (place_of cols i j)) (word_at es i j) None
      ≡ option_and_then (λ word. if test i j word then Some word else None) (word_at es i j)
  kept_at test bits each i j =
      let at = place_of cols i j in
      let go : (there : Option ℕ) → word_at es i j ≡ there
      → cond (has_bit bits at) there None ≡ option_and_then (λ word. if test i j word then Some word else None) there = λ there. elim there as (λ o. word_at es i j ≡ o → cond (has_bit bits at) o None ≡ option_and_then (λ word. if test i j word then Some word else None) o) [
        | None ↦ λ is. elim (has_bit bits at) as (λ b. ◌≡◌ {A = Option ℕ} (cond b None None) None) [ true ↦ refl | false ↦ refl ]
        | Some w ↦ λ is.
            let place = place_there i j w is in
            ap (λ b. cond b (Some w) None) (each at place.0 ∙ rw (div-mul-add i cols j place.1, mod-mul-add i cols j place.1, are.here i j w is) refl)
      ] in
      go (word_at es i j) refl
