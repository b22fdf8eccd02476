-- Bits and words of two bitmaps, place by place, and other words at the same bits.
use Rattle.std.proofs.Common.{◌≡◌, ℕ, ◌+◌, ◌*◌, ◌/◌, ◌%◌, ◌^◌, ◌<◌, ◌≤◌, true, false, cond, ◌&&◌, ◌||◌, eqb, ltb, Bool, List, length, get_or, map, min, max, bit_and, bit_or, count_ones, Option, Some, None, refl, sym, ◌∙◌, ap, inl, inr, arith}
use Rattle.std.specs.Int.{bit_at}
use Rattle.std.specs.Option.{option_map}
use Rattle.std.specs.List.{sum, zip}
use Rattle.std.proofs.lemmas.Bool.{cases_Bool}
use Rattle.std.proofs.lemmas.Bool.Decides.{nat_tests}
use Rattle.std.proofs.lemmas.List.{ext_get_or, get_or-map, get_or_past, length-map}
use Rattle.std.proofs.lemmas.Slice.Zip.{length-zip, get_or-zip}
use Rattle.std.proofs.lemmas.Nat.Bits.{bit_at-lt, bit_at_and, bit_at_or}
use Rattle.lanes.specs.Bits.{has_bit}
use Rattle.lanes.specs.Lists.{zip_with}
use Rattle.model.specs.ElementWise.{of_both, of_either}
use Rattle.bitmap.specs.Bitmaps.{HasPlaces, place_of, word_in}
use Rattle.bitmap.proofs.PlaceLaws.{changed, held_is, map_of, none_outside, place_inside}
use Rattle.bitmap.proofs.PlacedEntries.{count_kept, ones_are}

-- ---- bits of two lists

pub length-zip_with : (f : ℕ → ℕ → ℕ) (xs ys : List ℕ) → length ys ≡ length xs
    → length (zip_with f xs ys) ≡ length xs
length-zip_with f xs ys same =
    let long = length-zip xs ys in
    length-map (zip xs ys) (λ p. f p.0 p.1) ∙ omega arith

pub get_or-zip_with : (f : ℕ → ℕ → ℕ) (xs ys : List ℕ) (k : ℕ) → length ys ≡ length xs → k < length xs
    → get_or (zip_with f xs ys) k 0 ≡ f (get_or xs k 0) (get_or ys k 0)
get_or-zip_with f xs ys k same within =
    let long = length-zip xs ys in
    get_or-map (λ p. f p.0 p.1) (zip xs ys) k (0, 0) 0 (omega arith)
    ∙ ap (λ (p : ℕ × ℕ). f p.0 p.1) (get_or-zip xs ys k (0, 0) within (omega arith))

-- also behind the last word, where there is none
zip_with_at : (f : ℕ → ℕ → ℕ) (xs ys : List ℕ) (k : ℕ) → length ys ≡ length xs → f 0 0 ≡ 0
    → get_or (zip_with f xs ys) k 0 ≡ f (get_or xs k 0) (get_or ys k 0)
zip_with_at f xs ys k same none =
    elim (cases_Bool (ltb k (length xs))) [
      | inl within ↦ get_or-zip_with f xs ys k same (grind (arith, nat_tests))
      | inr past ↦
          let le : length xs ≤ k = grind (arith, nat_tests) in
          let long = length-zip_with f xs ys same in
          get_or_past (zip_with f xs ys) k 0 (omega arith) ∙ rw (get_or_past xs k 0 le, get_or_past ys k 0 (omega arith)) (sym none)
    ]

pub min_one : (a b : ℕ) → a < 2 → b < 2 → eqb (min a b) 1 ≡ (eqb a 1 && eqb b 1)
min_one a b a_small b_small = grind (arith, nat_tests)

max_one : (a b : ℕ) → a < 2 → b < 2 → eqb (max a b) 1 ≡ (eqb a 1 || eqb b 1)
max_one a b a_small b_small = grind (arith, nat_tests)

pub both_bits : (xs ys : List ℕ) (k : ℕ) → length ys ≡ length xs
    → has_bit (zip_with bit_and xs ys) k ≡ (has_bit xs k && has_bit ys k)
both_bits xs ys k same =
    let a = get_or xs (k / 64) 0 in
    let b = get_or ys (k / 64) 0 in
    let i = k % 64 in
    ap (λ n. eqb (bit_at n i) 1) (zip_with_at bit_and xs ys (k / 64) same refl)
    ∙ ap (λ n. eqb n 1) (bit_at_and a b i) ∙ min_one (bit_at a i) (bit_at b i) (bit_at-lt a i) (bit_at-lt b i)

pub either_bit : (xs ys : List ℕ) (k : ℕ) → length ys ≡ length xs
    → has_bit (zip_with bit_or xs ys) k ≡ (has_bit xs k || has_bit ys k)
either_bit xs ys k same =
    let a = get_or xs (k / 64) 0 in
    let b = get_or ys (k / 64) 0 in
    let i = k % 64 in
    ap (λ n. eqb (bit_at n i) 1) (zip_with_at bit_or xs ys (k / 64) same refl)
    ∙ ap (λ n. eqb n 1) (bit_at_or a b i) ∙ max_one (bit_at a i) (bit_at b i) (bit_at-lt a i) (bit_at-lt b i)

-- words that are what both lists have, one by one
pub cleared : (xs ys zs : List ℕ) → length ys ≡ length xs → length zs ≡ length xs
    → ((k : ℕ) → k < length xs → get_or zs k 0 ≡ bit_and (get_or xs k 0) (get_or ys k 0)) → zs ≡ zip_with bit_and xs ys
cleared xs ys zs same long each =
    ext_get_or 0 zs (zip_with bit_and xs ys) (long ∙ sym (length-zip_with bit_and xs ys same))
    (λ k within.
    let inside : k < length xs = omega (arith, long) in
    each k inside ∙ sym (get_or-zip_with bit_and xs ys k same inside))

-- ---- places

-- the bits alone say how many entries there are
pub places_counted : (rows cols count : ℕ) (bits words : List ℕ) → rows * cols ≤ 2 ^ 24
    → length words ≡ rows * cols → length bits ≡ length words / 64 + 1
    → ((at : ℕ) → length words ≤ at → has_bit bits at ≡ false)
    → ((k : ℕ) → get_or bits k 0 < 18446744073709551616) → count ≡ sum (map count_ones bits)
    → HasPlaces rows cols count bits words
places_counted rows cols count bits words few each long none small is = record {
  small = few;
  word_each = each;
  bit_each = long;
  none_behind = none;
  counted = is ∙ ones_are rows cols bits words each long none small;
}

-- other words at the same bits
pub places_kept : (rows cols count : ℕ) (bits words words' : List ℕ) → HasPlaces rows cols count bits words
    → length words' ≡ length words → HasPlaces rows cols count bits words'
places_kept rows cols count bits words words' h same =
    let each = h.word_each in
    record {
      small = h.small;
      word_each = same ∙ each;
      bit_each = h.bit_each ∙ ap (λ n. n / 64 + 1) (sym same);
      none_behind = λ at past. h.none_behind at (omega arith);
      counted = h.counted ∙ sym (count_kept rows cols bits words words' each (same ∙ each));
    }

-- lists of two bitmaps of one shape are of one length
pub same_lists : (rows cols count rows₂ cols₂ count₂ : ℕ) (bits words bits₂ words₂ : List ℕ)
    → HasPlaces rows cols count bits words → HasPlaces rows₂ cols₂ count₂ bits₂ words₂ → rows₂ ≡ rows → cols₂ ≡ cols
    → (length bits₂ ≡ length bits) × (length words₂ ≡ length words)
same_lists rows cols count rows₂ cols₂ count₂ bits words bits₂ words₂ h h₂ row col =
    let places : rows₂ * cols₂ ≡ rows * cols = ap (λ r. r * cols₂) row ∙ ap (λ n. rows * n) col in
    let same : length words₂ ≡ length words = h₂.word_each ∙ places ∙ sym h.word_each in
    (h₂.bit_each ∙ ap (λ n. n / 64 + 1) same ∙ sym h.bit_each, same)

-- bits that both of two bitmaps have
pub both_places : (rows cols count₁ count : ℕ) (bits words bits₁ words₁ bits₂ : List ℕ)
    → HasPlaces rows cols count₁ bits₁ words₁ → length words ≡ length words₁ → length bits₂ ≡ length bits₁
    → bits ≡ zip_with bit_and bits₁ bits₂ → ((k : ℕ) → get_or bits k 0 < 18446744073709551616)
    → count ≡ sum (map count_ones bits) → HasPlaces rows cols count bits words
both_places rows cols count₁ count bits words bits₁ words₁ bits₂ h same same_bits is small counted =
    places_counted rows cols count bits words h.small (same ∙ h.word_each)
    (ap length is ∙ length-zip_with bit_and bits₁ bits₂ same_bits ∙ h.bit_each ∙ ap (λ n. n / 64 + 1) (sym same))
    (λ at past. ap (λ bs. has_bit bs at) is ∙ both_bits bits₁ bits₂ at same_bits ∙ ap (λ b. b && has_bit bits₂ at) (h.none_behind at (omega arith)))
    small counted

-- bits that either of two bitmaps has
pub either_places : (rows cols count₁ rows₂ cols₂ count₂ count : ℕ) (bits words bits₁ words₁ bits₂ words₂ : List ℕ)
    → HasPlaces rows cols count₁ bits₁ words₁ → HasPlaces rows₂ cols₂ count₂ bits₂ words₂
    → length words ≡ length words₁ → (length bits₂ ≡ length bits₁) × (length words₂ ≡ length words₁)
    → bits ≡ zip_with bit_or bits₁ bits₂ → ((k : ℕ) → get_or bits k 0 < 18446744073709551616)
    → count ≡ sum (map count_ones bits) → HasPlaces rows cols count bits words
either_places rows cols count₁ rows₂ cols₂ count₂ count bits words bits₁ words₁ bits₂ words₂ h h₂ same long is small counted =
    let words_same = long.1 in
    places_counted rows cols count bits words h.small (same ∙ h.word_each)
    (ap length is ∙ length-zip_with bit_or bits₁ bits₂ long.0 ∙ h.bit_each ∙ ap (λ n. n / 64 + 1) (sym same))
    (λ at past. ap (λ bs. has_bit bs at) is ∙ either_bit bits₁ bits₂ at long.0 ∙ ap (λ b. b || has_bit bits₂ at) (h.none_behind at (omega arith)) ∙ h₂.none_behind at (omega arith))
    small counted

-- ---- maps

some_word : (there : Bool) (held word : ℕ) → cond there (Some held) None ≡ Some word → held ≡ word
some_word true held word is = cc
some_word false held word is = absurd (cc)

-- the word of an entry stands at its place
pub word_held : (rows cols : ℕ) (bits words : List ℕ) (i j word : ℕ)
    → map_of rows cols bits words i j ≡ Some word → get_or words (place_of cols i j) 0 ≡ word
word_held rows cols bits words i j word is =
    elim (cases_Bool (ltb i rows && ltb j cols)) [
      | inl inside ↦
          let at = place_of cols i j in
          let here : word_in bits words at ≡ Some word = sym (held_is rows cols bits words i j (grind (arith, nat_tests)) (grind (arith, nat_tests))) ∙ is in
          some_word (has_bit bits at) (get_or words at 0) word here
      | inr out ↦ let none = none_outside rows cols bits words i j out in absurd (cc)
    ]

-- the map of a bitmap whose words are those of two others, place by place
pub made_of : (rows cols : ℕ) (bits words bits₁ words₁ bits₂ words₂ : List ℕ) (f : Option ℕ → Option ℕ → Option ℕ)
    → f None None ≡ None
    → ((at : ℕ) → at < rows * cols → word_in bits words at ≡ f (word_in bits₁ words₁ at) (word_in bits₂ words₂ at))
    → (i j : ℕ) → map_of rows cols bits words i j ≡ f (map_of rows cols bits₁ words₁ i j) (map_of rows cols bits₂ words₂ i j)
made_of rows cols bits words bits₁ words₁ bits₂ words₂ f none each =
    changed rows cols bits words (λ i j. f (map_of rows cols bits₁ words₁ i j) (map_of rows cols bits₂ words₂ i j))
    (λ i j i_in j_in. each (place_of cols i j) (place_inside rows cols i j i_in j_in)
    ∙ rw (held_is rows cols bits₁ words₁ i j i_in j_in, held_is rows cols bits₂ words₂ i j i_in j_in) refl)
    (λ i j out. rw (none_outside rows cols bits₁ words₁ i j out, none_outside rows cols bits₂ words₂ i j out) none)

-- the map of other words at the same bits
pub kept_of : (rows cols : ℕ) (bits words words' : List ℕ) (f : ℕ → ℕ → ℕ)
    → ((at : ℕ) → at < rows * cols → get_or words' at 0 ≡ f at (get_or words at 0))
    → (i j : ℕ) → map_of rows cols bits words' i j ≡ option_map (f (place_of cols i j)) (map_of rows cols bits words i j)
kept_of rows cols bits words words' f each =
    changed rows cols bits words' (λ i j. option_map (f (place_of cols i j)) (map_of rows cols bits words i j))
    (λ i j i_in j_in.
    let at = place_of cols i j in
    let is = each at (place_inside rows cols i j i_in j_in) in
    let here : word_in bits words' at ≡ option_map (f at) (word_in bits words at) = elim (has_bit bits at) as (λ b. cond b (Some (get_or words' at 0)) None ≡ option_map (f at) (cond b (Some (get_or words at 0)) None)) [
      | true ↦ ap Some is
      | false ↦ refl
    ] in
    here ∙ ap (option_map (f at)) (sym (held_is rows cols bits words i j i_in j_in)))
    (λ i j out. ap (option_map (f (place_of cols i j))) (none_outside rows cols bits words i j out))

-- the map of the same words at some of the bits
pub kept_where : (rows cols : ℕ) (bits words bits₁ keeps : List ℕ)
    → ((at : ℕ) → has_bit bits at ≡ (has_bit bits₁ at && has_bit keeps at)) → (i j : ℕ)
    → map_of rows cols bits words i j ≡ cond (has_bit keeps (place_of cols i j)) (map_of rows cols bits₁ words i j) None
kept_where rows cols bits words bits₁ keeps each =
    changed rows cols bits words (λ i j. cond (has_bit keeps (place_of cols i j)) (map_of rows cols bits₁ words i j) None)
    (λ i j i_in j_in.
    let at = place_of cols i j in
    let here : word_in bits words at ≡ cond (has_bit keeps at) (word_in bits₁ words at) None = rw (each at) (elim (has_bit bits₁ at) as (λ l. cond (l && has_bit keeps at) (Some (get_or words at 0)) None ≡ cond (has_bit keeps at) (cond l (Some (get_or words at 0)) None) None) [
      | true ↦ refl
      | false ↦ elim (has_bit keeps at) as (λ r. ◌≡◌ {A = Option ℕ} None (cond r None None)) [ true ↦ refl | false ↦ refl ]
    ]) in
    here ∙ ap (λ o. cond (has_bit keeps at) o None) (sym (held_is rows cols bits₁ words i j i_in j_in)))
    (λ i j out. rw (none_outside rows cols bits₁ words i j out) (elim (has_bit keeps (place_of cols i j)) as (λ r. ◌≡◌ {A = Option ℕ} (cond r None None) None) [ true ↦ refl | false ↦ refl ]))

-- ---- words of two bitmaps

pub both_word : (f : ℕ → ℕ → ℕ) (bits words bits₁ words₁ bits₂ words₂ : List ℕ) (at : ℕ)
    → has_bit bits at ≡ (has_bit bits₁ at && has_bit bits₂ at)
    → get_or words at 0 ≡ f (get_or words₁ at 0) (get_or words₂ at 0)
    → word_in bits words at ≡ of_both f (word_in bits₁ words₁ at) (word_in bits₂ words₂ at)
both_word f bits words bits₁ words₁ bits₂ words₂ at bit word =
    let a = get_or words₁ at 0 in
    let b = get_or words₂ at 0 in
    rw (bit, word) (elim (has_bit bits₁ at) as (λ l. cond (l && has_bit bits₂ at) (Some (f a b)) None ≡ of_both f (cond l (Some a) None) (word_in bits₂ words₂ at)) [
      | true ↦ elim (has_bit bits₂ at) as (λ r. cond r (Some (f a b)) None ≡ of_both f (Some a) (cond r (Some b) None)) [ true ↦ refl | false ↦ refl ]
      | false ↦ refl
    ])

-- what a union has at a place, by the bits of both sides
abbrev pub either_of : Bool → Bool → ℕ → ℕ → ℕ → ℕ
either_of left right both a b = cond (left && right) both (cond left a (cond right b 0))

pub either_word : (g h : ℕ → ℕ) (f : ℕ → ℕ → ℕ) (bits words bits₁ words₁ bits₂ words₂ : List ℕ) (at : ℕ)
    → has_bit bits at ≡ (has_bit bits₁ at || has_bit bits₂ at)
    → get_or words at 0 ≡ either_of (has_bit bits₁ at) (has_bit bits₂ at) (f (get_or words₁ at 0) (get_or words₂ at 0)) (g (get_or words₁ at 0)) (h (get_or words₂ at 0))
    → word_in bits words at ≡ of_either g h f (word_in bits₁ words₁ at) (word_in bits₂ words₂ at)
either_word g h f bits words bits₁ words₁ bits₂ words₂ at bit word =
    let a = get_or words₁ at 0 in
    let b = get_or words₂ at 0 in
    rw (bit, word) (elim (has_bit bits₁ at) as (λ l. cond (l || has_bit bits₂ at) (Some (either_of l (has_bit bits₂ at) (f a b) (g a) (h b))) None ≡ of_either g h f (cond l (Some a) None) (word_in bits₂ words₂ at)) [
      | true ↦ elim (has_bit bits₂ at) as (λ r. ◌≡◌ {A = Option ℕ} (Some (either_of true r (f a b) (g a) (h b))) (of_either g h f (Some a) (cond r (Some b) None))) [ true ↦ refl | false ↦ refl ]
      | false ↦ elim (has_bit bits₂ at) as (λ r. cond r (Some (either_of false r (f a b) (g a) (h b))) None ≡ of_either g h f None (cond r (Some b) None)) [ true ↦ refl | false ↦ refl ]
    ])
