-- Places of positions, and the map that bits and words are where one place changes.
use Rattle.std.proofs.Common.{◌≡◌, ◌≢◌, ℕ, suc, ◌+◌, ◌*◌, ◌/◌, ◌%◌, ◌<◌, ◌≤◌, true, false, cond, ◌&&◌, ◌||◌, not, eqb, ltb, List, length, get_or, set, replicate, Option, Some, None, is_some, refl, sym, ◌∙◌, ap, inl, inr, arith}
use Rattle.std.proofs.Math.Nat.{mul-le-mul_right}
use Rattle.std.proofs.lemmas.Bool.{cases_Bool, cases_eq, eq-eqb, ne_eqb}
use Rattle.std.proofs.lemmas.Bool.Decides.{nat_tests}
use Rattle.std.proofs.lemmas.List.{get_or-replicate, get_or-set_other, get_or-set_same, get_or_past, length-replicate}
use Rattle.std.proofs.lemmas.Nat.{div-mul-add}
use Rattle.std.proofs.lemmas.Nat.Bits.{bit_at-zero}
use Rattle.std.specs.Int.{bit_at}
use Rattle.lanes.specs.Bits.{has_bit}
use Rattle.model.specs.Entries.{entries_of, word_at}
use Rattle.model.specs.Object.{Content, with_entry, without_entry}
use Rattle.bitmap.specs.Bitmaps.{HasPlaces, held, place_of, word_in}
use Rattle.bitmap.proofs.WordLaws.{entries_word}

-- the map that bits and words are
abbrev pub map_of : ℕ → ℕ → List ℕ → List ℕ → Content
map_of rows cols bits words = word_at (entries_of rows cols (held cols bits words))

-- ---- places

-- two positions have two places
pub same_place : (cols i j p q : ℕ) → j < cols → q < cols → place_of cols p q ≡ place_of cols i j → (p ≡ i) × (q ≡ j)
same_place cols i j p q j_in q_in same =
    let row : p ≡ i = sym (div-mul-add p cols q q_in) ∙ ap (λ n. n / cols) same ∙ div-mul-add i cols j j_in in
    let rows : p * cols ≡ i * cols = ap (λ r. r * cols) row in
    (row, omega arith)

pub place_inside : (rows cols i j : ℕ) → i < rows → j < cols → place_of cols i j < rows * cols
place_inside rows cols i j i_in j_in =
    let le : suc i * cols ≤ rows * cols = mul-le-mul_right cols i_in in
    omega arith

-- whether a place is that of a position is whether both indices are
pub is_place : (cols i j p q : ℕ) → j < cols → q < cols
    → eqb (place_of cols p q) (place_of cols i j) ≡ (eqb p i && eqb q j)
is_place cols i j p q j_in q_in =
    elim (cases_eq (place_of cols p q) (place_of cols i j)) [
      | inl same ↦
          let both = same_place cols i j p q j_in q_in same in
          rw (eq-eqb (place_of cols p q) (place_of cols i j) same, eq-eqb p i both.0, eq-eqb q j both.1) refl
      | inr other ↦
          let not_both : (eqb p i && eqb q j) ≡ false = elim (cases_Bool (eqb p i && eqb q j)) [
            | inl both ↦ let row : p ≡ i = grind (arith, nat_tests) in let col : q ≡ j = grind (arith, nat_tests) in absurd (other (ap (λ r. place_of cols r q) row ∙ ap (place_of cols i) col))
            | inr neither ↦ neither
          ] in
          rw (ne_eqb (place_of cols p q) (place_of cols i j) other, not_both) refl
    ]

zero_at : (n at : ℕ) → get_or (replicate {A = ℕ} n 0) at 0 ≡ 0
zero_at n at =
    elim (cases_Bool (ltb at n)) [
      | inl inside ↦ get_or-replicate n at 0 0 (grind (arith, nat_tests))
      | inr past ↦ get_or_past (replicate n 0) at 0 (let le : n ≤ at = grind (arith, nat_tests) in let long : length (replicate {A = ℕ} n 0) ≡ n = length-replicate n 0 in omega arith)
    ]

-- ---- one entry

pub held_is : (rows cols : ℕ) (bits words : List ℕ) (i j : ℕ) → i < rows → j < cols
    → map_of rows cols bits words i j ≡ word_in bits words (place_of cols i j)
held_is rows cols bits words i j i_in j_in = let inside : (ltb i rows && ltb j cols) ≡ true = grind (arith, nat_tests) in entries_word rows cols (held cols bits words) i j ∙ ap (λ b. cond b (held cols bits words i j) None) inside

pub none_outside : (rows cols : ℕ) (bits words : List ℕ) (i j : ℕ) → (ltb i rows && ltb j cols) ≡ false
    → map_of rows cols bits words i j ≡ None
none_outside rows cols bits words i j out = entries_word rows cols (held cols bits words) i j ∙ ap (λ b. cond b (held cols bits words i j) None) out

-- where the words of places change, so does the map
pub changed : (rows cols : ℕ) (bits' words' : List ℕ) (f : ℕ → ℕ → Option ℕ)
    → ((p q : ℕ) → p < rows → q < cols → word_in bits' words' (place_of cols p q) ≡ f p q)
    → ((p q : ℕ) → (ltb p rows && ltb q cols) ≡ false → f p q ≡ None) → (p q : ℕ)
    → map_of rows cols bits' words' p q ≡ f p q
changed rows cols bits' words' f inside outside p q =
    elim (cases_Bool (ltb p rows && ltb q cols)) [
      | inl in_it ↦ let p_in : p < rows = grind (arith, nat_tests) in let q_in : q < cols = grind (arith, nat_tests) in held_is rows cols bits' words' p q p_in q_in ∙ inside p q p_in q_in
      | inr out ↦ none_outside rows cols bits' words' p q out ∙ sym (outside p q out)
    ]

-- there is a word where the bit is set
pub bit_is_some : (bits words : List ℕ) (at : ℕ) → is_some (word_in bits words at) ≡ has_bit bits at
bit_is_some bits words at = elim (has_bit bits at) as (λ b. is_some (cond b (Some (get_or words at 0)) None) ≡ b) [
  | true ↦ refl
  | false ↦ refl
]

-- a column has an entry at a row where the bit of the row is set
pub row_bit : (rows cols count : ℕ) (bits words : List ℕ) (i : ℕ) → cols ≡ 1 → HasPlaces rows cols count bits words
    → is_some (map_of rows cols bits words i 0) ≡ has_bit bits i
row_bit rows cols count bits words i column places =
    elim (cases_Bool (ltb i rows)) [
      | inl inside ↦
          let i_in : i < rows = grind (arith, nat_tests) in
          let place : place_of cols i 0 ≡ i = ap (λ n. place_of n i 0) column ∙ omega arith in
          ap is_some (held_is rows cols bits words i 0 i_in (omega (arith, column)) ∙ ap (word_in bits words) place) ∙ bit_is_some bits words i
      | inr past ↦
          let out : (ltb i rows && ltb 0 cols) ≡ false = rw past refl in
          let long : length words ≡ rows = places.word_each ∙ ap (λ n. rows * n) column ∙ omega arith in
          let behind : length words ≤ i = grind (arith, nat_tests) in
          ap is_some (none_outside rows cols bits words i 0 out) ∙ sym (places.none_behind i behind)
    ]

-- the same of one of 64 rows, by the word of their bits
pub row_bit_of : (rows cols count : ℕ) (bits words : List ℕ) (at k word : ℕ) → cols ≡ 1
    → HasPlaces rows cols count bits words → k < 64 → word ≡ get_or bits at 0
    → eqb (bit_at word k) 1 ≡ is_some (map_of rows cols bits words (64 * at + k) 0)
row_bit_of rows cols count bits words at k word column places small is =
    let low : (64 * at + k) / 64 ≡ at = omega arith in
    let high : (64 * at + k) % 64 ≡ k = omega arith in
    sym (row_bit rows cols count bits words (64 * at + k) column places ∙ rw (low, high, is) refl)

-- a map is another but at one position of a shape
abbrev pub AgreeBut : ℕ → ℕ → ℕ → ℕ → Content → Content → Type 0
AgreeBut rows cols i j new old = (p q : ℕ) → p < rows → q < cols → (eqb p i && eqb q j) ≡ false → new p q ≡ old p q

-- ---- an entry set

-- a bit is set and a word is written
pub record IsSet (at word : ℕ) (bits words bits' words' : List ℕ) : Type 0 where
  pub within : at < length words
  pub bits_are : (k : ℕ) → has_bit bits' k ≡ (eqb k at || has_bit bits k)
  pub words_are : words' ≡ set words at word

pub set_written : (at word place : ℕ) (bits words now new bits' : List ℕ) → place ≡ at → at < length words
    → now ≡ bits → ((k : ℕ) → has_bit new k ≡ (eqb k place || has_bit now k)) → bits' ≡ new
    → IsSet at word bits words bits' (set words place word)
set_written at word place bits words now new bits' is inside same put back = record {
  within = inside;
  bits_are = λ k. ap (λ bs. has_bit bs k) back ∙ put k ∙ ap (λ n. eqb k n || has_bit now k) is ∙ ap (λ bs. eqb k at || has_bit bs k) same;
  words_are = ap (λ n. set words n word) is;
}

there_set : (at word : ℕ) (bits words bits' words' : List ℕ) → IsSet at word bits words bits' words'
    → word_in bits' words' at ≡ Some word
there_set at word bits words bits' words' h =
    let there : has_bit bits' at ≡ true = h.bits_are at ∙ ap (λ b. b || has_bit bits at) (eq-eqb at at refl) in
    let word_is : get_or words' at 0 ≡ word = ap (λ ws. get_or ws at 0) h.words_are ∙ get_or-set_same words at word 0 h.within in
    rw (there, word_is) refl

pub others_set : (rows cols i j word : ℕ) (bits words bits' words' : List ℕ) → j < cols
    → IsSet (place_of cols i j) word bits words bits' words'
    → AgreeBut rows cols i j (held cols bits' words') (held cols bits words)
others_set rows cols i j word bits words bits' words' j_in h p q p_in q_in away =
    let k = place_of cols p q in
    let at = place_of cols i j in
    let is = is_place cols i j p q j_in q_in in
    let other : k ≢ at = λ e. let yes : eqb k at ≡ true = eq-eqb k at e in let no : eqb k at ≡ false = is ∙ away in absurd (cc) in
    let bit : has_bit bits' k ≡ has_bit bits k = h.bits_are k ∙ ap (λ b. b || has_bit bits k) (is ∙ away) in
    let word_is : get_or words' k 0 ≡ get_or words k 0 = ap (λ ws. get_or ws k 0) h.words_are ∙ get_or-set_other words at k word 0 other in
    rw (bit, word_is) refl

pub here_set : (cols i j word : ℕ) (bits words bits' words' : List ℕ)
    → IsSet (place_of cols i j) word bits words bits' words' → held cols bits' words' i j ≡ Some word
here_set cols i j word bits words bits' words' h = there_set (place_of cols i j) word bits words bits' words' h

pub set_is : (rows cols i j word : ℕ) (bits words bits' words' : List ℕ) → j < cols
    → IsSet (place_of cols i j) word bits words bits' words' → i < rows → (p q : ℕ)
    → map_of rows cols bits' words' p q ≡ with_entry (map_of rows cols bits words) i j word p q
set_is rows cols i j word bits words bits' words' j_in h i_in =
    changed rows cols bits' words' (with_entry (map_of rows cols bits words) i j word)
    (λ p q p_in q_in. elim (cases_Bool (eqb p i && eqb q j)) [
      | inl here ↦
          let row : p ≡ i = grind (arith, nat_tests) in
          let col : q ≡ j = grind (arith, nat_tests) in
          rw here (ap (λ r. held cols bits' words' r q) row ∙ ap (held cols bits' words' i) col ∙ here_set cols i j word bits words bits' words' h)
      | inr away ↦ rw away (others_set rows cols i j word bits words bits' words' j_in h p q p_in q_in away ∙ sym (held_is rows cols bits words p q p_in q_in))
    ])
    (λ p q out.
    let away : (eqb p i && eqb q j) ≡ false = grind (arith, nat_tests) in
    rw away (none_outside rows cols bits words p q out))

-- ---- an entry removed

-- a bit is cleared
abbrev pub IsCleared : ℕ → List ℕ → List ℕ → Type 0
IsCleared at bits bits' = (k : ℕ) → has_bit bits' k ≡ (not (eqb k at) && has_bit bits k)

pub cleared : (at place : ℕ) (bits now new bits' : List ℕ) → place ≡ at → now ≡ bits
    → ((k : ℕ) → has_bit new k ≡ (not (eqb k place) && has_bit now k)) → bits' ≡ new → IsCleared at bits bits'
cleared at place bits now new bits' is same put back k =
    ap (λ bs. has_bit bs k) back ∙ put k ∙ ap (λ n. not (eqb k n) && has_bit now k) is ∙ ap (λ bs. not (eqb k at) && has_bit bs k) same

pub others_removed : (rows cols i j : ℕ) (bits words bits' : List ℕ) → j < cols
    → IsCleared (place_of cols i j) bits bits' → AgreeBut rows cols i j (held cols bits' words) (held cols bits words)
others_removed rows cols i j bits words bits' j_in h p q p_in q_in away =
    let k = place_of cols p q in
    let bit : has_bit bits' k ≡ has_bit bits k = h k ∙ ap (λ b. not b && has_bit bits k) (is_place cols i j p q j_in q_in ∙ away) in
    rw bit refl

pub here_removed : (cols i j : ℕ) (bits words bits' : List ℕ) → IsCleared (place_of cols i j) bits bits'
    → held cols bits' words i j ≡ None
here_removed cols i j bits words bits' h =
    let at = place_of cols i j in
    let gone : has_bit bits' at ≡ false = h at ∙ ap (λ b. not b && has_bit bits at) (eq-eqb at at refl) in
    rw gone refl

pub removed_is : (rows cols i j : ℕ) (bits words bits' : List ℕ) → j < cols → IsCleared (place_of cols i j) bits bits'
    → i < rows → (p q : ℕ) → map_of rows cols bits' words p q ≡ without_entry (map_of rows cols bits words) i j p q
removed_is rows cols i j bits words bits' j_in h i_in =
    changed rows cols bits' words (without_entry (map_of rows cols bits words) i j)
    (λ p q p_in q_in. elim (cases_Bool (eqb p i && eqb q j)) [
      | inl here ↦
          let row : p ≡ i = grind (arith, nat_tests) in
          let col : q ≡ j = grind (arith, nat_tests) in
          rw here (ap (λ r. held cols bits' words r q) row ∙ ap (held cols bits' words i) col ∙ here_removed cols i j bits words bits' h)
      | inr away ↦ rw away (others_removed rows cols i j bits words bits' j_in h p q p_in q_in away ∙ sym (held_is rows cols bits words p q p_in q_in))
    ])
    (λ p q out. let away : (eqb p i && eqb q j) ≡ false = grind (arith, nat_tests) in rw away (none_outside rows cols bits words p q out))

pub removed_outside : (rows cols i j : ℕ) (bits words : List ℕ) → (ltb i rows && ltb j cols) ≡ false → (p q : ℕ)
    → map_of rows cols bits words p q ≡ without_entry (map_of rows cols bits words) i j p q
removed_outside rows cols i j bits words out p q =
    elim (cases_Bool (eqb p i && eqb q j)) [
      | inl here ↦ let out_too : (ltb p rows && ltb q cols) ≡ false = grind (arith, nat_tests) in rw here (none_outside rows cols bits words p q out_too)
      | inr away ↦ rw away refl
    ]

-- ---- no entry

pub no_bit : (n at : ℕ) → has_bit (replicate n 0) at ≡ false
no_bit n at = rw (zero_at n (at / 64), bit_at-zero (at % 64)) refl

pub none_held : (rows cols : ℕ) (n m : ℕ) (i j : ℕ) → map_of rows cols (replicate n 0) (replicate m 0) i j ≡ None
none_held rows cols n m = changed rows cols (replicate n 0) (replicate m 0) (λ p q. None)
    (λ p q p_in q_in. rw (no_bit n (place_of cols p q)) refl)
    (λ p q out. refl)
