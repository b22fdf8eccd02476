-- Lines by their gaps, which are the bytes that stand in no word.
use Rattle.std.proofs.Common.{◌≡◌, ℕ, ◌+◌, Bool, ◌<◌, ◌≤◌, ◌==◌, ◌&&◌, true, false, not, List, [], ◌∷◌, ◌++◌, drop, filter, length, take, Some, None, get_or, get_or-drop, nat_lt, refl, ap, ◌∙◌, ◌-◌, arith, length-drop, inl, inr, ltb-false}
use Rattle.std.specs.List.{before_first, list_all, position, position_or_len, slice_split}
use Rattle.std.proofs.lemmas.Bool.{cases_Bool, ltb-true}
use Rattle.std.proofs.lemmas.Bool.Decides.{nat_tests}
use Rattle.std.proofs.lemmas.List.{drop-drop}
use Rattle.std.proofs.lemmas.List.Elements.{filter-append}
use Rattle.std.proofs.lemmas.List.Folds.{list_all-append}
use Rattle.std.proofs.lemmas.List.Splits.{slice_split_first, slice_split_none}
use Rattle.std.proofs.lemmas.List.Sums.{fails_before_first, position_or_len_is, split_at_first, take_while-cons}
use Rattle.std.proofs.lemmas.Option.{cond_some}
use Rattle.lines.specs.Gaps.{AreInner, is_gap}
use Rattle.model.specs.Grammar.{is_blank, is_plain, is_well_formed, words_of}

-- what stands between blanks is a word where it is not empty
abbrev pub is_filled : List ℕ → Bool
is_filled word = not (length word == 0)

plain_inner : (b : ℕ) → is_gap b ≡ false → is_plain b ≡ true
plain_inner b inner = grind (arith, nat_tests)

part_inner : (b : ℕ) → is_gap b ≡ false → is_blank b ≡ false
part_inner b inner = grind (arith, nat_tests)

plain_blank : (b : ℕ) → is_blank b ≡ true → is_plain b ≡ true
plain_blank b blank = grind (arith, nat_tests)

gap_blank : (b : ℕ) → is_blank b ≡ true → is_gap b ≡ true
gap_blank b blank = grind (arith, nat_tests)

before_plain : (line : List ℕ) → list_all is_plain (before_first is_gap line) ≡ true
before_plain [] = refl
before_plain (b ∷ bs) = elim (cases_Bool (is_gap b)) [
  | inl gap ↦ rw (take_while-cons (λ b. not (is_gap b)) b bs, gap) refl
  | inr inner ↦ rw (take_while-cons (λ b. not (is_gap b)) b bs, inner, plain_inner b inner, before_plain bs) refl
]

all_plain : (line : List ℕ) → length line ≤ position_or_len is_gap line → list_all is_plain line ≡ true
all_plain [] far = refl
all_plain (b ∷ bs) far = elim (cases_Bool (is_gap b)) [
  | inl gap ↦ absurd (let none : length (b ∷ bs) ≤ 0 = rw gap at far in omega arith)
  | inr inner ↦ let past : length (b ∷ bs) ≤ 1 + position_or_len is_gap bs = rw inner at far in rw (plain_inner b inner, all_plain bs (omega arith)) refl
]

-- a line with no gap is one word, and plain
module _ (line : List ℕ) (nowhere : position is_gap line ≡ None) where
  past : length line ≤ position_or_len is_gap line
  past = elim (cases_Bool (nat_lt (position_or_len is_gap line) (length line))) [
    | inl t ↦ absurd (let bad : Some (position_or_len is_gap line) ≡ None = rw t at nowhere in cc)
    | inr f ↦ ltb-false _ _ f
  ]

  one_word : slice_split is_blank line ≡ line ∷ []
  one_word = slice_split_none is_blank line (λ k d inside. part_inner (get_or line k d) (fails_before_first is_gap line k d (omega (arith, past))))

  plain_word : list_all is_plain line ≡ true
  plain_word = all_plain line past

-- a line with a gap is plain before it
module _ (line : List ℕ) (k : ℕ) (here : position is_gap line ≡ Some k) where
  found : (nat_lt (position_or_len is_gap line) (length line) ≡ true) × (position_or_len is_gap line ≡ k)
  found = cond_some (nat_lt (position_or_len is_gap line) (length line)) (position_or_len is_gap line) k here

  within : position_or_len is_gap line < length line
  within = ltb-true _ _ found.0

  plain_behind : list_all is_plain line ≡ (is_plain (get_or line k 0) && list_all is_plain (drop (k + 1) line))
  plain_behind =
      let parts = rw found.1 at (split_at_first is_gap line 0 within) in
      let before = rw found.1 at (before_plain line) in
      ap (list_all is_plain) parts ∙ list_all-append is_plain (take k line) (get_or line k 0 ∷ drop (k + 1) line) ∙ rw before refl

  -- a blank there parts the first word from the others
  first_word : is_blank (get_or line k 0) ≡ true
      → slice_split is_blank line ≡ take k line ∷ slice_split is_blank (drop (k + 1) line)
  first_word blank =
      let same : position_or_len is_blank line ≡ k = position_or_len_is is_blank line k 0 (omega (arith, within, found.1)) (λ i below. part_inner (get_or line i 0) (fails_before_first is_gap line i 0 (omega (arith, below, found.1)))) (λ _. blank) in
      rw same at (slice_split_first is_blank line 0 (omega (arith, within, found.1, same)))

  first_words : is_blank (get_or line k 0) ≡ true
      → words_of line ≡ filter is_filled (take k line ∷ []) ++ words_of (drop (k + 1) line)
  first_words blank = ap (filter is_filled) (first_word blank) ∙ filter-append is_filled (take k line ∷ []) (slice_split is_blank (drop (k + 1) line))

  plain_others : is_blank (get_or line k 0) ≡ true → list_all is_plain line ≡ list_all is_plain (drop (k + 1) line)
  plain_others blank = plain_behind ∙ rw (plain_blank (get_or line k 0) blank) refl

-- ---- the bytes from a place on

inner_from : (line : List ℕ) (start end : ℕ) → AreInner line start end → (i : ℕ) → i < end - start
    → is_gap (get_or (drop start line) i 0) ≡ false
inner_from line start end inner i below = rw get_or-drop (inner (start + i) (omega arith) (omega arith))

-- from the last gap to a blank there is one word
module _ (line : List ℕ) (start end : ℕ) (behind : start ≤ end) (inside : end < length line)
    (inner : AreInner line start end) (blank : is_blank (get_or line end 0) ≡ true) where
  there : is_blank (get_or (drop start line) (end - start) 0) ≡ true
  there = let same : start + (end - start) ≡ end = omega arith in rw (get_or-drop, same) blank

  gap_there : position is_gap (drop start line) ≡ Some (end - start)
  gap_there =
      let size : length (drop start line) ≡ length line - start = length-drop start line in
      let same : position_or_len is_gap (drop start line) ≡ end - start = position_or_len_is is_gap (drop start line) (end - start) 0 (omega arith) (inner_from line start end inner) (λ _. gap_blank (get_or (drop start line) (end - start) 0) there) in
      let fits : nat_lt (end - start) (length (drop start line)) ≡ true = grind (arith, nat_tests) in
      rw (same, fits) refl

  further : drop (end - start + 1) (drop start line) ≡ drop (end + 1) line
  further = drop-drop (end - start + 1) start line ∙ (let same : start + (end - start + 1) ≡ end + 1 = omega arith in ap (λ n. drop n line) same)

  pub next_words : words_of (drop start line)
      ≡ filter is_filled (take (end - start) (drop start line) ∷ []) ++ words_of (drop (end + 1) line)
  next_words = rw further at (first_words (drop start line) (end - start) gap_there there)

  pub next_plain : list_all is_plain (drop start line) ≡ list_all is_plain (drop (end + 1) line)
  next_plain = rw further at (plain_others (drop start line) (end - start) gap_there there)

-- from the last gap to the end there is one word
module _ (line : List ℕ) (start : ℕ) (inner : AreInner line start (length line)) where
  no_gap : position is_gap (drop start line) ≡ None
  no_gap =
      let size : length (drop start line) ≡ length line - start = length-drop start line in
      let same : position_or_len is_gap (drop start line) ≡ length line - start = position_or_len_is is_gap (drop start line) (length line - start) 0 (omega arith) (inner_from line start (length line) inner) (λ inside. absurd (omega arith)) in
      let out : nat_lt (length line - start) (length (drop start line)) ≡ false = grind (arith, nat_tests) in
      rw (same, out) refl

  pub last_words : words_of (drop start line) ≡ filter is_filled (drop start line ∷ [])
  last_words = ap (filter is_filled) (one_word (drop start line) no_gap)

  pub last_plain : list_all is_plain (drop start line) ≡ true
  last_plain = plain_word (drop start line) no_gap

-- ---- well-formed lines

pub formed : (line : List ℕ) → length line ≤ 65536 → list_all is_plain line ≡ true → is_well_formed line ≡ true
formed line short plain = rw plain (grind (arith, nat_tests))
