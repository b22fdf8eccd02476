-- Joins, and what a mask keeps, of entries by rows and columns.
use Rattle.std.proofs.Common.{◌≡◌, ℕ, Bool, true, false, ◌&&◌, cond, eqb, List, [], ◌∷◌, length, Option, None, refl, sym, ◌∙◌, inl, inr, arith, ap, ◌<◌, ◌≤◌}
use Rattle.std.specs.List.{filter}
use Rattle.std.proofs.lemmas.Bool.{cases_Bool}
use Rattle.std.proofs.lemmas.Bool.Decides.{nat_tests}
use Rattle.std.proofs.lemmas.List.Elements.{All-filter}
use Rattle.model.specs.declared.entry.Entry.{Entry}
use Rattle.model.specs.Entries.{entry_at, word_at}
use Rattle.model.specs.Object.{Content}
use Rattle.store.specs.declared.lists.FiberLists.{FiberLists}
use Rattle.store.specs.Parts.{HasRows}
use Rattle.store.specs.Stored.{AreIn, along}
use Rattle.store.proofs.Contents.{as_column, by_rows, length_along, word_at-transposed}
use Rattle.store.proofs.PartLaws.{LiesIn, are_in, lies_in}
use Rattle.masks.specs.declared.view.MaskTest.{MaskTest}
use Rattle.masks.specs.Keeps.{kept_by}
use Rattle.masks.specs.Masks.{lets_word}

pub same_at : (i j row col : ℕ) → (eqb i row && eqb j col) ≡ true → (i ≡ row) × (j ≡ col)
same_at i j row col at = (grind (arith, nat_tests), grind (arith, nat_tests))

either_way : (b : Bool) (o : Option ℕ) → cond b o o ≡ o
either_way true o = refl
either_way false o = refl

-- entries at some positions have the words there
pub filtered_words : (keeps : ℕ → ℕ → Bool) (es : List Entry) (i j : ℕ)
    → word_at (filter (λ e. keeps e.row e.col) es) i j ≡ cond (keeps i j) (word_at es i j) None
unfolding word_at
filtered_words keeps [] i j = sym (either_way (keeps i j) None)
filtered_words keeps (e ∷ es) i j =
    let rest = filtered_words keeps es i j in
    elim (cases_Bool (eqb i e.row && eqb j e.col)) [
      | inl at ↦
          let same = same_at i j e.row e.col at in
          let test : keeps e.row e.col ≡ keeps i j = rw (same.0, same.1) refl in
          elim (cases_Bool (keeps i j)) [
            | inl stays ↦ rw (test, stays, at) refl
            | inr goes ↦ rw (test, goes) (rw goes at rest)
          ]
      | inr away ↦ elim (cases_Bool (keeps e.row e.col)) [
        | inl stays ↦ rw (stays, away) rest
        | inr goes ↦ rw (goes, away) rest
      ]
    ]

-- what a mask keeps has the words at the positions that it lets through
pub kept_words : (mask : MaskTest) (stored es : List Entry) (i j : ℕ)
    → word_at (kept_by mask stored es) i j ≡ cond (lets_word mask (word_at stored i j)) (word_at es i j) None
kept_words mask stored es i j = filtered_words (λ i j. lets_word mask (word_at stored i j)) es i j

pub kept_along : (mask : MaskTest) (cols : ℕ) (stored es : List Entry) (i j : ℕ)
    → word_at (along cols (kept_by mask stored es)) i j ≡ cond (lets_word mask (word_at (along cols stored) i j))
    (word_at (along cols es) i j) None
kept_along mask cols stored es i j =
    elim (cases_Bool (eqb cols 1)) [
      | inl one ↦ rw (as_column cols (kept_by mask stored es) one, as_column cols stored one, as_column cols es one) (word_at-transposed (kept_by mask stored es) i j ∙ kept_words mask stored es j i ∙ rw (word_at-transposed stored i j, word_at-transposed es i j) refl)
      | inr many ↦ rw (by_rows cols (kept_by mask stored es) many, by_rows cols stored many, by_rows cols es many) (kept_words mask stored es i j)
    ]

pub kept_in : (mask : MaskTest) (first past cols : ℕ) (stored es : List Entry) → AreIn first past cols (along cols es)
    → AreIn first past cols (along cols (kept_by mask stored es))
kept_in mask first past cols stored es inside =
    are_in first past cols (kept_by mask stored es)
    (All-filter (λ e. lets_word mask (word_at stored e.row e.col)) (λ (e : Entry). LiesIn (eqb cols 1) first past cols e.row e.col) es (lies_in first past cols es inside))

pub no_word : (es : List Entry) (i j : ℕ) → length es ≡ 0 → word_at es i j ≡ None
unfolding word_at
no_word [] i j none = refl
no_word (e ∷ es) i j none = absurd (omega arith)

-- fibers without an entry have no word, and a block of such fibers none either
pub no_fibers_word : (cols : ℕ) (es : List Entry) (i j : ℕ) (word : Option ℕ) → length es ≡ 0
    → word_at (along cols es) i j ≡ word → word ≡ None
no_fibers_word cols es i j word none is = sym is ∙ no_word (along cols es) i j (length_along cols es ∙ none)

pub empty_fibers : (cols : ℕ) (es all : List Entry) → length es ≡ 0 → along cols es ≡ all → length all ≡ 0
empty_fibers cols es all none is = sym (ap length is) ∙ length_along cols es ∙ none

-- the rows of an equal map
pub rows_equal : (c d : Content) (first past cols : ℕ) (lists : FiberLists) → HasRows c first past cols lists
    → ((i j : ℕ) → first ≤ i → i < past → c i j ≡ d i j) → HasRows d first past cols lists
rows_equal c d first past cols lists rows same = record {
  flat = rows.flat;
  inside = rows.inside;
  words = λ i j low high. rows.words i j low high ∙ same i j low high;
}

-- where there is an entry there is a row
pub some_between : (first past cols : ℕ) (es all : List Entry) → 0 < length es → along cols es ≡ all
    → AreIn first past cols all → first ≤ past
some_between first past cols es all some is inside =
    let size : length all ≡ length es = sym (ap length is) ∙ length_along cols es in
    let at = inside 0 (entry_at 0 0 0) (omega arith) in
    let low = at.0.0 in
    let high = at.0.1 in
    omega arith
