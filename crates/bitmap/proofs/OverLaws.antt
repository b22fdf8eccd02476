-- Entries put over those of a map, one after another.
use Rattle.std.proofs.Common.{◌≡◌, ℕ, ◌+◌, ◌<◌, true, false, cond, ◌&&◌, eqb, List, [], ◌∷◌, ◌++◌, length, get_or, take, Some, None, refl, sym, ◌∙◌, ap, inl, inr, arith}
use Rattle.std.specs.List.{All, AllPairs, AllWithin, zip}
use Rattle.std.specs.Option.{option_or}
use Rattle.std.proofs.lemmas.Bool.{cases_Bool}
use Rattle.std.proofs.lemmas.Bool.Decides.{nat_tests}
use Rattle.std.proofs.lemmas.List.{get_or-map, get_or-take, length-take, take_more}
use Rattle.std.proofs.lemmas.Slice.Zip.{length-zip, get_or-zip}
use Rattle.model.specs.declared.entry.Entry.{Entry}
use Rattle.model.specs.Entries.{entry_at, word_at}
use Rattle.model.specs.Object.{Content, with_entry}
use Rattle.bitmap.specs.Bitmaps.{entries_down}
use Rattle.bitmap.proofs.ColumnLaws.{long_down}
use Rattle.bitmap.proofs.WordLaws.{append_left, append_right, word_at-here, word_at-none, word_at-skip}

-- a map over another: what the first has, and elsewhere what the second has
abbrev pub over : Content → Content → Content
over new old i j = option_or (new i j) (old i j)

-- what holds of the first n elements
all_take : {X : Type 0} (P : X → Type 0) (n : ℕ) (xs : List X) → AllWithin P xs 0 n → All P (take n xs)
all_take P n xs h k d within = let below : k < n = omega (arith, simp length-take at within) in rw get_or-take (h k d (omega arith) below)

-- an entry more, at a position where there was none
word_push : (es : List Entry) (e : Entry) (i j : ℕ) → word_at es e.row e.col ≡ None
    → word_at (es ++ e ∷ []) i j ≡ cond (eqb i e.row && eqb j e.col) (Some e.word) (word_at es i j)
unfolding word_at
word_push es e i j none =
    elim (cases_Bool (eqb i e.row && eqb j e.col)) [
      | inl here ↦
          let row : e.row ≡ i = grind (arith, nat_tests) in
          let col : e.col ≡ j = grind (arith, nat_tests) in
          let none_here : word_at es i j ≡ None = ap (λ r. word_at es r j) (sym row) ∙ ap (word_at es e.row) (sym col) ∙ none in
          rw here (append_left i j es (e ∷ []) none_here ∙ word_at-here i j e [] here)
      | inr away ↦
          let one : word_at (e ∷ []) i j ≡ None = word_at-skip i j e [] away in
          rw away (append_right i j es (e ∷ []) one)
    ]

pub over_more : (old : Content) (es : List Entry) (e : Entry) (i j : ℕ) → word_at es e.row e.col ≡ None
    → with_entry (over (word_at es) old) e.row e.col e.word i j ≡ over (word_at (es ++ e ∷ [])) old i j
over_more old es e i j none =
    rw (word_push es e i j none) (elim (eqb i e.row && eqb j e.col) as (λ b. cond b (Some e.word) (option_or (word_at es i j) (old i j)) ≡ option_or (cond b (Some e.word) (word_at es i j)) (old i j)) [
      | true ↦ refl
      | false ↦ refl
    ])

pub down_at : (rows words : List ℕ) (k : ℕ) (d : Entry) → length words ≡ length rows → k < length rows
    → get_or (entries_down rows words) k d ≡ entry_at (get_or rows k 0) 0 (get_or words k 0)
down_at rows words k d same within =
    let long = length-zip rows words in
    get_or-map (λ at. entry_at at.0 0 at.1) (zip rows words) k (0, 0) d (omega arith) ∙ ap (λ (p : ℕ × ℕ). entry_at p.0 0 p.1) (get_or-zip rows words k (0, 0) within (omega arith))

-- rows rise, so that the next row isn't one of those before
pub next_absent : (rows words : List ℕ) (k : ℕ) → length words ≡ length rows → AllPairs (λ a b. a < b) rows
    → k < length rows → word_at (take k (entries_down rows words)) (get_or rows k 0) 0 ≡ None
next_absent rows words k same rising within =
    word_at-none (get_or rows k 0) 0 (take k (entries_down rows words))
    (all_take (λ e. (eqb (get_or rows k 0) e.row && eqb 0 e.col) ≡ false) k (entries_down rows words)
    (λ n d low high.
    let is = down_at rows words n d same (omega arith) in
    let less : get_or rows n 0 < get_or rows k 0 = rising n k 0 high within in
    let row : (get_or (entries_down rows words) n d).row ≡ get_or rows n 0 = ap (λ (e : Entry). e.row) is in
    grind (arith, nat_tests)))

pub next_over : (old : Content) (rows words : List ℕ) (k i j : ℕ) → length words ≡ length rows
    → AllPairs (λ a b. a < b) rows → k < length rows
    → with_entry (over (word_at (take k (entries_down rows words))) old) (get_or rows k 0) 0 (get_or words k 0) i j ≡ over (word_at (take (k + 1) (entries_down rows words))) old i j
next_over old rows words k i j same rising within =
    let e = entry_at (get_or rows k 0) 0 (get_or words k 0) in
    let long = long_down rows words same in
    let more : take (k + 1) (entries_down rows words) ≡ take k (entries_down rows words) ++ e ∷ [] = take_more (entries_down rows words) k e (omega arith) ∙ ap (λ x. take k (entries_down rows words) ++ x ∷ []) (down_at rows words k e same within) in
    over_more old (take k (entries_down rows words)) e i j (next_absent rows words k same rising within) ∙ ap (λ es. over (word_at es) old i j) (sym more)
