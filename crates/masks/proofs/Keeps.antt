-- What a mask keeps of a fiber, entry by entry.
use Rattle.std.proofs.Common.{◌≡◌, ◌≢◌, ℕ, ◌+◌, ◌<◌, ◌≤◌, ◌-◌, ltb, Bool, true, false, List, [], ◌∷◌, ◌++◌, length, get_or, set, take, drop, Some, None, refl, sym, ◌∙◌, ap, inl, inr, arith, append_assoc, length-append, length-take, length-drop}
use Rattle.std.specs.List.{All, AllPairs, filter}
use Rattle.std.specs.List.Sorted.{IsPartitionPoint}
use Rattle.std.proofs.lemmas.Bool.{cases_Bool, cases_eq, cases_lt, ltb-true}
use Rattle.std.proofs.lemmas.List.{drop-set-lt, drop_more, get_or-drop, get_or-take, take-set-le, take_more_set}
use Rattle.model.specs.declared.entry.Entry.{Entry}
use Rattle.model.specs.Entries.{entry_at, word_at}
use Rattle.store.specs.Fibers.{entries_along}
use Rattle.store.proofs.FlatLaws.{row_in_order}
use Rattle.store.proofs.Order.{all_take}
use Rattle.store.proofs.Places.{length_row, row_at}
use Rattle.store.proofs.Positions.{word_at-found, word_at-gap}

-- ---- the word of an index in a fiber

-- the first n numbers are below x, and the next one isn't
pub record IsFirstFrom (x : ℕ) (xs : List ℕ) (n : ℕ) : Type 0 where
  pub bound : n ≤ length xs
  pub before : All (λ y. y < x) (take n xs)
  pub next : n < length xs → x ≤ get_or xs n 0

-- where the numbers behind the start of a list are below x up to a point, and those before are
pub all_before : (x : ℕ) (xs : List ℕ) (start n : ℕ) → start ≤ length xs → n ≤ length (drop start xs)
    → IsPartitionPoint (λ y. ltb y x ≡ true) (λ y. ltb y x ≡ false) (drop start xs) n
    → All (λ y. y < x) (take start xs) → All (λ y. y < x) (take (start + n) xs)
all_before x xs start n room few point before =
    all_take (λ y. y < x) (start + n) xs
    (λ k d low high.
    elim (cases_lt k start) [
      | inl less ↦ let is = get_or-take start xs k d less in let small : get_or (take start xs) k d < x = before k d (omega (arith, length-take start xs)) in rw is at small
      | inr more ↦
          let at : start + (k - start) ≡ k = omega arith in
          let test : ltb (get_or (drop start xs) (k - start) d) x ≡ true = point.0 (k - start) d (omega arith) (omega arith) in
          let is : get_or (drop start xs) (k - start) d ≡ get_or xs k d = get_or-drop start xs (k - start) d ∙ ap (λ k. get_or xs k d) at in
          ltb-true (get_or xs k d) x (rw is at test)
    ])

pub word_found : (outer index : ℕ) (inner words : List ℕ) (n : ℕ) → length words ≡ length inner
    → AllPairs (λ a b. a < b) inner → n < length inner → get_or inner n 0 ≡ index
    → word_at (entries_along outer inner words) outer index ≡ Some (get_or words n 0)
word_found outer index inner words n same rising within is =
    let es = entries_along outer inner words in
    let d = entry_at 0 0 0 in
    let at : get_or es n d ≡ entry_at outer (get_or inner n 0) (get_or words n 0) = row_at outer inner words n d same within in
    let long = length_row outer inner words same in
    sym (word_at-found outer index es n d (row_in_order outer inner words rising) (omega arith) (rw at (refl, is))) ∙ ap (λ (e : Entry). Some e.word) at

pub word_absent : (outer index : ℕ) (inner words : List ℕ) (n : ℕ) → length words ≡ length inner
    → AllPairs (λ a b. a < b) inner → IsFirstFrom index inner n → (n < length inner → get_or inner n 0 ≢ index)
    → word_at (entries_along outer inner words) outer index ≡ None
word_absent outer index inner words n same rising first away =
    let es = entries_along outer inner words in
    let long = length_row outer inner words same in
    let bound = first.bound in
    word_at-gap outer index es n (record {
      before = λ k d within.
          let less : k < n = omega (arith, length-take n es) in
          let below : get_or (take n inner) k 0 < index = first.before k 0 (omega (arith, length-take n inner)) in
          rw (get_or-take n es k d less, row_at outer inner words k d same (omega arith)) (inr (refl, rw (get_or-take n inner k 0 less) at below));
      behind = λ k d within.
          let room : n + k < length inner = omega (arith, length-drop n es) in
          let next = first.next (omega arith) in
          let other : get_or inner n 0 ≢ index = away (omega arith) in
          let above : index < get_or inner (n + k) 0 = elim (cases_eq k 0) [
            | inl zero ↦ let here : n + k ≡ n = omega arith in rw here (omega (arith, other))
            | inr some ↦ let later = rising n (n + k) 0 (omega arith) room in omega arith
          ] in
          rw (get_or-drop n es k d, row_at outer inner words (n + k) d same room) (inr (refl, above));
    })

-- ---- one entry more

pub along_append : (o : ℕ) (xs ys cs ws : List ℕ) → length ys ≡ length xs
    → entries_along o (xs ++ cs) (ys ++ ws) ≡ entries_along o xs ys ++ entries_along o cs ws
along_append o [] [] cs ws same = refl
along_append o [] (y ∷ ys) cs ws same = absurd (omega arith)
along_append o (x ∷ xs) [] cs ws same = absurd (omega arith)
along_append o (x ∷ xs) (y ∷ ys) cs ws same = ap (λ es. entry_at o x y ∷ es) (along_append o xs ys cs ws (omega arith))

-- the entry at a place is put behind those that were kept, and counted where the test keeps it
pub keep_more : (p : Entry → Bool) (outer : ℕ) (inner words : List ℕ) (kept at step : ℕ) (keep : Bool)
    (number : Bool → ℕ) (all : List Entry)
    → kept ≤ at → at < length inner → length words ≡ length inner
    → p (entry_at outer (get_or inner at 0) (get_or words at 0)) ≡ keep → step ≡ number keep → number true ≡ 1
    → number false ≡ 0
    → all ≡ entries_along outer (take kept inner)
    (take kept words) ++ filter p (entries_along outer (drop at inner) (drop at words))
    → all ≡ entries_along outer (take (kept + step) (set inner kept (get_or inner at 0)))
    (take (kept + step) (set words kept (get_or words at 0)))
    ++ filter p (entries_along outer (drop (at + 1) (set inner kept (get_or inner at 0))) (drop (at + 1) (set words kept (get_or words at 0))))
keep_more p outer inner words kept at step keep number all low within same is stepped one none here =
    let x = get_or inner at 0 in
    let w = get_or words at 0 in
    let e = entry_at outer x w in
    let front = entries_along outer (take kept inner) (take kept words) in
    let rest = entries_along outer (drop (at + 1) inner) (drop (at + 1) words) in
    let next : entries_along outer (drop at inner) (drop at words) ≡ e ∷ rest = rw (drop_more inner at 0 within, drop_more words at 0 (omega arith)) refl in
    let tail_inner = drop-set-lt (at + 1) inner kept x (omega arith) in
    let tail_words = drop-set-lt (at + 1) words kept w (omega arith) in
    let behind : entries_along outer (drop (at + 1) (set inner kept x)) (drop (at + 1) (set words kept w)) ≡ rest = rw (tail_inner, tail_words) refl in
    elim (cases_Bool keep) [
      | inl stays ↦
          let by : step ≡ 1 = stepped ∙ ap number stays ∙ one in
          let kept_it : p e ≡ true = is ∙ stays in
          let more : filter p (e ∷ rest) ≡ e ∷ filter p rest = rw kept_it refl in
          let grown : entries_along outer (take (kept + step) (set inner kept x)) (take (kept + step) (set words kept w)) ≡ front ++ e ∷ [] =
          rw (by, take_more_set inner kept x (omega arith), take_more_set words kept w (omega arith)) (along_append outer (take kept inner) (take kept words) (x ∷ []) (w ∷ []) (omega (arith, length-take kept inner, length-take kept words))) in
          here ∙ ap (λ es. front ++ filter p es) next ∙ ap (λ es. front ++ es) more ∙ sym (append_assoc front (e ∷ []) (filter p rest)) ∙ ap (λ es. es ++ filter p rest) (sym grown)
          ∙ ap (λ es. entries_along outer (take (kept + step) (set inner kept x)) (take (kept + step) (set words kept w)) ++ filter p es) (sym behind)
      | inr goes ↦
          let by : kept + step ≡ kept = let zero : step ≡ 0 = stepped ∙ ap number goes ∙ none in omega arith in
          let left_out : p e ≡ false = is ∙ goes in
          let more : filter p (e ∷ rest) ≡ filter p rest = rw left_out refl in
          let same_front : entries_along outer (take (kept + step) (set inner kept x)) (take (kept + step) (set words kept w)) ≡ front = rw (by, take-set-le kept inner kept x (omega arith), take-set-le kept words kept w (omega arith)) refl in
          here ∙ ap (λ es. front ++ filter p es) next ∙ ap (λ es. front ++ es) more ∙ ap (λ es. es ++ filter p rest) (sym same_front)
          ∙ ap (λ es. entries_along outer (take (kept + step) (set inner kept x)) (take (kept + step) (set words kept w)) ++ filter p es) (sym behind)
    ]

-- ---- one fiber and those behind it

-- a walk that steps over its first fiber has less left
pub step_shorter : (o : ℕ) (fs x x' : List Entry) → x ≡ fs ++ x' → (All (λ e. o < e.row) x → length x ≡ 0)
    → All (λ e. o < e.row) x' → 0 < length x → length x' < length x
step_shorter o [] x x' is there behind some = absurd (let none = there (rw is behind) in omega arith)
step_shorter o (f ∷ fs) x x' is there behind some = omega (arith, ap length is, length-append (f ∷ fs) x')
