-- The columns that a mask has as slots, and the row of the sums at them.
use Rattle.std.proofs.Common.{◌≡◌, ◌≢◌, ℕ, zero, suc, ◌+◌, ◌<◌, ◌≤◌, true, false, cond, ◌&&◌, ◌||◌, eqb, leb, ltb, Bool, List, [], ◌∷◌, ◌++◌, length, get_or, map, Option, Some, None, Result, Ok, Err, OnOk, Vec, refl, sym, ◌∙◌, ap, subst, add-one, inl, inr, arith}
use Rattle.std.specs.Option.{is_some, option_map, option_to_list}
use Rattle.std.specs.List.{All, AllPairs, Contains, cons_option, filter, filter_map}
use Rattle.std.proofs.lemmas.Bool.{cases_Bool, cases_eq, eq-eqb, ne_eqb}
use Rattle.std.proofs.lemmas.Bool.Decides.{nat_tests}
use Rattle.std.proofs.lemmas.List.{append-nil, length-map}
use Rattle.std.proofs.lemmas.List.Elements.{All-nil, All-cons, All-contains, All-contains_itself, All-head, All-tail, All-weaker, All-map, Contains-append_right, filter_agree}
use Rattle.std.proofs.lemmas.List.Folds.{list_any_none}
use Rattle.algebra.specs.declared.binary.BinaryOp.{BinaryOp}
use Rattle.masks.specs.declared.view.MaskTest.{MaskTest}
use Rattle.masks.specs.declared.view.SparseMask.{SparseMask}
use Rattle.masks.specs.Masks.{counts, has_word}
use Rattle.model.specs.declared.entry.Entry.{Entry}
use Rattle.model.specs.Entries.{InOrder, below, count_from, entry_at, row_entries, word_at}
use Rattle.model.specs.declared.memory.NoMemory.{NoMemory}
use Rattle.store.specs.declared.lists.FiberEnd.{FiberEnd}
use Rattle.store.specs.declared.lists.FiberLists.{FiberLists}
use Rattle.store.specs.Fibers.{entries_along}
use Rattle.store.specs.Stored.{Stored, content_of}
use Rattle.store.proofs.CloseLaws.{closed}
use Rattle.store.proofs.FlatLaws.{all_cols}
use Rattle.store.proofs.Order.{all_pairs_cons, all_pairs_filter, all_pairs_head, all_pairs_map, all_pairs_nil, all_pairs_tail}
use Rattle.store.proofs.RowWords.{columns_rise, word_at-row_entries}
use Rattle.store.proofs.Walks.{cols_rise}
use Rattle.terms.specs.declared.term.Term.{Term}
use Rattle.spgemm.specs.Keeping.{keeps_among}
use Rattle.spgemm.specs.Products.{HasRow, IsSumRow, lets_by}
use Rattle.spgemm.specs.Slots.{AreSlots, AreSlotSums, IsSlotOf, counted, is_slot, present}
use Rattle.terms.specs.Terms.{kept_terms, sum_at, term_at, words_at}
use Rattle.spgemm.specs.Vectors.{in_range}
use Rattle.terms.proofs.Kept.{kept_all, sum_kept}
use Rattle.spgemm.proofs.Rows.{side_by_side_words}

-- ---- numbers in a row

all_numbers : (first n : ℕ) → All (λ k. (first ≤ k) × (k < first + n)) (count_from first n)
unfolding count_from
all_numbers first zero = All-nil (λ k. (first ≤ k) × (k < first + 0))
all_numbers first (suc n) =
    All-cons (λ k. (first ≤ k) × (k < first + suc n)) first (count_from (first + 1) n) (omega arith, omega arith)
    (All-weaker (λ k. (first + 1 ≤ k) × (k < first + 1 + n)) (λ k. (first ≤ k) × (k < first + suc n)) (λ k p. (omega (arith, p.0), omega (arith, p.1))) (count_from (first + 1) n) (all_numbers (first + 1) n))

numbers_rise : (first n : ℕ) → AllPairs (λ p q. p < q) (count_from first n)
unfolding count_from
numbers_rise first zero = all_pairs_nil (λ p q. p < q)
numbers_rise first (suc n) =
    all_pairs_cons (λ p q. p < q) first (count_from (first + 1) n)
    (All-weaker (λ k. (first + 1 ≤ k) × (k < first + 1 + n)) (λ k. first < k) (λ k p. omega (arith, p.0)) (count_from (first + 1) n) (all_numbers (first + 1) n))
    (numbers_rise (first + 1) n)

one_number : (col first n : ℕ) → filter (λ k. eqb k col)
    (count_from first n) ≡ cond (leb first col && ltb col (first + n)) (col ∷ []) []
unfolding count_from
one_number col first zero = let out : (leb first col && ltb col (first + 0)) ≡ false = grind (arith, nat_tests) in rw out refl
one_number col first (suc n) =
    let rest = one_number col (first + 1) n in
    elim (cases_eq first col) [
      | inl here ↦
          let out : (leb (first + 1) col && ltb col (first + 1 + n)) ≡ false = grind (arith, nat_tests) in
          let in_it : (leb first col && ltb col (first + suc n)) ≡ true = grind (arith, nat_tests) in
          let none : filter (λ k. eqb k col) (count_from (first + 1) n) ≡ [] = rw out at rest in
          rw (in_it, eq-eqb first col here, none) (ap (λ k. k ∷ []) here)
      | inr away ↦
          let same : (leb (first + 1) col && ltb col (first + 1 + n)) ≡ (leb first col && ltb col (first + suc n)) = grind (arith, nat_tests) in
          let more : filter (λ k. eqb k col) (count_from (first + 1) n) ≡ cond (leb first col && ltb col (first + suc n)) (col ∷ []) [] = rw same at rest in
          rw (ne_eqb first col away) more
    ]

-- ---- slots

-- every column a slot
pub all_slots : (n : ℕ) → AreSlots (λ col. ltb col n) (below n)
all_slots n = record {
  rising = numbers_rise 0 n;
  kept = All-weaker (λ k. (0 ≤ k) × (k < 0 + n)) (λ k. ltb k n ≡ true) (λ k p. let less = p.1 in grind (arith, nat_tests)) (below n) (all_numbers 0 n);
  once = λ col. one_number col 0 n ∙ (let same : (leb 0 col && ltb col (0 + n)) ≡ ltb col n = grind (arith, nat_tests) in ap (λ b. cond b (col ∷ []) []) same);
}

-- ---- whether a column is a slot

any_none : (col : ℕ) (slots : List ℕ) → All (λ slot. slot ≢ col) slots → is_slot slots col ≡ false
any_none col slots h = list_any_none (λ slot. eqb slot col) slots (All-weaker (λ slot. slot ≢ col) (λ slot. eqb slot col ≡ false) (λ slot away. ne_eqb slot col away) slots h)

any_at : (col : ℕ) (slots : List ℕ) (at : ℕ) → at < length slots → get_or slots at 0 ≡ col → is_slot slots col ≡ true
any_at col [] at within is = absurd (omega arith)
any_at col (s ∷ slots) zero within is = rw (eq-eqb s col is) refl
any_at col (s ∷ slots) (suc at) within is = elim (eqb s col) as (λ b. (b || is_slot slots col) ≡ true) [
  | true ↦ refl
  | false ↦ any_at col slots at (omega arith) is
]

pub slot_found : (slots : List ℕ) (col : ℕ) (found : Option ℕ) → IsSlotOf slots col found
    → is_some found ≡ is_slot slots col
slot_found slots col None h = sym (any_none col slots h)
slot_found slots col (Some at) h = sym (any_at col slots at h.0 h.1)

filter_not_any : (col : ℕ) (slots : List ℕ) → is_slot slots col ≡ false → filter (λ slot. eqb slot col) slots ≡ []
filter_not_any col [] h = refl
filter_not_any col (s ∷ slots) h =
    elim (cases_eq s col) [
      | inl here ↦ let other : true ≡ false = rw (eq-eqb s col here) at h in cc
      | inr away ↦ let rest : is_slot slots col ≡ false = rw (ne_eqb s col away) at h in rw (ne_eqb s col away) (filter_not_any col slots rest)
    ]

none_filtered : (col : ℕ) (slots : List ℕ) → filter (λ slot. eqb slot col) slots ≡ [] → All (λ slot. slot ≢ col) slots
none_filtered col [] h = All-nil (λ slot. slot ≢ col)
none_filtered col (s ∷ slots) h =
    elim (cases_eq s col) [
      | inl here ↦ let some : s ∷ filter (λ slot. eqb slot col) slots ≡ [] = rw (eq-eqb s col here) at h in absurd cc
      | inr away ↦ let rest : filter (λ slot. eqb slot col) slots ≡ [] = rw (ne_eqb s col away) at h in All-cons (λ slot. slot ≢ col) s slots away (none_filtered col slots rest)
    ]

pub slot_kept : (keeps : ℕ → Bool) (slots : List ℕ) (col : ℕ) → AreSlots keeps slots → is_slot slots col ≡ keeps col
slot_kept keeps slots col are =
    let once = are.once col in
    elim (cases_Bool (keeps col)) [
      | inl with_it ↦
          elim (cases_Bool (is_slot slots col)) [
            | inl found ↦ found ∙ sym with_it
            | inr missed ↦
                let one : filter (λ slot. eqb slot col) slots ≡ col ∷ [] = rw with_it at once in
                let none = filter_not_any col slots missed in
                absurd cc
          ]
      | inr without ↦
          let none : filter (λ slot. eqb slot col) slots ≡ [] = rw without at once in
          any_none col slots (none_filtered col slots none) ∙ sym without
    ]

-- ---- the columns of a mask's row

-- a row has no word at a column before its own
none_before : (row col : ℕ) (cols words : List ℕ) → All (λ c. col < c) cols
    → word_at (entries_along row cols words) row col ≡ None
unfolding word_at
none_before row col [] words h = refl
none_before row col (c ∷ cols) [] h = refl
none_before row col (c ∷ cols) (w ∷ words) h =
    let before = All-head (λ c. col < c) c cols h in
    rw (eq-eqb row row refl, ne_eqb col c (λ same. absurd (omega (arith, before, same)))) (none_before row col cols words (All-tail (λ c. col < c) c cols h))

counted_once : (valued : Bool) (row col : ℕ) (cols words : List ℕ) → AllPairs (λ p q. p < q) cols
    → filter (λ slot. eqb slot col)
    (counted valued (entries_along 0 cols words)) ≡ cond (has_word valued (word_at (entries_along row cols words) row col)) (col ∷ []) []
unfolding word_at
counted_once valued row col [] words rising = refl
counted_once valued row col (c ∷ cols) [] rising = refl
counted_once valued row col (c ∷ cols) (w ∷ words) rising =
    let others = filter (λ slot. eqb slot col) (counted valued (entries_along 0 cols words)) in
    let rest = counted_once valued row col cols words (all_pairs_tail (λ p q. p < q) c cols rising) in
    elim (cases_eq c col) [
      | inl here ↦
          let none = none_before row col cols words (subst (λ c. All (λ x. c < x) cols) here (all_pairs_head (λ p q. p < q) c cols rising)) in
          let empty : others ≡ [] = rw none at rest in
          elim (cases_Bool (counts valued w)) [
            | inl with_it ↦ rw (eq-eqb row row refl, eq-eqb col c (sym here), with_it, eq-eqb c col here, empty) (ap (λ k. k ∷ []) here)
            | inr without ↦ rw (eq-eqb row row refl, eq-eqb col c (sym here), without) empty
          ]
      | inr away ↦
          elim (cases_Bool (counts valued w)) [
            | inl with_it ↦ rw (eq-eqb row row refl, ne_eqb col c (λ same. away (sym same)), with_it, ne_eqb c col away) rest
            | inr without ↦ rw (eq-eqb row row refl, ne_eqb col c (λ same. away (sym same)), without) rest
          ]
    ]

along_rise : (row : ℕ) (cols words : List ℕ) → AllPairs (λ p q. p < q) cols
    → AllPairs (λ (e f : Entry). e.col < f.col) (entries_along row cols words)
along_rise row [] words rising = all_pairs_nil (λ (e f : Entry). e.col < f.col)
along_rise row (c ∷ cols) [] rising = all_pairs_nil (λ (e f : Entry). e.col < f.col)
along_rise row (c ∷ cols) (w ∷ words) rising =
    all_pairs_cons (λ (e f : Entry). e.col < f.col) (entry_at row c w) (entries_along row cols words)
    (All-weaker (λ (e : Entry). (e.row ≡ row) × (c < e.col)) (λ (e : Entry). c < e.col) (λ e p. p.1) (entries_along row cols words) (all_cols (λ col. c < col) row cols words (all_pairs_head (λ p q. p < q) c cols rising)))
    (along_rise row cols words (all_pairs_tail (λ p q. p < q) c cols rising))

-- the columns of a mask's row that count are slots
pub counted_slots : (valued : Bool) (row : ℕ) (cols words slots : List ℕ) → AllPairs (λ p q. p < q) cols
    → slots ≡ counted valued (entries_along 0 cols words)
    → AreSlots (λ col. has_word valued (word_at (entries_along row cols words) row col)) slots
counted_slots valued row cols words slots rising held =
    let has : ℕ → Bool = λ col. has_word valued (word_at (entries_along row cols words) row col) in
    let test : Entry → Bool = λ e. counts valued e.word in
    let es = entries_along 0 cols words in
    let once : (col : ℕ) → filter (λ slot. eqb slot col) slots ≡ cond (has col) (col ∷ []) [] = λ col. ap (filter (λ slot. eqb slot col)) held ∙ counted_once valued row col cols words rising in
    record {
      rising = subst (AllPairs (λ p q. p < q)) (sym held) (all_pairs_map (λ p q. p < q) (λ (e : Entry). e.col) (filter test es) (all_pairs_filter (λ (e f : Entry). e.col < f.col) test es (along_rise 0 cols words rising)));
      kept =
          All-weaker (λ slot. Contains slots slot) (λ slot. has slot ≡ true)
          (λ slot among. elim (cases_Bool (has slot)) [
            | inl with_it ↦ with_it
            | inr without ↦
                let none : filter (λ s. eqb s slot) slots ≡ [] = rw without at (once slot) in
                absurd (All-contains (λ s. s ≢ slot) slots slot (none_filtered slot slots none) among refl)
          ]) slots (All-contains_itself slots);
      once = once;
    }

-- and they lie where the row lies
word_within : (first past row col : ℕ) (valued : Bool) (cols words : List ℕ)
    → All (λ col. (first ≤ col) × (col < past)) cols
    → has_word valued (word_at (entries_along row cols words) row col) ≡ true → in_range first past col ≡ true
unfolding word_at
word_within first past row col valued [] words inside has = absurd cc
word_within first past row col valued (c ∷ cols) [] inside has = absurd cc
word_within first past row col valued (c ∷ cols) (w ∷ words) inside has =
    elim (cases_eq c col) [
      | inl here ↦
          let at = All-head (λ col. (first ≤ col) × (col < past)) c cols inside in
          let low : leb first col ≡ true = grind (arith, nat_tests, at.0, here) in
          let high : ltb col past ≡ true = grind (arith, nat_tests, at.1, here) in
          rw (low, high) refl
      | inr away ↦
          let rest : has_word valued (word_at (entries_along row cols words) row col) ≡ true = rw (eq-eqb row row refl, ne_eqb col c (λ same. away (sym same))) at has in
          word_within first past row col valued cols words (All-tail (λ col. (first ≤ col) × (col < past)) c cols inside) rest
    ]

both_or_none : (inside has : Bool) → (has ≡ true → inside ≡ true) → has ≡ (inside && has)
both_or_none true has h = refl
both_or_none false true h = sym (h refl)
both_or_none false false h = refl

-- the terms at the slots are those that a mask keeps which isn't complemented
held_terms : (test : MaskTest) (first past row : ℕ) (cols words : List ℕ) (terms : List Term) → test.complement ≡ false
    → All (λ col. (first ≤ col) × (col < past)) cols
    → kept_terms (λ col. has_word test.valued (word_at (entries_along row cols words) row col)) terms ≡ kept_terms (keeps_among test first past (entries_along row cols words) row) terms
held_terms test first past row cols words terms plain inside =
    let es = entries_along row cols words in
    filter_agree (λ (t : Term). has_word test.valued (word_at es row t.col)) (λ (t : Term). keeps_among test first past es row t.col)
    (λ t. rw plain (both_or_none (in_range first past t.col) (has_word test.valued (word_at es row t.col)) (word_within first past row t.col test.valued cols words inside))) terms

-- ---- the row of the sums

abbrev found_sums : (ℕ → Option ℕ) → List ℕ → List Term
found_sums f slots = filter_map (λ col. option_map (term_at col) (f col)) slots

present_is : (f : ℕ → Option ℕ) (slots : List ℕ) (sums : List (Option ℕ)) → length sums ≡ length slots
    → ((at : ℕ) → at < length slots → get_or sums at None ≡ f (get_or slots at 0))
    → present slots sums ≡ found_sums f slots
present_is f [] sums same are = refl
present_is f (s ∷ slots) [] same are = absurd (omega arith)
present_is f (s ∷ slots) (o ∷ sums) same are =
    let first : o ≡ f s = are 0 (omega arith) in
    let rest = present_is f slots sums (omega arith) (λ at within. let next = are (at + 1) (omega arith) in rw add-one at next) in
    rw first (ap (cons_option (option_map (term_at s) (f s))) rest)

words_found : (f : ℕ → Option ℕ) (col : ℕ) (slots : List ℕ)
    → words_at col (found_sums f slots) ≡ words_at col (found_sums f (filter (λ slot. eqb slot col) slots))
words_found f col [] = refl
words_found f col (s ∷ slots) =
    let rest = words_found f col slots in
    elim (cases_eq s col) [
      | inl here ↦ rw (eq-eqb s col here) (elim (f s) as (λ o. words_at col (cons_option (option_map (term_at s) o) (found_sums f slots)) ≡ words_at col (cons_option (option_map (term_at s) o) (found_sums f (filter (λ slot. eqb slot col) slots)))) [
        | None ↦ rest
        | Some w ↦ rw (eq-eqb s col here) (ap (λ ws. w ∷ ws) rest)
      ])
      | inr away ↦ rw (ne_eqb s col away) (elim (f s) as (λ o. words_at col (cons_option (option_map (term_at s) o) (found_sums f slots)) ≡ words_at col (found_sums f (filter (λ slot. eqb slot col) slots))) [
        | None ↦ rest
        | Some w ↦ rw (ne_eqb s col away) rest
      ])
    ]

words_one : (f : ℕ → Option ℕ) (col : ℕ) (b : Bool)
    → words_at col (found_sums f (cond b (col ∷ []) [])) ≡ option_to_list (cond b (f col) None)
words_one f col true = elim (f col) as (λ o. words_at col (cons_option (option_map (term_at col) o) []) ≡ option_to_list o) [
  | None ↦ refl
  | Some w ↦ rw (eq-eqb col col refl) refl
]
words_one f col false = refl

found_above : (f : ℕ → Option ℕ) (low : ℕ) (slots : List ℕ) → All (λ slot. low < slot) slots
    → All (λ s. low < s.col) (found_sums f slots)
found_above f low [] h = All-nil (λ s. low < s.col)
found_above f low (s ∷ slots) h =
    let rest = found_above f low slots (All-tail (λ slot. low < slot) s slots h) in
    elim (f s) as (λ o. All (λ s. low < s.col) (cons_option (option_map (term_at s) o) (found_sums f slots))) [
      | None ↦ rest
      | Some w ↦ All-cons (λ s. low < s.col) (term_at s w) (found_sums f slots) (All-head (λ slot. low < slot) s slots h) rest
    ]

found_rise : (f : ℕ → Option ℕ) (slots : List ℕ) → AllPairs (λ p q. p < q) slots
    → AllPairs (λ s t. s.col < t.col) (found_sums f slots)
found_rise f [] h = all_pairs_nil (λ s t. s.col < t.col)
found_rise f (s ∷ slots) h =
    let rest = found_rise f slots (all_pairs_tail (λ p q. p < q) s slots h) in
    elim (f s) as (λ o. AllPairs (λ s t. s.col < t.col) (cons_option (option_map (term_at s) o) (found_sums f slots))) [
      | None ↦ rest
      | Some w ↦ all_pairs_cons (λ s t. s.col < t.col) (term_at s w) (found_sums f slots) (found_above f s slots (all_pairs_head (λ p q. p < q) s slots h)) rest
    ]

abbrev pub at_term : Term → ℕ
at_term t = t.col

-- a column that is kept, and has words, is one of the terms that are kept
pub has_words : (keeps : ℕ → Bool) (col word : ℕ) (words : List ℕ) (terms : List Term) → keeps col ≡ true
    → words_at col terms ≡ word ∷ words → Contains (map at_term (kept_terms keeps terms)) col
has_words keeps col word words [] kept some = absurd cc
has_words keeps col word words (t ∷ terms) kept some =
    elim (cases_eq t.col col) [
      | inl here ↦ let also : keeps t.col ≡ true = ap keeps here ∙ kept in rw also (0, omega arith, here)
      | inr away ↦
          let rest : words_at col terms ≡ word ∷ words = rw (ne_eqb t.col col away) at some in
          let more = has_words keeps col word words terms kept rest in
          elim (cases_Bool (keeps t.col)) [
            | inl with_it ↦ rw with_it (Contains-append_right (t.col ∷ []) (map at_term (kept_terms keeps terms)) col more)
            | inr without ↦ rw without more
          ]
    ]

pub words_of_sum : (op : BinaryOp) (col word : ℕ) (terms : List Term) (words : List ℕ) → words ≡ words_at col terms
    → sum_at op col terms ≡ Some word → (rest : List ℕ) × (words_at col terms ≡ get_or words 0 0 ∷ rest)
words_of_sum op col word terms [] is some = let none : sum_at op col terms ≡ None = rw (← is) refl in absurd cc
words_of_sum op col word terms (w ∷ ws) is some = (ws, sym is)

found_more : (op : BinaryOp) (keeps : ℕ → Bool) (terms : List Term) (slot : ℕ) (rest : List Term) → keeps slot ≡ true
    → All (λ s. Contains (map at_term (kept_terms keeps terms)) s.col) rest → (o : Option ℕ) → sum_at op slot terms ≡ o
    → All (λ s. Contains (map at_term (kept_terms keeps terms)) s.col) (cons_option (option_map (term_at slot) o) rest)
found_more op keeps terms slot rest kept h None is = h
found_more op keeps terms slot rest kept h (Some word) is =
    let words = words_of_sum op slot word terms (words_at slot terms) refl is in
    All-cons (λ s. Contains (map at_term (kept_terms keeps terms)) s.col) (term_at slot word) rest (has_words keeps slot (get_or (words_at slot terms) 0 0) words.0 terms kept words.1) h

found_kept : (op : BinaryOp) (keeps : ℕ → Bool) (terms : List Term) (slots : List ℕ)
    → All (λ slot. keeps slot ≡ true) slots → All (λ s. Contains (map at_term (kept_terms keeps terms)) s.col)
    (found_sums (λ col. sum_at op col terms) slots)
found_kept op keeps terms [] h = All-nil (λ s. Contains (map at_term (kept_terms keeps terms)) s.col)
found_kept op keeps terms (slot ∷ slots) h =
    let P : Term → Type 0 = λ s. Contains (map at_term (kept_terms keeps terms)) s.col in
    let rest = found_kept op keeps terms slots (All-tail (λ slot. keeps slot ≡ true) slot slots h) in
    found_more op keeps terms slot (found_sums (λ col. sum_at op col terms) slots) (All-head (λ slot. keeps slot ≡ true) slot slots h) rest (sum_at op slot terms) refl

-- the sums at the columns that are kept are the row of the sums of the terms that are kept
pub found_row : (op : BinaryOp) (index : ℕ) (keeps : ℕ → Bool) (slots : List ℕ) (terms : List Term)
    → AreSlots keeps slots
    → IsSumRow op index (kept_terms keeps terms) (map (λ s. s.col) (found_sums (λ col. sum_at op col terms) slots))
    (map (λ s. s.word) (found_sums (λ col. sum_at op col terms) slots))
found_row op index keeps slots terms are =
    let f : ℕ → Option ℕ = λ col. sum_at op col terms in
    record {
      lengths = length-map (found_sums f slots) (λ (s : Term). s.word) ∙ sym (length-map (found_sums f slots) at_term);
      rising = all_pairs_map (λ p q. p < q) at_term (found_sums f slots) (found_rise f slots are.rising);
      columns = All-map (λ col. Contains (map at_term (kept_terms keeps terms)) col) at_term (found_sums f slots) (found_kept op keeps terms slots are.kept);
      words_are = λ col.
          side_by_side_words index col (found_sums f slots) (sum_at op col (kept_terms keeps terms))
          (words_found f col slots ∙ ap (λ ss. words_at col (found_sums f ss)) (are.once col) ∙ words_one f col (keeps col) ∙ ap option_to_list (sym (sum_kept op keeps col terms)));
    }

-- what stands beside the slots is the row of the sums of the terms that are kept
slot_row : (op : BinaryOp) (index : ℕ) (keeps : ℕ → Bool) (slots : List ℕ) (terms : List Term) (sums : List (Option ℕ))
    → AreSlots keeps slots → AreSlotSums op slots terms sums
    → IsSumRow op index (kept_terms keeps terms) (map (λ s. s.col) (present slots sums))
    (map (λ s. s.word) (present slots sums))
slot_row op index keeps slots terms sums are here = rw (present_is (λ col. sum_at op col terms) slots sums here.lengths here.sums_are) (found_row op index keeps slots terms are)

-- the sums behind the rows, where the row was closed
pub slots_closed : (r : Result (Unit {0}) NoMemory) (op : BinaryOp) (index : ℕ) (slots : List ℕ) (terms : List Term)
    (sums : List (Option ℕ)) (old mid new : FiberLists) → AreSlotSums op slots terms sums
    → mid.ends ≡ old.ends → mid.inner.items ≡ old.inner.items ++ map (λ s. s.col) (present slots sums)
    → mid.words.items ≡ old.words.items ++ map (λ s. s.word) (present slots sums)
    → OnOk r (new.ends.items ≡ closed mid.ends.items index (length mid.inner.items))
    → new.inner.items ≡ mid.inner.items → new.words.items ≡ mid.words.items
    → OnOk r ((keeps : ℕ → Bool) → AreSlots keeps slots → HasRow op index (kept_terms keeps terms) old new)
slots_closed (Err e) op index slots terms sums old mid new here same put_inner put_words ends inner words = tt
slots_closed (Ok u) op index slots terms sums old mid new here same put_inner put_words ends inner words = λ keeps are.
    record {
      cols = map (λ s. s.col) (present slots sums);
      added = map (λ s. s.word) (present slots sums);
      sums = slot_row op index keeps slots terms sums are here;
      inner = inner ∙ put_inner;
      words = words ∙ put_words;
      ends = ends ∙ ap (λ es. closed es index (length mid.inner.items)) (ap (λ (v : Vec FiberEnd _). v.items) same) ∙ ap (λ is. closed old.ends.items index (length is)) (sym inner);
    }

-- without slots the row has no sums
pub no_slots_closed : (r : Result (Unit {0}) NoMemory) (op : BinaryOp) (index : ℕ) (slots : List ℕ) (terms : List Term)
    (old new : FiberLists) → length slots ≡ 0
    → OnOk r (new.ends.items ≡ closed old.ends.items index (length old.inner.items))
    → new.inner.items ≡ old.inner.items → new.words.items ≡ old.words.items
    → OnOk r ((keeps : ℕ → Bool) → AreSlots keeps slots → HasRow op index (kept_terms keeps terms) old new)
no_slots_closed r op index [] terms old new none ends inner words =
    slots_closed r op index [] terms [] old old new (record { lengths = refl; sums_are = λ at within. absurd (omega arith) }) refl (sym (append-nil old.inner.items)) (sym (append-nil old.words.items)) ends inner words
no_slots_closed r op index (s ∷ slots) terms old new none ends inner words = absurd (omega arith)

-- ---- where terms are at columns below a width

agree_below : (p q : ℕ → Bool) (width : ℕ) (terms : List Term) → All (λ t. t.col < width) terms
    → ((col : ℕ) → col < width → p col ≡ q col) → kept_terms p terms ≡ kept_terms q terms
agree_below p q width [] below same = refl
agree_below p q width (t ∷ ts) below same =
    let rest = agree_below p q width ts (All-tail (λ t. t.col < width) t ts below) same in
    rw (same t.col (All-head (λ t. t.col < width) t ts below)) (elim (q t.col) as (λ b. cond b (t ∷ kept_terms p ts) (kept_terms p ts) ≡ cond b (t ∷ kept_terms q ts) (kept_terms q ts)) [
      | true ↦ ap (λ ts. t ∷ ts) rest
      | false ↦ rest
    ])

-- so the row at the slots is the one that the mask keeps
pub held_row : (r : Result (Unit {0}) NoMemory) (test : MaskTest) (op : BinaryOp) (row first past : ℕ)
    (cols words slots : List ℕ) (terms : List Term) (old new : FiberLists) → test.complement ≡ false
    → AllPairs (λ p q. p < q) cols → All (λ col. (first ≤ col) × (col < past)) cols
    → slots ≡ counted test.valued (entries_along 0 cols words)
    → OnOk r ((keeps : ℕ → Bool) → AreSlots keeps slots → HasRow op row (kept_terms keeps terms) old new)
    → OnOk r (HasRow op row (kept_terms (keeps_among test first past (entries_along row cols words) row) terms) old new)
held_row (Err e) test op row first past cols words slots terms old new plain rising inside held here = tt
held_row (Ok u) test op row first past cols words slots terms old new plain rising inside held here =
    subst (λ ts. HasRow op row ts old new) (held_terms test first past row cols words terms plain inside)
    (here (λ col. has_word test.valued (word_at (entries_along row cols words) row col)) (counted_slots test.valued row cols words slots rising held))

-- where all is kept
pub row_all : (r : Result (Unit {0}) NoMemory) (op : BinaryOp) (row : ℕ) (terms : List Term) (old new : FiberLists)
    → OnOk r (HasRow op row terms old new) → OnOk r (HasRow op row (kept_terms (λ col. true) terms) old new)
row_all (Err e) op row terms old new here = tt
row_all (Ok u) op row terms old new here = subst (λ ts. HasRow op row ts old new) (sym (kept_all terms)) here

-- the row at the columns that a mask keeps, by the entries of its store's row, is the one that the mask lets through
pub row_kept : (r : Result (Unit {0}) NoMemory) (mask : SparseMask) (i width : ℕ) (op : BinaryOp) (terms : List Term)
    (old new : FiberLists) (entries : List Entry) → mask.store.now.cols ≡ width → All (λ t. t.col < width) terms
    → entries ≡ row_entries mask.store.now.cols (content_of mask.store.now) i
    → OnOk r (HasRow op i (kept_terms (keeps_among mask.test 0 width entries i) terms) old new)
    → OnOk r (HasRow op i (kept_terms (lets_by (Some mask) i) terms) old new)
row_kept (Err e) mask i width op terms old new entries same below is here = tt
row_kept (Ok u) mask i width op terms old new entries same below is here =
    subst (λ ts. HasRow op i ts old new)
    (agree_below (keeps_among mask.test 0 width entries i) (lets_by (Some mask) i) width terms below
    (λ col less.
    let low : leb 0 col ≡ true = grind (arith, nat_tests) in
    let high : ltb col width ≡ true = grind (arith, nat_tests) in
    let inside : ltb col mask.store.now.cols ≡ true = rw same high in
    let word : word_at entries i col ≡ content_of mask.store.now i col = ap (λ es. word_at es i col) is ∙ word_at-row_entries mask.store.now.cols (content_of mask.store.now) i col ∙ rw inside refl in
    rw (low, high, word) refl)) here

-- the columns of a row of a store rise
pub row_rises : (store : Stored) (i : ℕ) (cols words : List ℕ) → length words ≡ length cols
    → entries_along i cols words ≡ row_entries store.cols (content_of store) i → AllPairs (λ p q. p < q) cols
row_rises store i cols words same is = cols_rise i cols words same (subst InOrder (sym is) (columns_rise (content_of store) i store.cols 0))
