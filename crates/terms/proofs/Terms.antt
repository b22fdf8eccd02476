-- The terms of a row, one entry of A after another, and their sums.
use Rattle.std.proofs.Common.{◌≡◌, ◌≢◌, ℕ, ◌+◌, ◌<◌, ◌≤◌, true, false, cond, eqb, List, [], ◌∷◌, ◌++◌, length, get_or, take, map, Option, Some, None, refl, sym, ◌∙◌, ap, subst, add-one, inl, inr, arith}
use Rattle.std.specs.Option.{option_to_list}
use Rattle.std.specs.List.{All, AllPairs, Contains, filter, reduce}
use Rattle.std.specs.List.Sorted.{IsNonDecreasingBy}
use Rattle.std.proofs.lemmas.Bool.{cases_eq, eq-eqb, ne_eqb}
use Rattle.std.proofs.lemmas.List.{take_more, get_or_default, flat_map_more, map-append, append-nil}
use Rattle.std.proofs.lemmas.List.Elements.{All-nil, All-cons, All-tail, All-head, All-append, All-weaker, All-map, All-push, filter-append, Contains-push, Contains-append_left}
use Rattle.std.proofs.lemmas.List.Quantifiers.{all_pairs_push}
use Rattle.std.proofs.lemmas.List.Sums.{fold-append}
use Rattle.algebra.specs.declared.binary.BinaryOp.{BinaryOp}
use Rattle.model.specs.declared.entry.Entry.{Entry}
use Rattle.model.specs.Entries.{entry_at, row_entries}
use Rattle.store.specs.Fibers.{entries_along}
use Rattle.store.specs.Stored.{Stored, content_of}
use Rattle.store.proofs.Order.{all_pairs_left, all_pairs_across, all_append_left}
use Rattle.store.proofs.Places.{length_row, row_at}
use Rattle.terms.specs.declared.term.Term.{Term}
use Rattle.terms.specs.Terms.{apply, term_at, times_row, terms_of_row, words_at, sum_at, AreSums}

pub terms_more : (op : BinaryOp) (b : Stored) (row : List Entry) (k : ℕ) (d : Entry) → k < length row
    → terms_of_row op (take (k + 1) row) b ≡ terms_of_row op (take k row) b ++ times_row op (get_or row k d).word (row_entries b.cols (content_of b) (get_or row k d).col)
terms_more op b row k d within =
    let f : Entry → List Term = λ e. times_row op e.word (row_entries b.cols (content_of b) e.col) in
    rw (take_more row k d within) (sym (flat_map_more f [] (take k row) (get_or row k d)))

pub times_more : (op : BinaryOp) (word : ℕ) (row : List Entry) (k : ℕ) (d : Entry) → k < length row
    → times_row op word (take (k + 1) row) ≡ times_row op word (take k row) ++ term_at (get_or row k d).col (apply op word (get_or row k d).word) ∷ []
times_more op word row k d within = rw (take_more row k d within) (map-append (λ (e : Entry). term_at e.col (apply op word e.word)) (take k row) (get_or row k d ∷ []))

-- the row's own index does not matter
pub times_any : (op : BinaryOp) (word i : ℕ) (cols words : List ℕ)
    → times_row op word (entries_along i cols words) ≡ times_row op word (entries_along 0 cols words)
times_any op word i [] words = refl
times_any op word i (c ∷ cols) [] = refl
times_any op word i (c ∷ cols) (w ∷ words) = ap (λ ts. term_at c (apply op word w) ∷ ts) (times_any op word i cols words)

pub times_cols : (op : BinaryOp) (word i cols : ℕ) (row : List Entry) → All (λ e. (e.row ≡ i) × (e.col < cols)) row
    → All (λ t. t.col < cols) (times_row op word row)
times_cols op word i cols row h =
    All-map (λ t. t.col < cols) (λ e. term_at e.col (apply op word e.word)) row (All-weaker (λ e. (e.row ≡ i) × (e.col < cols)) (λ e. e.col < cols) (λ e p. p.1) row h)

-- ---- the words at a column

pub words_at-append : (col : ℕ) (xs ys : List Term) → words_at col (xs ++ ys) ≡ words_at col xs ++ words_at col ys
words_at-append col xs ys = rw (filter-append (λ t. eqb t.col col) xs ys, map-append (λ t. t.word) (filter (λ t. eqb t.col col) xs) (filter (λ t. eqb t.col col) ys)) refl

pub words_at-here : (col : ℕ) (t : Term) → t.col ≡ col → words_at col (t ∷ []) ≡ t.word ∷ []
words_at-here col t e = rw (eq-eqb t.col col e) refl

pub words_at-away : (col : ℕ) (t : Term) → t.col ≢ col → words_at col (t ∷ []) ≡ []
words_at-away col t e = rw (ne_eqb t.col col e) refl

pub words_at-none : (col : ℕ) (xs : List Term) → All (λ t. t.col ≢ col) xs → words_at col xs ≡ []
words_at-none col [] h = refl
words_at-none col (x ∷ xs) h = rw (ne_eqb x.col col (All-head (λ t. t.col ≢ col) x xs h)) (words_at-none col xs (All-tail (λ t. t.col ≢ col) x xs h))

-- ---- sums from the first word on

pub reduce-push : (f : ℕ → ℕ → ℕ) (xs : List ℕ) (a y : ℕ) → reduce f xs ≡ Some a
    → reduce f (xs ++ y ∷ []) ≡ Some (f a y)
reduce-push f [] a y h = cc
reduce-push f (x ∷ xs) a y h = let step = fold-append f x xs (y ∷ []) in cc

pub reduce-none : (f : ℕ → ℕ → ℕ) (xs : List ℕ) → reduce f xs ≡ None → xs ≡ []
reduce-none f [] h = refl
reduce-none f (x ∷ xs) h = cc

one_from_list : (o : Option ℕ) (a : ℕ) → a ∷ [] ≡ option_to_list o → o ≡ Some a
one_from_list None a h = cc
one_from_list (Some b) a h = cc

none_from_list : (o : Option ℕ) → [] ≡ option_to_list o → o ≡ None
none_from_list None h = refl
none_from_list (Some b) h = cc

-- ---- a term more

pub are_sums_none : (op : BinaryOp) → AreSums op [] []
are_sums_none op = record {
  rising = λ i j d below within. absurd (omega arith);
  columns = All-nil (λ s. Contains [] s.col);
  words = λ col. refl;
}

pub are_sums_first : (op : BinaryOp) (t : Term) → AreSums op (t ∷ []) (t ∷ [])
are_sums_first op t = record {
  rising = λ i j d below within. absurd (omega arith);
  columns = All-cons (λ s. Contains (t.col ∷ []) s.col) t [] (0, omega arith, refl) (All-nil (λ s. Contains (t.col ∷ []) s.col));
  words = λ col. elim (eqb t.col col) as (λ b. map (λ (s : Term). s.word) (cond b (t ∷ []) []) ≡ option_to_list (reduce (apply op) (map (λ (s : Term). s.word) (cond b (t ∷ []) [])))) [ true ↦ refl | false ↦ refl ];
}

contains_more : (done : List Term) (t : Term) (xs : List Term) → All (λ s. Contains (map (λ t. t.col) done) s.col) xs
    → All (λ s. Contains (map (λ t. t.col) (done ++ t ∷ [])) s.col) xs
contains_more done t xs h =
    All-weaker (λ s. Contains (map (λ t. t.col) done) s.col) (λ s. Contains (map (λ t. t.col) (done ++ t ∷ [])) s.col)
    (λ s p. rw (map-append (λ (t : Term). t.col) done (t ∷ [])) (Contains-append_left (map (λ t. t.col) done) (t.col ∷ []) s.col p)) xs h

contains_last : (done : List Term) (t : Term) → Contains (map (λ t. t.col) (done ++ t ∷ [])) t.col
contains_last done t = rw (map-append (λ (t : Term). t.col) done (t ∷ [])) (Contains-push (map (λ t. t.col) done) t.col)

-- the last sum has the greatest column
below_last : (sums : List Term) (s : Term) → AllPairs (λ x y. x.col < y.col) (sums ++ s ∷ [])
    → All (λ x. x.col < s.col) sums
below_last sums s rising k d within = all_pairs_across (λ (x y : Term). x.col < y.col) sums (s ∷ []) rising k d within 0 d (omega arith)

up_to_last : (sums : List Term) (s : Term) → AllPairs (λ x y. x.col < y.col) (sums ++ s ∷ [])
    → All (λ x. x.col ≤ s.col) (sums ++ s ∷ [])
up_to_last sums s rising =
    All-push (λ x. x.col ≤ s.col) sums s (All-weaker (λ x. x.col < s.col) (λ x. x.col ≤ s.col) (λ x p. omega arith) sums (below_last sums s rising)) (omega arith)

-- one more word at the last column
words_same : (op : BinaryOp) (done sums : List Term) (s t : Term) → AreSums op done (sums ++ s ∷ []) → t.col ≡ s.col
    → (col : ℕ)
    → words_at col (sums ++ term_at s.col (apply op s.word t.word) ∷ []) ≡ option_to_list (sum_at op col (done ++ t ∷ []))
words_same op done sums s t here same col =
    let new = term_at s.col (apply op s.word t.word) in
    let old = here.words col in
    let old_sums = words_at-append col sums (s ∷ []) in
    let new_sums = words_at-append col sums (new ∷ []) in
    let new_done = words_at-append col done (t ∷ []) in
    elim (cases_eq s.col col) [
      | inl at ↦
          let none = words_at-none col sums (All-weaker (λ x. x.col < s.col) (λ x. x.col ≢ col) (λ x p q. omega arith) sums (below_last sums s here.rising)) in
          let had : sum_at op col done ≡ Some s.word = one_from_list (sum_at op col done) s.word (rw (old_sums, none, words_at-here col s at) at old) in
          let sum : sum_at op col (done ++ t ∷ []) ≡ Some (apply op s.word t.word) =
          rw (new_done, words_at-here col t (same ∙ at)) (reduce-push (apply op) (words_at col done) s.word t.word had) in
          rw (new_sums, none, words_at-here col new at, sum) refl
      | inr away ↦
          let other : t.col ≢ col = λ e. away (sym same ∙ e) in
          let one = words_at-away col s away in
          let two = words_at-away col new away in
          let three = words_at-away col t other in
          let whole = append-nil (words_at col done) in
          cc
    ]

-- a new column behind all others
words_new : (op : BinaryOp) (done sums : List Term) (t : Term) → AreSums op done sums → All (λ x. x.col < t.col) sums
    → (col : ℕ) → words_at col (sums ++ t ∷ []) ≡ option_to_list (sum_at op col (done ++ t ∷ []))
words_new op done sums t here below col =
    let old = here.words col in
    let new_sums = words_at-append col sums (t ∷ []) in
    let new_done = words_at-append col done (t ∷ []) in
    elim (cases_eq t.col col) [
      | inl at ↦
          let none = words_at-none col sums (All-weaker (λ x. x.col < t.col) (λ x. x.col ≢ col) (λ x p q. omega arith) sums below) in
          let empty = reduce-none (apply op) (words_at col done) (none_from_list (sum_at op col done) (rw none at old)) in
          rw (new_sums, none, new_done, empty, words_at-here col t at) refl
      | inr away ↦
          let one = words_at-away col t away in
          let whole = append-nil (words_at col done) in
          let kept = append-nil (words_at col sums) in
          cc
    ]

pub are_sums_same : (op : BinaryOp) (done sums : List Term) (s t : Term) → AreSums op done (sums ++ s ∷ [])
    → t.col ≡ s.col → AreSums op (done ++ t ∷ []) (sums ++ term_at s.col (apply op s.word t.word) ∷ [])
are_sums_same op done sums s t here same =
    let R : Term → Term → Type 0 = λ x y. x.col < y.col in
    let below = below_last sums s here.rising in
    record {
      rising = all_pairs_push R sums (term_at s.col (apply op s.word t.word)) (all_pairs_left R sums (s ∷ []) here.rising) (λ k d within. below k d within);
      columns =
          All-append (λ x. Contains (map (λ t. t.col) (done ++ t ∷ [])) x.col) sums (term_at s.col (apply op s.word t.word) ∷ [])
          (contains_more done t sums (all_append_left (λ x. Contains (map (λ t. t.col) done) x.col) sums (s ∷ []) here.columns))
          (All-cons (λ x. Contains (map (λ t. t.col) (done ++ t ∷ [])) x.col) (term_at s.col (apply op s.word t.word)) [] (subst (Contains (map (λ t. t.col) (done ++ t ∷ []))) same (contains_last done t)) (All-nil (λ x. Contains (map (λ t. t.col) (done ++ t ∷ [])) x.col)));
      words = words_same op done sums s t here same;
    }

pub are_sums_new : (op : BinaryOp) (done sums : List Term) (s t : Term) → AreSums op done (sums ++ s ∷ [])
    → s.col < t.col → AreSums op (done ++ t ∷ []) ((sums ++ s ∷ []) ++ t ∷ [])
are_sums_new op done sums s t here above =
    let below : All (λ x. x.col < t.col) (sums ++ s ∷ []) = All-weaker (λ x. x.col ≤ s.col) (λ x. x.col < t.col) (λ x p. omega arith) (sums ++ s ∷ []) (up_to_last sums s here.rising) in
    record {
      rising = all_pairs_push (λ x y. x.col < y.col) (sums ++ s ∷ []) t here.rising (λ k d within. below k d within);
      columns =
          All-push (λ x. Contains (map (λ t. t.col) (done ++ t ∷ [])) x.col) (sums ++ s ∷ []) t (contains_more done t (sums ++ s ∷ []) here.columns) (contains_last done t);
      words = words_new op done (sums ++ s ∷ []) t here below;
    }

-- ---- a loop over the terms behind the first

get_next : (terms rest : List Term) (first : Term) (k : ℕ) (d : Term) → terms ≡ first ∷ rest
    → get_or terms (k + 1) d ≡ get_or rest k d
get_next terms rest first k d e = rw (e, add-one k) refl

take_next : (terms rest : List Term) (first : Term) (k : ℕ) (d : Term) → terms ≡ first ∷ rest → k < length rest
    → take (k + 1 + 1) terms ≡ take (k + 1) terms ++ get_or rest k d ∷ []
take_next terms rest first k d e within =
    let long = ap length e in
    let inside : k + 1 < length terms = omega arith in
    take_more terms (k + 1) d inside ∙ rw (get_next terms rest first k d e) refl

pub last_next : (terms rest : List Term) (first : Term) (k : ℕ) (d e : Term) → terms ≡ first ∷ rest → k < length rest
    → (get_or rest k d).col ≡ (get_or terms (k + 1) e).col
last_next terms rest first k d e whole within = ap (λ (t : Term). t.col) (get_or_default rest k d e within ∙ sym (get_next terms rest first k e whole))

pub step_same : (op : BinaryOp) (terms rest sums : List Term) (first s : Term) (k : ℕ) (d : Term)
    → terms ≡ first ∷ rest → k < length rest → AreSums op (take (k + 1) terms) (sums ++ s ∷ [])
    → (get_or rest k d).col ≡ s.col → AreSums op (take (k + 1 + 1) terms)
    (sums ++ term_at s.col (apply op s.word (get_or rest k d).word) ∷ [])
step_same op terms rest sums first s k d whole within here same =
    rw (take_next terms rest first k d whole within) (are_sums_same op (take (k + 1) terms) sums s (get_or rest k d) here same)

pub step_new : (op : BinaryOp) (terms rest sums : List Term) (first s : Term) (k : ℕ) (d : Term) → terms ≡ first ∷ rest
    → k < length rest → IsNonDecreasingBy (λ t. t.col) terms → ((e : Term) → s.col ≡ (get_or terms k e).col)
    → AreSums op (take (k + 1) terms) (sums ++ s ∷ []) → (get_or rest k d).col ≢ s.col
    → AreSums op (take (k + 1 + 1) terms) ((sums ++ s ∷ []) ++ get_or rest k d ∷ [])
step_new op terms rest sums first s k d whole within rise last here other =
    let long = ap length whole in
    let inside : k + 1 < length terms = omega arith in
    let le : (get_or terms k d).col ≤ (get_or terms (k + 1) d).col = rise k (k + 1) d (omega arith) inside in
    let next : (get_or terms (k + 1) d).col ≡ (get_or rest k d).col = ap (λ (t : Term). t.col) (get_next terms rest first k d whole) in
    let from : s.col ≡ (get_or terms k d).col = last d in
    rw (take_next terms rest first k d whole within) (are_sums_new op (take (k + 1) terms) sums s (get_or rest k d) here (omega arith))

-- one row of B more: the terms of one entry more of a row
pub row_more : (op : BinaryOp) (b : Stored) (index : ℕ) (cols words : List ℕ) (k : ℕ) (row_cols row_words : List ℕ)
    → length words ≡ length cols → k < length cols
    → entries_along (get_or cols k 0) row_cols row_words ≡ row_entries b.cols (content_of b) (get_or cols k 0)
    → terms_of_row op (take (k + 1) (entries_along index cols words)) b ≡ terms_of_row op (take k (entries_along index cols words)) b ++ times_row op (get_or words k 0) (entries_along 0 row_cols row_words)
row_more op b index cols words k row_cols row_words same within is =
    let row = entries_along index cols words in
    let d = entry_at 0 0 0 in
    let long = length_row index cols words same in
    let at = row_at index cols words k d same within in
    let more = rw at at (terms_more op b row k d (omega arith)) in
    let times : times_row op (get_or words k 0) (entries_along 0 row_cols row_words) ≡ times_row op (get_or words k 0) (row_entries b.cols (content_of b) (get_or cols k 0)) =
    sym (times_any op (get_or words k 0) (get_or cols k 0) row_cols row_words) ∙ ap (times_row op (get_or words k 0)) is in
    more ∙ ap (λ ts. terms_of_row op (take k row) b ++ ts) (sym times)
