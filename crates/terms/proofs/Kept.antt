-- Terms of which only those at some columns are kept.
use Rattle.std.proofs.Common.{◌≡◌, ℕ, ◌<◌, ◌≤◌, true, false, cond, Bool, List, [], ◌∷◌, length, map, None, refl, sym, ◌∙◌, ap, inl, inr, arith}
use Rattle.std.specs.List.{All, Contains, reduce}
use Rattle.std.proofs.lemmas.Bool.{cases_Bool, cases_eq, eq-eqb, ne_eqb}
use Rattle.std.proofs.lemmas.List.{take_all}
use Rattle.std.proofs.lemmas.List.Elements.{All-nil, All-cons, All-head, All-tail, All-append, All-weaker, All-map, All-contains}
use Rattle.algebra.specs.declared.binary.BinaryOp.{BinaryOp}
use Rattle.algebra.specs.declared.semiring.Semiring.{Semiring}
use Rattle.model.specs.declared.entry.Entry.{Entry}
use Rattle.model.specs.Entries.{row_entries}
use Rattle.store.specs.Fibers.{entries_along}
use Rattle.store.specs.Stored.{Stored, content_of}
use Rattle.store.proofs.Places.{length_row}
use Rattle.store.proofs.RowEntries.{row_entries-inside}
use Rattle.terms.specs.declared.term.Term.{Term}
use Rattle.terms.specs.Terms.{AreFirstKept, apply, kept_terms, sum_at, terms_of_row, times_row, words_at}
use Rattle.terms.proofs.Terms.{times_cols}

-- what is kept of a list is kept, and has what all of it has
pub all_kept : (P : Term → Type 0) (keeps : ℕ → Bool) (ts : List Term) → All P ts
    → All (λ t. P t × (keeps t.col ≡ true)) (kept_terms keeps ts)
all_kept P keeps [] h = All-nil (λ t. P t × (keeps t.col ≡ true))
all_kept P keeps (t ∷ ts) h =
    let rest = all_kept P keeps ts (All-tail P t ts h) in
    elim (cases_Bool (keeps t.col)) [
      | inl with_it ↦ rw with_it (All-cons (λ t. P t × (keeps t.col ≡ true)) t (kept_terms keeps ts) (All-head P t ts h, with_it) rest)
      | inr without ↦ rw without rest
    ]

-- the terms of a row are at columns of B
pub terms_inside : (op : BinaryOp) (row : List Entry) (b : Stored) → All (λ t. t.col < b.cols) (terms_of_row op row b)
terms_inside op [] b = All-nil (λ t. t.col < b.cols)
terms_inside op (e ∷ es) b =
    All-append (λ t. t.col < b.cols) (times_row op e.word (row_entries b.cols (content_of b) e.col)) (terms_of_row op es b)
    (times_cols op e.word e.col b.cols (row_entries b.cols (content_of b) e.col) (row_entries-inside b.cols (content_of b) e.col))
    (terms_inside op es b)

-- where no entry is left, the terms are those of the row that are kept
pub all_terms : (keeps : ℕ → Bool) (op : BinaryOp) (index : ℕ) (cols words : List ℕ) (b : Stored) (terms : List Term)
    (done : ℕ) → length words ≡ length cols → length cols ≤ done
    → AreFirstKept keeps op (entries_along index cols words) b terms done
    → terms ≡ kept_terms keeps (terms_of_row op (entries_along index cols words) b)
all_terms keeps op index cols words b terms done same past first =
    let long = length_row index cols words same in
    first.are_those ∙ ap (λ row. kept_terms keeps (terms_of_row op row b)) (take_all done (entries_along index cols words) (omega arith))

-- so the columns of sums are columns of B that are kept
pub sums_kept : (semiring : Semiring) (keeps : ℕ → Bool) (row : List Entry) (b : Stored) (cols : List ℕ)
    → All (λ col. Contains (map (λ t. t.col) (kept_terms keeps (terms_of_row semiring.multiply row b))) col) cols
    → All (λ col. (col < b.cols) × (keeps col ≡ true)) cols
sums_kept semiring keeps row b cols h =
    let P : ℕ → Type 0 = λ col. (col < b.cols) × (keeps col ≡ true) in
    let ts = terms_of_row semiring.multiply row b in
    let at : Term → ℕ = λ t. t.col in
    All-weaker (λ col. Contains (map at (kept_terms keeps ts)) col) P
    (λ col p. All-contains P (map at (kept_terms keeps ts)) col (All-map P at (kept_terms keeps ts) (all_kept (λ t. t.col < b.cols) keeps ts (terms_inside semiring.multiply row b))) p) cols h

pub sums_inside : (semiring : Semiring) (keeps : ℕ → Bool) (row : List Entry) (b : Stored) (cols : List ℕ)
    → All (λ col. Contains (map (λ t. t.col) (kept_terms keeps (terms_of_row semiring.multiply row b))) col) cols
    → All (λ col. col < b.cols) cols
sums_inside semiring keeps row b cols h = All-weaker (λ col. (col < b.cols) × (keeps col ≡ true)) (λ col. col < b.cols) (λ col p. p.0) cols (sums_kept semiring keeps row b cols h)

pub kept_all : (ts : List Term) → kept_terms (λ col. true) ts ≡ ts
kept_all [] = refl
kept_all (t ∷ ts) = ap (λ ts. t ∷ ts) (kept_all ts)

-- The law of sums of kept terms: at a column that is kept the sum is that of all terms, and elsewhere there is none.
words_kept : (keeps : ℕ → Bool) (col : ℕ) (ts : List Term)
    → words_at col (kept_terms keeps ts) ≡ cond (keeps col) (words_at col ts) []
words_kept keeps col [] = elim (keeps col) as (λ b. ◌≡◌ {A = List ℕ} [] (cond b [] [])) [ true ↦ refl | false ↦ refl ]
words_kept keeps col (t ∷ ts) =
    let rest = words_kept keeps col ts in
    elim (cases_Bool (keeps t.col)) [
      | inl with_it ↦
          elim (cases_eq t.col col) [
            | inl here ↦
                let kept : keeps col ≡ true = ap keeps (sym here) ∙ with_it in
                let rest' : words_at col (kept_terms keeps ts) ≡ words_at col ts = rw kept at rest in
                rw (with_it, kept, eq-eqb t.col col here) (ap (λ ws. t.word ∷ ws) rest')
            | inr away ↦ rw (with_it, ne_eqb t.col col away) rest
          ]
      | inr without ↦
          elim (cases_eq t.col col) [
            | inl here ↦
                let lost : keeps col ≡ false = ap keeps (sym here) ∙ without in
                let rest' : words_at col (kept_terms keeps ts) ≡ [] = rw lost at rest in
                rw (without, lost) rest'
            | inr away ↦ rw (without, ne_eqb t.col col away) rest
          ]
    ]

pub sum_kept : (op : BinaryOp) (keeps : ℕ → Bool) (col : ℕ) (ts : List Term)
    → sum_at op col (kept_terms keeps ts) ≡ cond (keeps col) (sum_at op col ts) None
sum_kept op keeps col ts =
    rw (words_kept keeps col ts) (elim (keeps col) as (λ b. reduce (apply op) (cond b (words_at col ts) []) ≡ cond b (sum_at op col ts) None) [ true ↦ refl | false ↦ refl ])
