-- Sums that begin at the monoid's identity, one term after another.
use Rattle.std.proofs.Common.{◌≡◌, ℕ, ◌<◌, ap, true, false, Bool, List, [], ◌∷◌, ◌++◌, ◌+◌, length, get_or, set, take, Some, None, sym, subst, ◌∙◌, inl, inr, arith, refl}
use Rattle.std.proofs.lemmas.Bool.{cases_Bool, cases_eq}
use Rattle.std.proofs.lemmas.List.{get_or-set_other, get_or-set_same, length-set, set-get_or}
use Rattle.algebra.proofs.Monoids.{monoid-identity}
use Rattle.algebra.proofs.Words.{IsWordOf-eval}
use Rattle.algebra.specs.Monoids.{identity_of}
use Rattle.algebra.specs.Operators.{combines_by, offers}
use Rattle.algebra.specs.Value.{IsWordOf}
use Rattle.algebra.specs.declared.monoid.Monoid.{Monoid}
use Rattle.algebra.specs.declared.semiring.Semiring.{Semiring}
use Rattle.spgemm.specs.Dense.{AreMarkedSums}
use Rattle.model.specs.declared.entry.Entry.{Entry}
use Rattle.terms.specs.Terms.{apply, sum_at, term_at, times_row}
use Rattle.terms.specs.declared.term.Term.{Term}
use Rattle.spgemm.proofs.SlotSums.{more_terms, sum_away, sum_here}

-- the identity of a semiring's monoid changes no product
pub product_first : (semiring : Semiring) (a b : ℕ)
    → apply semiring.add.op (identity_of semiring.add.kind semiring.add.op.domain)
    (apply semiring.multiply a b) ≡ apply semiring.multiply a b
product_first semiring a b =
    let add = semiring.add in
    let mul = semiring.multiply in
    let kind : add.op.kind ≡ combines_by add.kind = add.combines in
    let word : IsWordOf add.op.domain (apply mul a b) = rw semiring.adds_answers (IsWordOf-eval mul.kind mul.domain a b) in
    let offered : offers (combines_by add.kind) add.op.domain ≡ true = rw (← kind) add.op.offered in
    rw kind (monoid-identity add.kind add.op.domain (apply mul a b) offered word)

-- a mark stays where another is set
pub mark_stays : (marks : List Bool) (at col : ℕ) → col < length marks → get_or marks at false ≡ true
    → get_or (set marks col true) at false ≡ true
mark_stays marks at col within was = elim (cases_eq at col) [
  | inl same ↦ rw same (get_or-set_same marks col true false within)
  | inr other ↦ get_or-set_other marks col at true false other ∙ was
]

-- one term more
pub marked_more : (add : Monoid) (terms : List Term) (col word : ℕ) (marks : List Bool) (words : List ℕ)
    → col < length words → length marks ≡ length words → apply add.op (identity_of add.kind add.op.domain) word ≡ word
    → AreMarkedSums add terms marks words → AreMarkedSums add (terms ++ term_at col word ∷ []) (set marks col true)
    (set words col (apply add.op (get_or words col 0) word))
marked_more add terms col word marks words within long first here =
    let t = term_at col word in
    let old = get_or words col 0 in
    let new = apply add.op old word in
    let there : get_or (set marks col true) col false ≡ true = get_or-set_same marks col true false (omega arith) in
    let put : get_or (set words col new) col 0 ≡ new = get_or-set_same words col new 0 within in
    let same_length = length-set words col new in
    let sum : sum_at add.op col (terms ++ t ∷ []) ≡ Some new =
    elim (cases_Bool (get_or marks col false)) [
      | inl marked ↦
          let was : Some old ≡ sum_at add.op col terms = rw marked at (here.sums_are col within) in
          sum_here add.op col terms t refl ∙ rw (← was) refl
      | inr free ↦
          let was : None ≡ sum_at add.op col terms = rw free at (here.sums_are col within) in
          sum_here add.op col terms t refl ∙ rw (← was, here.others_are col within free, first) refl
    ] in
    record {
      sums_are = λ k k_in.
          elim (cases_eq k col) [
            | inl same ↦ rw (same, there, put, sum) refl
            | inr other ↦
                rw (get_or-set_other marks col k true false other, get_or-set_other words col k new 0 other)
                (here.sums_are k (omega arith) ∙ sym (sum_away add.op k terms t (λ e. other (sym e))))
          ];
      others_are = λ k k_in none.
          elim (cases_eq k col) [
            | inl same ↦ let marked : get_or (set marks col true) k false ≡ true = rw same there in cc
            | inr other ↦ get_or-set_other words col k new 0 other ∙ here.others_are k (omega arith) (rw (get_or-set_other marks col k true false other) at none)
          ];
    }

-- a product more
pub marked_product : (semiring : Semiring) (terms : List Term) (word : ℕ) (row : List Entry) (k : ℕ) (e : Entry)
    (marks : List Bool) (words : List ℕ) → get_or row k e ≡ e → k < length row → e.col < length words
    → length marks ≡ length words
    → AreMarkedSums semiring.add (terms ++ times_row semiring.multiply word (take k row)) marks words
    → AreMarkedSums semiring.add (terms ++ times_row semiring.multiply word (take (k + 1) row)) (set marks e.col true)
    (set words e.col (apply semiring.add.op (get_or words e.col 0) (apply semiring.multiply word e.word)))
marked_product semiring terms word row k e marks words this within inside long here =
    let mul = semiring.multiply in
    let sofar = terms ++ times_row mul word (take k row) in
    let more : sofar ++ term_at e.col (apply mul word e.word) ∷ [] ≡ terms ++ times_row mul word (take (k + 1) row) = rw this at (more_terms mul terms word row k e within) in
    subst (λ ts. AreMarkedSums semiring.add ts (set marks e.col true) (set words e.col (apply semiring.add.op (get_or words e.col 0) (apply mul word e.word)))) more
    (marked_more semiring.add sofar e.col (apply mul word e.word) marks words inside long (product_first semiring word e.word) here)

-- a product more, at a column that is marked
pub known_product : (semiring : Semiring) (terms : List Term) (word : ℕ) (row : List Entry) (k : ℕ) (e : Entry)
    (marks : List Bool) (words : List ℕ) → get_or row k e ≡ e → k < length row → e.col < length words
    → length marks ≡ length words → get_or marks e.col false ≡ true
    → AreMarkedSums semiring.add (terms ++ times_row semiring.multiply word (take k row)) marks words
    → AreMarkedSums semiring.add (terms ++ times_row semiring.multiply word (take (k + 1) row)) marks
    (set words e.col (apply semiring.add.op (get_or words e.col 0) (apply semiring.multiply word e.word)))
known_product semiring terms word row k e marks words this within inside long marked here =
    let same : set marks e.col true ≡ marks = ap (set marks e.col) (sym marked) ∙ set-get_or marks e.col false in
    subst (λ marks. AreMarkedSums semiring.add (terms ++ times_row semiring.multiply word (take (k + 1) row)) marks (set words e.col (apply semiring.add.op (get_or words e.col 0) (apply semiring.multiply word e.word)))) same
    (marked_product semiring terms word row k e marks words this within inside long here)
