-- Entries of tuples in order: positions that are listed at most once.
use Rattle.std.proofs.Common.{◌≡◌, ℕ, zero, suc, ◌≤◌, ◌&&◌, not, true, false, eqb, List, [], ◌∷◌, map, length, refl, sym, ◌∙◌, subst, inl, inr, arith}
use Rattle.std.specs.List.{All, AllPairs, list_all}
use Rattle.std.proofs.lemmas.Bool.{and_parts, cases_Bool}
use Rattle.std.proofs.lemmas.Bool.Decides.{nat_tests}
use Rattle.std.proofs.lemmas.List.Elements.{All-head, All-tail}
use Rattle.algebra.specs.declared.domain.Domain.TheVariants.{Uint64}
use Rattle.model.specs.Builds.{AreEntriesOf, are_apart, are_single, entry_of, same_place, words_at}
use Rattle.model.specs.declared.entry.Entry.{Entry}
use Rattle.model.specs.declared.tuples.Tuple.{Tuple}
use Rattle.model.specs.Entries.{IsNotBehind, same_position}

-- ---- lists in which each element is related to all later ones

pub pairs_head : {X : Type 0} (R : X → X → Type 0) (x : X) (xs : List X) → AllPairs R (x ∷ xs) → All (R x) xs
pairs_head R x xs h k d within = h zero (suc k) d (omega arith) (omega arith)

pub pairs_tail : {X : Type 0} (R : X → X → Type 0) (x : X) (xs : List X) → AllPairs R (x ∷ xs) → AllPairs R xs
pairs_tail R x xs h i j d below within = h (suc i) (suc j) d (omega arith) (omega arith)

pub pairs_cons : {X : Type 0} (R : X → X → Type 0) (x : X) (xs : List X) → All (R x) xs → AllPairs R xs
    → AllPairs R (x ∷ xs)
pairs_cons R x xs h t zero zero d below within = absurd (omega arith)
pairs_cons R x xs h t zero (suc j) d below within = h j d (omega arith)
pairs_cons R x xs h t (suc i) zero d below within = absurd (omega arith)
pairs_cons R x xs h t (suc i) (suc j) d below within = t i j d (omega arith) (omega arith)

-- ---- positions that are listed once

-- where the first two differ, the first is of no other's position
rest_apart : (e f : Entry) (fs : List Entry) → AllPairs IsNotBehind (e ∷ f ∷ fs) → same_position e f ≡ false
    → list_all (λ g. not (same_position e g)) fs ≡ true
rest_apart e f [] order other = refl
rest_apart e f (g ∷ fs) order other =
    let first = pairs_head IsNotBehind e (f ∷ g ∷ fs) order in
    let before : IsNotBehind e f = All-head (IsNotBehind e) f (g ∷ fs) first in
    let second = pairs_tail IsNotBehind e (f ∷ g ∷ fs) order in
    let behind : IsNotBehind f g = All-head (IsNotBehind f) g fs (pairs_head IsNotBehind f (g ∷ fs) second) in
    let away : same_position e g ≡ false = grind (arith, nat_tests) in
    let others : AllPairs IsNotBehind (e ∷ g ∷ fs) = pairs_cons IsNotBehind e (g ∷ fs) (All-tail (IsNotBehind e) f (g ∷ fs) first) (pairs_tail IsNotBehind f (g ∷ fs) second) in
    rw away (rest_apart e g fs others away)

-- the first two of more are of two positions
pub apart_next : (e f : Entry) (fs : List Entry) → AllPairs IsNotBehind (e ∷ f ∷ fs) → same_position e f ≡ false
    → are_apart (e ∷ f ∷ fs) ≡ are_apart (f ∷ fs)
apart_next e f fs order other = rw (other, rest_apart e f fs order other) refl

-- no word of a position is there, where each entry is of another
at_none : (e : Entry) (fs : List Entry) → list_all (λ f. not (same_position e f)) fs ≡ true
    → words_at fs e.row e.col ≡ []
at_none e [] h = refl
at_none e (f ∷ fs) h =
    elim (cases_Bool (same_position e f)) [
      | inl same ↦ let no : false ≡ true = rw same at h in cc
      | inr other ↦ let rest : list_all (λ f. not (same_position e f)) fs ≡ true = rw other at h in rw other (at_none e fs rest)
    ]

none_at : (e : Entry) (fs : List Entry) → words_at fs e.row e.col ≡ []
    → list_all (λ f. not (same_position e f)) fs ≡ true
none_at e [] h = refl
none_at e (f ∷ fs) h =
    elim (cases_Bool (same_position e f)) [
      | inl same ↦ let no : f.word ∷ words_at fs e.row e.col ≡ [] = rw same at h in cc
      | inr other ↦ let rest : words_at fs e.row e.col ≡ [] = rw other at h in rw other (none_at e fs rest)
    ]

-- positions are listed once where each has at most one word
few_from_apart : (es : List Entry) → are_apart es ≡ true → (i j : ℕ) → length (words_at es i j) ≤ 1
few_from_apart [] h i j = omega arith
few_from_apart (e ∷ es) h i j =
    let both = and_parts (list_all (λ f. not (same_position e f)) es) (are_apart es) h in
    let rest = few_from_apart es both.1 i j in
    elim (cases_Bool (eqb i e.row && eqb j e.col)) [
      | inl at ↦
          let row : i ≡ e.row = grind (arith, nat_tests) in
          let col : j ≡ e.col = grind (arith, nat_tests) in
          let none : words_at es i j ≡ [] = rw (row, col) (at_none e es both.0) in
          rw (at, none) (omega arith)
      | inr away ↦ rw away rest
    ]

fewer : (e : Entry) (es : List Entry) (i j : ℕ) → length (words_at es i j) ≤ length (words_at (e ∷ es) i j)
fewer e es i j =
    elim (cases_Bool (eqb i e.row && eqb j e.col)) [ inl at ↦ rw at (omega arith) | inr away ↦ rw away (omega arith) ]

nothing : (words : List ℕ) → length words ≤ 0 → words ≡ []
nothing [] h = refl
nothing (word ∷ words) h = absurd (omega arith)

apart_from_few : (es : List Entry) → ((i j : ℕ) → length (words_at es i j) ≤ 1) → are_apart es ≡ true
apart_from_few [] h = refl
apart_from_few (e ∷ es) h =
    let here : same_position e e ≡ true = grind (arith, nat_tests) in
    let one : length (e.word ∷ words_at es e.row e.col) ≤ 1 = rw here at (h e.row e.col) in
    let none = nothing (words_at es e.row e.col) (omega arith) in
    let rest = apart_from_few es (λ i j. (let less = fewer e es i j in let most = h i j in omega arith)) in
    rw (none_at e es none, rest) refl

-- so the order of the list does not matter
apart_sorted : (es sorted : List Entry) → ((i j : ℕ) → words_at sorted i j ≡ words_at es i j)
    → are_apart sorted ≡ are_apart es
apart_sorted es sorted stable =
    elim (cases_Bool (are_apart sorted)) [
      | inl once ↦
          let few = few_from_apart sorted once in
          once ∙ sym (apart_from_few es (λ i j. subst (λ ws. length ws ≤ 1) (stable i j) (few i j)))
      | inr twice ↦
          elim (cases_Bool (are_apart es)) [
            | inl once ↦
                let few = few_from_apart es once in
                let other = apart_from_few sorted (λ i j. subst (λ ws. length ws ≤ 1) (sym (stable i j)) (few i j)) in
                other ∙ sym once
            | inr neither ↦ twice ∙ sym neither
          ]
    ]

-- entries are of one position where their tuples are
others_apart : (t : Tuple) (ts : List Tuple)
    → list_all (λ f. not (same_position (entry_of Uint64 t) f)) (map (entry_of Uint64) ts) ≡ list_all (λ u. not (same_place t.place u.place)) ts
others_apart t [] = refl
others_apart t (u ∷ us) = rw (others_apart t us) refl

apart_single : (ts : List Tuple) → are_apart (map (entry_of Uint64) ts) ≡ are_single ts
apart_single [] = refl
apart_single (t ∷ ts) = rw (others_apart t ts, apart_single ts) refl

pub single_sorted : (ts : List Tuple) (sorted : List Entry) → AreEntriesOf ts sorted → are_apart sorted ≡ are_single ts
single_sorted ts sorted from = apart_sorted (map (entry_of Uint64) ts) sorted from.stable ∙ apart_single ts
