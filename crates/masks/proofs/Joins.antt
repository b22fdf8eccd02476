-- The lists of a join are fibers.
use Rattle.std.proofs.Common.{◌≡◌, ℕ, ◌≤◌, eqb, List, ◌++◌, length, take, drop, refl, sym, ◌∙◌, inl, inr, arith, length-take, Result, Ok, Err, IfOk, OnOk}
use Rattle.std.proofs.Math.Seq.{drop-append_seam, take-append_seam}
use Rattle.std.proofs.lemmas.Bool.{cases_Bool}
use Rattle.model.specs.declared.entry.Entry.{Entry}
use Rattle.model.specs.ElementWise.{of_either}
use Rattle.model.specs.Entries.{word_at}
use Rattle.store.specs.declared.lists.FiberEnd.{FiberEnd}
use Rattle.store.specs.Fibers.{AreFlat, entries_from, outers}
use Rattle.store.specs.Stored.{along}
use Rattle.store.proofs.Contents.{as_column, by_rows, word_at-transposed}
use Rattle.masks.specs.declared.join.Joining.{Joining}
use Rattle.masks.specs.Joins.{AreJoined, HasJoin, alone_of, both_of}
use Rattle.masks.specs.Merges.{AreMerged}
use Rattle.masks.proofs.JoinedWords.{lengths, placed_order, placed_words}

-- the first places of a merge, so many, lie in lists of their own
pub flat_join : (alone : ℕ → ℕ) (f : ℕ → ℕ → ℕ) (a b : List Entry) (count : ℕ) (ends : List FiberEnd)
    (inner lefts rights sides words : List ℕ) → AreMerged a b count ends inner lefts rights sides
    → count ≤ length inner
    → AreJoined alone f (take count sides) (take count lefts) (take count rights) words
    → AreFlat ends (take count inner) words
flat_join alone f a b count ends inner lefts rights sides words m room u =
    let i = take count inner in
    let long = lengths a b (outers 0 ends) i (take count lefts) (take count rights) (take count sides) m.merge in
    let cut = length-take count inner in
    let whole = m.whole in
    let same : length words ≡ length i = u.long ∙ long.1.1.1 ∙ sym long.0 in
    record {
      same_length = same;
      rises = m.rises;
      whole = omega arith;
      apart = m.apart;
      order = placed_order alone f a b (outers 0 ends) i (take count lefts) (take count rights) (take count sides) words m.merge u;
    }

pub words_join : (alone : ℕ → ℕ) (f : ℕ → ℕ → ℕ) (a b : List Entry) (count : ℕ) (ends : List FiberEnd)
    (inner lefts rights sides words : List ℕ) → AreMerged a b count ends inner lefts rights sides
    → AreJoined alone f (take count sides) (take count lefts) (take count rights) words → (i j : ℕ)
    → word_at (entries_from 0 ends (take count inner) words) i j ≡ of_either alone alone f (word_at a i j)
    (word_at b i j)
words_join alone f a b count ends inner lefts rights sides words m u = placed_words alone f a b (outers 0 ends) (take count inner) (take count lefts) (take count rights) (take count sides) words m.merge u

-- the first places of a merge, so many, with the words of the join
pub places_joined : (by : Joining) (a b : List Entry) (count : ℕ) (ends : List FiberEnd)
    (inner lefts rights sides words : List ℕ) → AreMerged a b count ends inner lefts rights sides
    → count ≤ length inner
    → AreJoined (alone_of by) (both_of by) (take count sides) (take count lefts) (take count rights) words
    → HasJoin by a b ends (take count inner) words
places_joined by a b count ends inner lefts rights sides words m room u =
    let flat = flat_join (alone_of by) (both_of by) a b count ends inner lefts rights sides words m room u in
    record {
      flat = flat;
      joined = record {
        order = flat.order;
        words = words_join (alone_of by) (both_of by) a b count ends inner lefts rights sides words m u;
      };
    }

pub join_along : (alone : ℕ → ℕ) (f : ℕ → ℕ → ℕ) (cols : ℕ) (a b es : List Entry)
    → ((i j : ℕ) → word_at es i j ≡ of_either alone alone f (word_at a i j) (word_at b i j))
    → (i j : ℕ) → word_at (along cols es) i j ≡ of_either alone alone f (word_at (along cols a) i j)
    (word_at (along cols b) i j)
join_along alone f cols a b es words i j =
    elim (cases_Bool (eqb cols 1)) [
      | inl one ↦ rw (as_column cols es one, as_column cols a one, as_column cols b one) (word_at-transposed es i j ∙ words j i ∙ rw (word_at-transposed a i j, word_at-transposed b i j) refl)
      | inr many ↦ rw (by_rows cols es many, by_rows cols a many, by_rows cols b many) (words i j)
    ]

-- ---- joins behind others

pub cut_front : (from : ℕ) (xs ys zs : List ℕ) → from ≡ length xs → zs ≡ xs ++ ys → take from zs ≡ xs
cut_front from xs ys zs size whole = rw (whole, size) (take-append_seam xs ys)

pub cut_behind : (from : ℕ) (xs ys zs : List ℕ) → from ≡ length xs → zs ≡ xs ++ ys → drop from zs ≡ ys
cut_behind from xs ys zs size whole = rw (whole, size) (drop-append_seam xs ys)

pub if_ok_both : {T E : Type 0} (r : Result T E) (P Q R : T → Type 0) → ((x : T) → P x → Q x → R x) → IfOk r P
    → IfOk r Q → IfOk r R
if_ok_both (Ok x) P Q R f p q = f x p q
if_ok_both (Err e) P Q R f p q = tt

pub on_ok_both : {T E P Q R : Type 0} (r : Result T E) → (P → Q → R) → OnOk r P → OnOk r Q → OnOk r R
on_ok_both (Ok x) f p q = f p q
on_ok_both (Err e) f p q = tt
