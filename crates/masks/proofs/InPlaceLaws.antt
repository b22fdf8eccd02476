-- What is put into a store in place.
use Rattle.std.proofs.Common.{◌≡◌, ℕ, suc, ◌<◌, ◌≤◌, true, false, ◌&&◌, eqb, List, [], ◌∷◌, length, get_or, Option, Some, None, IsSome, IsTrue, refl, sym, ◌∙◌, inl, inr, arith}
use Rattle.std.proofs.lemmas.Bool.{cases_Bool}
use Rattle.algebra.specs.Operators.{eval_of}
use Rattle.algebra.specs.declared.operator_names.OpName.{OpName}
use Rattle.model.specs.declared.entry.Entry.{Entry}
use Rattle.model.specs.ElementWise.{of_both, of_either}
use Rattle.model.specs.Entries.{word_at}
use Rattle.model.specs.Object.{Content}
use Rattle.store.specs.declared.lists.FiberEnd.{FiberEnd}
use Rattle.store.specs.Fibers.{entries_from, outers}
use Rattle.store.specs.Stored.{AreHeld, along}
use Rattle.store.specs.Walks.{entries_down}
use Rattle.store.proofs.Contents.{as_column, by_rows, one_column, word_at-transposed}
use Rattle.store.proofs.PartLaws.{LiesIn, are_in, lies_in}
use Rattle.masks.specs.declared.view.MaskTest.{MaskTest}
use Rattle.masks.specs.Joins.{HaveSamePlaces}
use Rattle.masks.specs.Masks.{lets_word}
use Rattle.masks.specs.Writes.{accumulated_where}
use Rattle.masks.proofs.BlockLaws.{same_at}
use Rattle.masks.proofs.SamePlaces.{beside_both, beside_either, places_all, places_order, same_places}

-- ---- the positions of a mask

either_some : (a b : Option ℕ) → of_both (λ x y. x) a b ≡ of_either (λ x. x) (λ x. x) (λ x y. x) a b → IsSome a
    → IsSome b
either_some None b same some = cc
either_some (Some x) None same some = cc
either_some (Some x) (Some y) same some = refl

alike_some : (a b : List Entry) (i j : ℕ) → HaveSamePlaces a b → IsSome (word_at a i j) → IsSome (word_at b i j)
alike_some a b i j same = either_some (word_at a i j) (word_at b i j) (sym (beside_both (λ x y. x) a b i j same) ∙ beside_either (λ x. x) (λ x y. x) a b i j same)

along_some : (cols : ℕ) (a b : List Entry) (i j : ℕ) → HaveSamePlaces a b → IsSome (word_at (along cols a) i j)
    → IsSome (word_at (along cols b) i j)
along_some cols a b i j same =
    elim (cases_Bool (eqb cols 1)) [
      | inl one ↦ rw (as_column cols a one, as_column cols b one, word_at-transposed a i j, word_at-transposed b i j) (alike_some a b j i same)
      | inr many ↦ rw (by_rows cols a many, by_rows cols b many) (alike_some a b i j same)
    ]

let_some : (test : MaskTest) (word : Option ℕ) → test.complement ≡ false → IsTrue (lets_word test word) → IsSome word
let_some test None plain is = let no = rw plain at is in cc
let_some test (Some word) plain is = refl

-- a mask lets the positions of its store through, and others have entries there
pub all_there : (test : MaskTest) (cols : ℕ) (stored others : List Entry) (i j : ℕ) (word : Option ℕ)
    → test.complement ≡ false → HaveSamePlaces stored others → word_at (along cols stored) i j ≡ word
    → IsTrue (lets_word test word) → IsSome (word_at (along cols others) i j)
all_there test cols stored others i j word plain same is lets = along_some cols stored others i j same (rw is (let_some test word plain lets))

-- ---- words accumulated row by row

abbrev pub word_over : OpName → Option ℕ → ℕ → ℕ
word_over op None word = word
word_over op (Some old) word = eval_of op.kind op.domain old word

-- the first so many words are what is made of the old words in their rows and of them
pub record AreOverSoFar (op : OpName) (c : Content) (rows words : List ℕ) (k : ℕ) (new : List ℕ) : Type 0 where
  pub long : length new ≡ length words
  pub done : (n : ℕ) → n < k → get_or new n 0 ≡ word_over op (c (get_or rows n 0) 0) (get_or words n 0)
  pub left : (n : ℕ) → k ≤ n → get_or new n 0 ≡ get_or words n 0

word_made : (op : OpName) (old : Option ℕ) (word : ℕ)
    → Some (word_over op old word) ≡ accumulated_where op old (Some word)
word_made op None word = refl
word_made op (Some old) word = refl

over_down : (op : OpName) (c : Content) (rows words new : List ℕ) (i j : ℕ) → length words ≡ length rows
    → length new ≡ length rows
    → ((n : ℕ) → n < length rows → get_or new n 0 ≡ word_over op (c (get_or rows n 0) 0) (get_or words n 0))
    → word_at (entries_down rows new) i j ≡ accumulated_where op (c i j) (word_at (entries_down rows words) i j)
unfolding word_at
over_down op c [] words new i j same long each = refl
over_down op c (r ∷ rows) [] new i j same long each = absurd (omega arith)
over_down op c (r ∷ rows) (w ∷ words) [] i j same long each = absurd (omega arith)
over_down op c (r ∷ rows) (w ∷ words) (v ∷ new) i j same long each =
    let rest = over_down op c rows words new i j (omega arith) (omega arith) (λ n less. each (suc n) (omega arith)) in
    elim (cases_Bool (eqb i r && eqb j 0)) [
      | inl here ↦
          let at = same_at i j r 0 here in
          let first : v ≡ word_over op (c r 0) w = each 0 (omega arith) in
          rw (here, first, at.0, at.1) (word_made op (c r 0) w)
      | inr away ↦ rw away rest
    ]

pub over_words : (op : OpName) (c : Content) (rows words new : List ℕ) (i j : ℕ) → length words ≡ length rows
    → AreOverSoFar op c rows words (length rows) new
    → word_at (entries_down rows new) i j ≡ accumulated_where op (c i j) (word_at (entries_down rows words) i j)
over_words op c rows words new i j same h = over_down op c rows words new i j same (h.long ∙ same) h.done

-- other words at the same places
pub held_over : (first past cols : ℕ) (ends : List FiberEnd) (inner words new : List ℕ)
    → AreHeld first past cols ends inner words → length new ≡ length words → AreHeld first past cols ends inner new
held_over first past cols ends inner words new held long =
    let flat = held.flat in
    let same_length = flat.same_length in
    let olds = entries_from 0 ends inner words in
    let news = entries_from 0 ends inner new in
    let same : HaveSamePlaces news olds = same_places (outers 0 ends) inner new words long in
    record {
      flat = record {
        same_length = long ∙ same_length;
        rises = flat.rises;
        whole = flat.whole;
        apart = flat.apart;
        order = places_order news olds same flat.order;
      };
      inside = are_in first past cols news (places_all (LiesIn (eqb cols 1) first past cols) news olds same (lies_in first past cols olds held.inside));
    }

pub column_over : (op : OpName) (c : Content) (first past cols : ℕ) (ends : List FiberEnd) (inner words new : List ℕ)
    (i j : ℕ) → eqb cols 1 ≡ true → AreHeld first past cols ends inner words → length new ≡ length words
    → word_at (entries_down inner new) i j ≡ accumulated_where op (c i j) (word_at (entries_down inner words) i j)
    → word_at (along cols (entries_from 0 ends inner new)) i j ≡ accumulated_where op (c i j) (word_at (along cols (entries_from 0 ends inner words)) i j)
column_over op c first past cols ends inner words new i j one held long is =
    let olds = one_column first past cols ends inner words one held in
    let news = one_column first past cols ends inner new one (held_over first past cols ends inner words new held long) in
    rw (olds.down, news.down) is
