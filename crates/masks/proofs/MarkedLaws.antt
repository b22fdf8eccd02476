-- What a bitmap as a mask keeps of a column.
use Rattle.std.proofs.Common.{◌≡◌, ℕ, ◌+◌, ◌<◌, ◌≤◌, Bool, true, false, cond, not, eqb, Option, Some, None, is_some, w64, List, [], ◌∷◌, ◌++◌, length, get_or, set, take, drop, refl, sym, ◌∙◌, ap, subst, inl, inr, arith}
use Rattle.std.specs.Int.{bit_at, bit_not}
use Rattle.std.specs.List.{filter}
use Rattle.std.proofs.lemmas.Nat.Bits.{bit_at-lt, bit_at_not}
use Rattle.std.proofs.lemmas.Bool.{cases_eq}
use Rattle.std.proofs.lemmas.List.{append-nil, drop_all, length-set}
use Rattle.std.proofs.lemmas.List.Elements.{All-nil}
use Rattle.model.specs.declared.entry.Entry.{Entry}
use Rattle.model.specs.Entries.{InOrder, Precedes, entry_at}
use Rattle.store.specs.declared.lists.FiberEnd.{FiberEnd}
use Rattle.store.specs.Fibers.{AreFlat, Rises, end_at, entries_along, entries_from, last_end}
use Rattle.store.specs.Stored.{AreHeld, transposed}
use Rattle.store.proofs.Contents.{no_entries, none_held, one_column, transposed_along, transposed_twice}
use Rattle.store.proofs.Order.{all_pairs_cons, all_pairs_filter, all_pairs_nil}
use Rattle.store.proofs.Walks.{one_fiber_is}
use Rattle.masks.specs.declared.view.MaskTest.{MaskTest}
use Rattle.masks.specs.Masks.{lets_word}
use Rattle.masks.proofs.Keeps.{keep_more}

-- Of the entries before a place so many were kept, at the front; from the place on all lie as they lay.
pub record IsMarked (keeps : Entry → Bool) (all_rows all_words rows words : List ℕ) (kept at : ℕ) : Type 0 where
  pub low : kept ≤ at
  pub rows_long : length rows ≡ length all_rows
  pub words_long : length words ≡ length all_rows
  pub whole : filter keeps (entries_along 0 all_rows all_words)
      ≡ entries_along 0 (take kept rows) (take kept words) ++ filter keeps (entries_along 0 (drop at rows) (drop at words))

pub marked_none : (keeps : Entry → Bool) (rows words : List ℕ) → length words ≡ length rows
    → IsMarked keeps rows words rows words 0 0
marked_none keeps rows words same = record {
  low = omega arith;
  rows_long = refl;
  words_long = same;
  whole = refl;
}

pub one_at_most : (number : Bool → ℕ) (b : Bool) → number true ≡ 1 → number false ≡ 0 → number b ≤ 1
one_at_most number true one none = omega arith
one_at_most number false one none = omega arith

pub marked_more : (keeps : Entry → Bool) (all_rows all_words rows words : List ℕ) (kept at step : ℕ) (keep : Bool)
    (number : Bool → ℕ) → IsMarked keeps all_rows all_words rows words kept at → at < length rows
    → keeps (entry_at 0 (get_or rows at 0) (get_or words at 0)) ≡ keep → step ≡ number keep → number true ≡ 1
    → number false ≡ 0
    → IsMarked keeps all_rows all_words (set rows kept (get_or rows at 0)) (set words kept (get_or words at 0))
    (kept + step) (at + 1)
marked_more keeps all_rows all_words rows words kept at step keep number here within is stepped one none =
    let low = here.low in
    let long = here.rows_long in
    let long_words = here.words_long in
    let few : step ≤ 1 = rw stepped (one_at_most number keep one none) in
    record {
      low = omega arith;
      rows_long = length-set rows kept (get_or rows at 0) ∙ long;
      words_long = length-set words kept (get_or words at 0) ∙ long_words;
      whole = keep_more keeps 0 rows words kept at step keep number (filter keeps (entries_along 0 all_rows all_words)) low within (omega arith) is stepped one none here.whole;
    }

pub marked_all : (keeps : Entry → Bool) (all_rows all_words rows words : List ℕ) (kept at : ℕ)
    → IsMarked keeps all_rows all_words rows words kept at → length rows ≤ at
    → entries_along 0 (take kept rows) (take kept words) ≡ filter keeps (entries_along 0 all_rows all_words)
marked_all keeps all_rows all_words rows words kept at here over =
    sym (here.whole ∙ rw (drop_all at rows over) (append-nil (entries_along 0 (take kept rows) (take kept words))))

-- entries in order are one fiber
pub one_flat : (inner words : List ℕ) → length words ≡ length inner → 0 < length inner
    → InOrder (entries_along 0 inner words) → AreFlat (end_at 0 (length inner) ∷ []) inner words
unfolding Rises last_end
one_flat inner words same some order =
    record {
      same_length = same;
      rises = (some, tt);
      whole = omega arith;
      apart = all_pairs_cons (λ (r s : FiberEnd). r.outer < s.outer) (end_at 0 (length inner)) [] (All-nil (λ (s : FiberEnd). 0 < s.outer)) (all_pairs_nil (λ (r s : FiberEnd). r.outer < s.outer));
      order = subst InOrder (sym (one_fiber_is inner words)) order;
    }

-- ---- a column of which a part was kept

one_fiber_there : (first past : ℕ) (ends : List FiberEnd) (inner words : List ℕ) → AreHeld first past 1 ends inner words
    → entries_from 0 ends inner words ≡ entries_along 0 inner words
one_fiber_there first past ends inner words held =
    let column = one_column first past 1 ends inner words refl held in
    sym (transposed_twice (entries_from 0 ends inner words))
    ∙ ap transposed (column.down ∙ sym (transposed_along inner words))
    ∙ transposed_twice (entries_along 0 inner words)

some_ends : (ends : List FiberEnd) (n : ℕ) → last_end 0 ends ≡ 0 + n → 0 < n → 0 < length ends
unfolding last_end
some_ends [] n is more = absurd (omega arith)
some_ends (r ∷ rs) n is more = omega arith

no_items : (xs : List ℕ) → length xs ≡ 0 → xs ≡ []
no_items [] none = refl
no_items (x ∷ xs) none = absurd (omega arith)

-- the lists of what was kept
pub record AreKept (ends' : List FiberEnd) (inner' words' : List ℕ) (es : List Entry) : Type 0 where
  pub flat : AreFlat ends' inner' words'
  pub entries : entries_from 0 ends' inner' words' ≡ es

pub kept_lists : (keeps : Entry → Bool) (first past kept : ℕ) (ends ends' : List FiberEnd)
    (inner words inner' words' : List ℕ) → AreHeld first past 1 ends inner words → kept ≤ length inner
    → length inner' ≡ kept → length words' ≡ kept
    → entries_along 0 inner' words' ≡ filter keeps (entries_along 0 inner words) → (kept ≡ 0 → ends' ≡ [])
    → (0 < kept → 0 < length ends → ends' ≡ end_at 0 kept ∷ [])
    → AreKept ends' inner' words' (filter keeps (entries_from 0 ends inner words))
kept_lists keeps first past kept ends ends' inner words inner' words' held high long long_words is none some =
    let whole = one_fiber_there first past ends inner words held in
    elim (cases_eq kept 0) [
      | inl zero ↦
          let no_ends = none zero in
          let no_inner = no_items inner' (long ∙ zero) in
          let no_words = no_items words' (long_words ∙ zero) in
          record {
            flat = rw (no_ends, no_inner, no_words) ((none_held first past 1).flat);
            entries = no_entries 0 ends' inner' words' no_ends ∙ sym (ap (λ xs. entries_along 0 xs words') no_inner) ∙ is ∙ ap (filter keeps) (sym whole);
          }
      | inr more ↦
          let there : ends' ≡ end_at 0 (length inner') ∷ [] = rw long (some (omega arith) (some_ends ends (length inner) held.flat.whole (omega arith))) in
          let order : InOrder (entries_along 0 inner' words') = rw is (all_pairs_filter Precedes keeps (entries_along 0 inner words) (subst InOrder whole held.flat.order)) in
          record {
            flat = rw there (one_flat inner' words' (long_words ∙ sym long) (omega arith) order);
            entries = rw there (one_fiber_is inner' words' ∙ is ∙ ap (filter keeps) (sym whole));
          }
    ]

-- ---- 64 rows at once

-- a mask that goes by the structure lets through what is there, or what isn't
pub by_structure : (test : MaskTest) (word : Option ℕ) → test.valued ≡ false
    → lets_word test word ≡ cond test.complement (not (is_some word)) (is_some word)
by_structure test None structure = refl
by_structure test (Some word) structure = rw structure refl

-- a bit of a complement
pub bit_turned : (word k : ℕ) → word < 18446744073709551616 → k < 64
    → eqb (bit_at (bit_not w64 word) k) 1 ≡ not (eqb (bit_at word k) 1)
bit_turned word k fits small =
    let two : bit_at word k < 2 = bit_at-lt word k in
    elim (cases_eq (bit_at word k) 1) [
      | inl one ↦ rw (bit_at_not w64 word k fits small, one) refl
      | inr other ↦ let zero : bit_at word k ≡ 0 = omega arith in rw (bit_at_not w64 word k fits small, zero) refl
    ]
