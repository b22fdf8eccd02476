-- Lists of indices in rising order, and their parts.
use Rattle.std.proofs.Common.{◌≡◌, ◌≢◌, ℕ, suc, ◌+◌, ◌<◌, ◌≤◌, Bool, true, false, ◌||◌, cond, eqb, ltb, List, [], ◌∷◌, ◌++◌, length, get_or, take, drop, is_some, Some, None, refl, sym, ◌∙◌, ap, subst, inl, inr, arith, append_assoc, take-append-drop}
use Rattle.std.proofs.lemmas.List.{take_all, take_more}
use Rattle.std.specs.List.{All, AllPairs, dedup, dedup_from, list_any, position, position_or_len}
use Rattle.std.specs.List.Sorted.{IsNonDecreasing, IsPartitionPoint, IsSorted}
use Rattle.std.specs.Ordering.{is_lt, nat_cmp}
use Rattle.std.proofs.Common.{Equal, Greater}
use Rattle.std.proofs.lemmas.Bool.{cases_Bool, eq-eqb, eqb-true, ne_eqb}
use Rattle.std.proofs.lemmas.Bool.Decides.{nat_tests}
use Rattle.std.proofs.lemmas.List.Elements.{All-append, All-cons, All-nil, All-weaker}
use Rattle.std.proofs.lemmas.List.Filters.{All-dedup}
use Rattle.std.proofs.lemmas.List.Folds.{list_any-append, list_any_at, list_any_none}
use Rattle.std.proofs.lemmas.List.Kept.{AllPairs-from_increasing}
use Rattle.std.proofs.lemmas.List.Sorted.{list_any-IsPermutation}
use Rattle.std.proofs.lemmas.Map.Keys.{IsStrictlyIncreasing-dedup}
use Rattle.std.proofs.lemmas.List.Sums.{AllPass-from_list_all}
use Rattle.model.specs.Indices.{All as Every, HasSorted, Indices, These, are_below, count_of, place_in}
use Rattle.store.proofs.Order.{all_append_left, all_drop, all_pairs_append, all_pairs_cons, all_pairs_nil, all_take}
use Rattle.shapes.specs.Lists.{AreOnce, IsPartIn, has_index}

or_none : (a : Bool) → (a || false) ≡ a
or_none true = refl
or_none false = refl

or_true : (a : Bool) → (a || true) ≡ true
or_true true = refl
or_true false = refl

or_twice : (a b : Bool) → (a || b) ≡ (a || (a || b))
or_twice true b = refl
or_twice false b = refl

-- ---- members

-- a list has the number at each of its places
pub has_at : (xs : List ℕ) (k : ℕ) → k < length xs → has_index xs (get_or xs k 0) ≡ true
has_at xs k within = list_any_at (λ x. eqb x (get_or xs k 0)) xs k 0 within (eq-eqb (get_or xs k 0) (get_or xs k 0) refl)

-- a list lacks a number that differs from each
pub has_none : (xs : List ℕ) (i : ℕ) → All (λ x. x ≢ i) xs → has_index xs i ≡ false
has_none xs i other = list_any_none (λ x. eqb x i) xs (All-weaker (λ x. x ≢ i) (λ x. eqb x i ≡ false) (λ x h. ne_eqb x i h) xs other)

one_further : (a b : ℕ) → ltb (1 + a) (suc b) ≡ ltb a b
one_further a b = grind (arith, nat_tests)

-- a place is found where the list has the number
found_in : (p : ℕ → Bool) (xs : List ℕ) → ltb (position_or_len p xs) (length xs) ≡ list_any p xs
found_in p [] = grind (arith, nat_tests)
found_in p (x ∷ xs) = elim (cases_Bool (p x)) [
  | inl here ↦ rw here (grind (arith, nat_tests))
  | inr other ↦ rw other (one_further (position_or_len p xs) (length xs) ∙ found_in p xs)
]

is_some_if : (b : Bool) (n : ℕ) → is_some (cond b (Some n) None) ≡ b
is_some_if true n = refl
is_some_if false n = refl

pub some_position : (i : ℕ) (xs : List ℕ) → is_some (position (λ x. eqb x i) xs) ≡ has_index xs i
some_position i xs = is_some_if (ltb (position_or_len (λ x. eqb x i) xs) (length xs)) (position_or_len (λ x. eqb x i) xs) ∙ found_in (λ x. eqb x i) xs

-- ---- lists of indices

-- indices in rising order have those that are listed
pub sorted_has : (size i : ℕ) (indices : Indices) (sorted : List ℕ) → HasSorted indices sorted
    → has_index sorted i ≡ is_some (place_in size indices i)
sorted_has size i Every sorted h = absurd h
sorted_has size i (These items) sorted h = sym (some_position i items ∙ list_any-IsPermutation (λ x. eqb x i) items sorted h.same)

pub sorted_rises : (indices : Indices) (sorted : List ℕ) → HasSorted indices sorted → IsNonDecreasing sorted
sorted_rises Every sorted h = absurd h
sorted_rises (These items) sorted h = h.rises

pub every_has : (size i : ℕ) (indices : Indices) → indices ≡ Every → i < size → is_some (place_in size indices i) ≡ true
every_has size i indices is inside = rw is (is_some_if (ltb i size) i ∙ grind (arith, nat_tests))

-- no index is found in a list of none
pub none_has : (size i : ℕ) (indices : Indices) → count_of size indices ≡ 0 → is_some (place_in size indices i) ≡ false
none_has size i Every none = is_some_if (ltb i size) i ∙ grind (arith, nat_tests)
none_has size i (These []) none = some_position i []
none_has size i (These (x ∷ xs)) none = absurd (omega arith)

-- nor one that is behind a dimension
pub outside_has : (size i : ℕ) (indices : Indices) → are_below size indices ≡ true → size ≤ i
    → is_some (place_in size indices i) ≡ false
outside_has size i Every below out = is_some_if (ltb i size) i ∙ grind (arith, nat_tests)
outside_has size i (These items) below out =
    some_position i items ∙ has_none items i (All-weaker (λ x. ltb x size ≡ true) (λ x. x ≢ i) (λ x less same. absurd (grind (arith, nat_tests))) items (AllPass-from_list_all (λ x. ltb x size) items below))

-- ---- parts

-- the part of a list between two numbers
pub part_has : (first past : ℕ) (xs : List ℕ) (n m : ℕ)
    → IsPartitionPoint (λ x. ltb x first ≡ true) (λ x. ltb x first ≡ false) xs n
    → IsPartitionPoint (λ x. ltb x past ≡ true) (λ x. ltb x past ≡ false) (drop n xs) m
    → IsPartIn first past (has_index xs) (take m (drop n xs))
part_has first past xs n m low high =
    let rest = drop n xs in
    let before = all_take (λ x. ltb x first ≡ true) n xs low.0 in
    let from = all_drop (λ x. ltb x first ≡ false) n xs low.1 in
    let here = all_take (λ x. ltb x past ≡ true) m rest high.0 in
    let behind = all_drop (λ x. ltb x past ≡ false) m rest high.1 in
    let joined : take m rest ++ drop m rest ≡ rest = take-append-drop m rest in
    let low_enough = all_append_left (λ x. ltb x first ≡ false) (take m rest) (drop m rest) (subst (All (λ x. ltb x first ≡ false)) (sym joined) from) in
    record {
      inside = λ k d within. let a = here k d within in let b = low_enough k d within in (grind (arith, nat_tests), grind (arith, nat_tests));
      members = λ i from_first below.
          let out_low : has_index (take n xs) i ≡ false = has_none (take n xs) i (All-weaker (λ x. ltb x first ≡ true) (λ x. x ≢ i) (λ x less same. absurd (grind (arith, nat_tests))) (take n xs) before) in
          let out_high : has_index (drop m rest) i ≡ false = has_none (drop m rest) i (All-weaker (λ x. ltb x past ≡ false) (λ x. x ≢ i) (λ x more same. absurd (grind (arith, nat_tests))) (drop m rest) behind) in
          let one : has_index rest i ≡ has_index (take m rest) i = ap (λ xs. has_index xs i) (sym joined) ∙ list_any-append (λ x. eqb x i) (take m rest) (drop m rest) ∙ rw out_high (or_none (has_index (take m rest) i)) in
          let two : has_index xs i ≡ has_index rest i = ap (λ xs. has_index xs i) (sym (take-append-drop n xs)) ∙ list_any-append (λ x. eqb x i) (take n xs) rest ∙ rw out_low refl in
          sym (two ∙ one);
    }

-- ---- each number once

dedup_from_has : (k : ℕ) (xs : List ℕ) (i : ℕ) → has_index (dedup_from eqb k xs) i ≡ (eqb k i || has_index xs i)
dedup_from_has k [] i = refl
dedup_from_has k (x ∷ xs) i = elim (cases_Bool (eqb x k)) [
  | inl same ↦ rw same (dedup_from_has k xs i ∙ rw (eqb-true x k same) (or_twice (eqb k i) (has_index xs i)))
  | inr other ↦ rw other (ap (λ b. eqb k i || b) (dedup_from_has x xs i))
]

dedup_has : (xs : List ℕ) (i : ℕ) → has_index (dedup eqb xs) i ≡ has_index xs i
dedup_has [] i = refl
dedup_has (x ∷ xs) i = dedup_from_has x xs i

not_less : (a b : ℕ) → b ≤ a → is_lt (nat_cmp a b) ≡ false
not_less a b low =
    let less : ltb a b ≡ false = grind (arith, nat_tests) in
    rw less (elim (eqb a b) as (λ t. is_lt (cond t Equal Greater) ≡ false) [
      | true ↦ refl
      | false ↦ refl
    ])

pub once_from : (first past : ℕ) (has : ℕ → Bool) (xs : List ℕ) → IsNonDecreasing xs → IsPartIn first past has xs
    → AreOnce first past has (dedup eqb xs)
once_from first past has xs rises part =
    let sorted : IsSorted nat_cmp xs = λ k d low high. not_less (get_or xs (k + 1) d) (get_or xs k d) (rises k (k + 1) d (omega arith) high) in
    record {
      rising = AllPairs-from_increasing (dedup eqb xs) (IsStrictlyIncreasing-dedup xs sorted);
      part = record {
        inside = All-dedup eqb (λ x. (first ≤ x) × (x < past)) xs part.inside;
        members = λ i low high. dedup_has xs i ∙ part.members i low high;
      };
    }

-- ---- all numbers of a range

-- all numbers from first up to before next
pub record AreAllFrom (first next : ℕ) (xs : List ℕ) : Type 0 where
  pub low : first ≤ next
  pub rising : AllPairs (λ a b. a < b) xs
  pub inside : All (λ x. (first ≤ x) × (x < next)) xs
  pub members : (i : ℕ) → first ≤ i → i < next → has_index xs i ≡ true

pub all_from_none : (first : ℕ) → AreAllFrom first first []
all_from_none first = record {
  low = omega arith;
  rising = all_pairs_nil (λ a b. a < b);
  inside = All-nil (λ x. (first ≤ x) × (x < first));
  members = λ i low high. absurd (omega arith);
}

pub all_from_more : (first next : ℕ) (xs : List ℕ) → AreAllFrom first next xs
    → AreAllFrom first (next + 1) (xs ++ next ∷ [])
all_from_more first next xs here =
    let start = here.low in
    let P : ℕ → Type 0 = λ x. (first ≤ x) × (x < next + 1) in
    record {
      low = omega arith;
      rising = all_pairs_append (λ a b. a < b) xs (next ∷ []) here.rising (all_pairs_cons (λ a b. a < b) next [] (All-nil (λ b. next < b)) (all_pairs_nil (λ a b. a < b)))
          (All-weaker (λ x. (first ≤ x) × (x < next)) (λ x. All (λ b. x < b) (next ∷ [])) (λ x p. All-cons (λ b. x < b) next [] p.1 (All-nil (λ b. x < b))) xs here.inside);
      inside = All-append P xs (next ∷ []) (All-weaker (λ x. (first ≤ x) × (x < next)) P (λ x p. let less = p.1 in (p.0, omega arith)) xs here.inside) (All-cons P next [] (omega arith, omega arith) (All-nil P));
      members = λ i low high. list_any-append (λ x. eqb x i) xs (next ∷ []) ∙ elim (cases_Bool (ltb i next)) [
        | inl before ↦ rw (here.members i low (grind (arith, nat_tests))) refl
        | inr at ↦ rw (eq-eqb next i (grind (arith, nat_tests))) (or_true (has_index xs i))
      ];
    }

pub all_from_once : (first past : ℕ) (has : ℕ → Bool) (xs : List ℕ) → AreAllFrom first past xs
    → ((i : ℕ) → i < past → has i ≡ true) → AreOnce first past has xs
all_from_once first past has xs here each = record {
  rising = here.rising;
  part = record {
    inside = here.inside;
    members = λ i low high. here.members i low high ∙ sym (each i high);
  };
}

-- ---- lists that grow by another's elements

-- one element more behind the first k of a list
pub push_more : {X : Type 0} (old now xs : List X) (k : ℕ) (x d : X) → now ≡ old ++ take k xs → k < length xs
    → get_or xs k d ≡ x → now ++ x ∷ [] ≡ old ++ take (k + 1) xs
push_more old now xs k x d is within at = rw (take_more xs k d within, at, is) (append_assoc old (take k xs) (x ∷ []))

pub push_all : {X : Type 0} (old now xs : List X) (k : ℕ) → now ≡ old ++ take k xs → length xs ≤ k → now ≡ old ++ xs
push_all old now xs k is all = is ∙ ap (λ ys. old ++ ys) (take_all k xs all)
