-- Entries that pass a test, brought to the front one by one.
use Rattle.std.proofs.Common.{◌≡◌, ℕ, zero, suc, ◌+◌, ◌-◌, ◌<◌, ◌≤◌, cond, Bool, true, false, List, [], ◌∷◌, ◌++◌, length, get_or, set, take, drop, refl, sym, ◌∙◌, ap, inl, inr, arith, append_assoc, length-drop}
use Rattle.std.specs.Prelude.{slice_range}
use Rattle.std.proofs.lemmas.Bool.{cases_Bool}
use Rattle.std.proofs.lemmas.List.{append-nil, drop-drop, drop_all, drop_more, length-set, take_more_set, take-set}
use Rattle.elementwise.specs.Kept.{kept_indices, kept_words}

-- those of the first k that pass stand behind the first `count` of both lists, which were so before
pub record ArePassed (test : ℕ → ℕ → Bool) (inner words : List ℕ) (count : ℕ) (was_inner was_words to_inner to_words : List ℕ) (k kept : ℕ) : Type 0 where
  pub fewer : kept ≤ count + k
  pub inner_long : length to_inner ≡ length was_inner
  pub words_long : length to_words ≡ length was_words
  pub indices : take kept to_inner ++ kept_indices test (drop k inner)
      (drop k words) ≡ take count was_inner ++ kept_indices test inner words
  pub beside : take kept to_words ++ kept_words test (drop k inner)
      (drop k words) ≡ take count was_words ++ kept_words test inner words

pub passed_more : (test : ℕ → ℕ → Bool) (inner words : List ℕ) (count : ℕ)
    (was_inner was_words to_inner to_words : List ℕ) (k kept : ℕ) (passes : Bool) (byte : Bool → ℕ)
    → byte true ≡ 1 → byte false ≡ 0 → ArePassed test inner words count was_inner was_words to_inner to_words k kept
    → k < length inner → length words ≡ length inner → kept < length to_inner → kept < length to_words
    → passes ≡ test (get_or inner k 0) (get_or words k 0)
    → ArePassed test inner words count was_inner was_words (set to_inner kept (get_or inner k 0))
    (set to_words kept (get_or words k 0)) (k + 1) (kept + byte passes)
unfolding kept_indices kept_words
passed_more test inner words count was_inner was_words to_inner to_words k kept passes byte one_is none_is h within same a b is =
    let c = get_or inner k 0 in
    let w = get_or words k 0 in
    let fewer = h.fewer in
    let split : drop k inner ≡ c ∷ drop (k + 1) inner = drop_more inner k 0 within in
    let split_words : drop k words ≡ w ∷ drop (k + 1) words = drop_more words k 0 (omega arith) in
    let indices : take kept to_inner ++ cond (test c w) (c ∷ kept_indices test (drop (k + 1) inner) (drop (k + 1) words)) (kept_indices test (drop (k + 1) inner) (drop (k + 1) words)) ≡ take count was_inner ++ kept_indices test inner words = rw (split, split_words) at h.indices in
    let beside : take kept to_words ++ cond (test c w) (w ∷ kept_words test (drop (k + 1) inner) (drop (k + 1) words)) (kept_words test (drop (k + 1) inner) (drop (k + 1) words)) ≡ take count was_words ++ kept_words test inner words = rw (split, split_words) at h.beside in
    elim (cases_Bool (test c w)) [
      | inl kept_too ↦
          let one : passes ≡ true = is ∙ kept_too in
          rw (one, one_is) (record {
            fewer = omega arith;
            inner_long = length-set to_inner kept c ∙ h.inner_long;
            words_long = length-set to_words kept w ∙ h.words_long;
            indices = ap (λ xs. xs ++ kept_indices test (drop (k + 1) inner) (drop (k + 1) words)) (take_more_set to_inner kept c a) ∙ append_assoc (take kept to_inner) (c ∷ []) (kept_indices test (drop (k + 1) inner) (drop (k + 1) words)) ∙ rw kept_too at indices;
            beside = ap (λ xs. xs ++ kept_words test (drop (k + 1) inner) (drop (k + 1) words)) (take_more_set to_words kept w b) ∙ append_assoc (take kept to_words) (w ∷ []) (kept_words test (drop (k + 1) inner) (drop (k + 1) words)) ∙ rw kept_too at beside;
          })
      | inr dropped ↦
          let none : passes ≡ false = is ∙ dropped in
          let stay : kept + 0 ≡ kept = omega arith in
          rw (none, none_is) (rw stay (record {
            fewer = omega arith;
            inner_long = length-set to_inner kept c ∙ h.inner_long;
            words_long = length-set to_words kept w ∙ h.words_long;
            indices = ap (λ xs. xs ++ kept_indices test (drop (k + 1) inner) (drop (k + 1) words)) (take-set to_inner kept c) ∙ rw dropped at indices;
            beside = ap (λ xs. xs ++ kept_words test (drop (k + 1) inner) (drop (k + 1) words)) (take-set to_words kept w) ∙ rw dropped at beside;
          }))
    ]

pub passed_none : (test : ℕ → ℕ → Bool) (inner words : List ℕ) (count : ℕ) (to_inner to_words : List ℕ)
    → ArePassed test inner words count to_inner to_words to_inner to_words 0 count
passed_none test inner words count to_inner to_words = record {
  fewer = omega arith;
  inner_long = refl;
  words_long = refl;
  indices = refl;
  beside = refl;
}

pub passed_indices : (test : ℕ → ℕ → Bool) (inner words : List ℕ) (count : ℕ)
    (was_inner was_words to_inner to_words : List ℕ) (k kept : ℕ)
    → ArePassed test inner words count was_inner was_words to_inner to_words k kept → length inner ≤ k
    → take kept to_inner ≡ take count was_inner ++ kept_indices test inner words
unfolding kept_indices
passed_indices test inner words count was_inner was_words to_inner to_words k kept h all =
    let none : kept_indices test (drop k inner) (drop k words) ≡ [] = ap (λ xs. kept_indices test xs (drop k words)) (drop_all k inner all) in
    sym (append-nil (take kept to_inner)) ∙ ap (λ xs. take kept to_inner ++ xs) (sym none) ∙ h.indices

pub passed_words : (test : ℕ → ℕ → Bool) (inner words : List ℕ) (count : ℕ)
    (was_inner was_words to_inner to_words : List ℕ) (k kept : ℕ)
    → ArePassed test inner words count was_inner was_words to_inner to_words k kept → length inner ≤ k
    → take kept to_words ≡ take count was_words ++ kept_words test inner words
unfolding kept_words
passed_words test inner words count was_inner was_words to_inner to_words k kept h all =
    let none : kept_words test (drop k inner) (drop k words) ≡ [] = ap (λ xs. kept_words test xs (drop k words)) (drop_all k inner all) in
    sym (append-nil (take kept to_words)) ∙ ap (λ xs. take kept to_words ++ xs) (sym none) ∙ h.beside

-- ---- part by part

pub indices_append : (test : ℕ → ℕ → Bool) (n : ℕ) (inner words : List ℕ) → length words ≡ length inner
    → kept_indices test (take n inner) (take n words) ++ kept_indices test (drop n inner)
    (drop n words) ≡ kept_indices test inner words
unfolding kept_indices
indices_append test zero inner words same = refl
indices_append test (suc n) [] words same = refl
indices_append test (suc n) (c ∷ cs) [] same = absurd (omega arith)
indices_append test (suc n) (c ∷ cs) (w ∷ ws) same =
    let rest = indices_append test n cs ws (omega arith) in
    elim (test c w) as (λ b. cond b (c ∷ kept_indices test (take n cs) (take n ws)) (kept_indices test (take n cs) (take n ws)) ++ kept_indices test (drop n cs) (drop n ws) ≡ cond b (c ∷ kept_indices test cs ws) (kept_indices test cs ws)) [
      | true ↦ ap (λ xs. c ∷ xs) rest
      | false ↦ rest
    ]

pub words_append : (test : ℕ → ℕ → Bool) (n : ℕ) (inner words : List ℕ) → length words ≡ length inner
    → kept_words test (take n inner) (take n words) ++ kept_words test (drop n inner)
    (drop n words) ≡ kept_words test inner words
unfolding kept_words
words_append test zero inner words same = refl
words_append test (suc n) [] words same = refl
words_append test (suc n) (c ∷ cs) [] same = absurd (omega arith)
words_append test (suc n) (c ∷ cs) (w ∷ ws) same =
    let rest = words_append test n cs ws (omega arith) in
    elim (test c w) as (λ b. cond b (w ∷ kept_words test (take n cs) (take n ws)) (kept_words test (take n cs) (take n ws)) ++ kept_words test (drop n cs) (drop n ws) ≡ cond b (w ∷ kept_words test cs ws) (kept_words test cs ws)) [
      | true ↦ ap (λ xs. w ∷ xs) rest
      | false ↦ rest
    ]

-- a part more of a fiber
pub part_indices : (test : ℕ → ℕ → Bool) (inner words before now next : List ℕ) (start past : ℕ)
    → length words ≡ length inner → start ≤ past → now ++ kept_indices test (drop start inner)
    (drop start words) ≡ before ++ kept_indices test inner words
    → next ≡ now ++ kept_indices test (slice_range inner start past) (slice_range words start past)
    → next ++ kept_indices test (drop past inner) (drop past words) ≡ before ++ kept_indices test inner words
part_indices test inner words before now next start past same up is more =
    let n = past - start in
    let end : start + n ≡ past = omega arith in
    let behind : (xs : List ℕ) → drop past xs ≡ drop n (drop start xs) = λ xs. ap (λ k. drop k xs) (sym end) ∙ sym (drop-drop n start xs) in
    let part = kept_indices test (take n (drop start inner)) (take n (drop start words)) in
    let rest = kept_indices test (drop n (drop start inner)) (drop n (drop start words)) in
    ap (λ xs. xs ++ kept_indices test (drop past inner) (drop past words)) more
    ∙ ap (λ xs. (now ++ part) ++ kept_indices test xs (drop past words)) (behind inner) ∙ ap (λ xs. (now ++ part) ++ kept_indices test (drop n (drop start inner)) xs) (behind words)
    ∙ append_assoc now part rest ∙ ap (λ xs. now ++ xs) (indices_append test n (drop start inner) (drop start words) (omega (arith, length-drop start inner, length-drop start words))) ∙ is

pub part_words : (test : ℕ → ℕ → Bool) (inner words before now next : List ℕ) (start past : ℕ)
    → length words ≡ length inner → start ≤ past → now ++ kept_words test (drop start inner)
    (drop start words) ≡ before ++ kept_words test inner words
    → next ≡ now ++ kept_words test (slice_range inner start past) (slice_range words start past)
    → next ++ kept_words test (drop past inner) (drop past words) ≡ before ++ kept_words test inner words
part_words test inner words before now next start past same up is more =
    let n = past - start in
    let end : start + n ≡ past = omega arith in
    let behind : (xs : List ℕ) → drop past xs ≡ drop n (drop start xs) = λ xs. ap (λ k. drop k xs) (sym end) ∙ sym (drop-drop n start xs) in
    let part = kept_words test (take n (drop start inner)) (take n (drop start words)) in
    let rest = kept_words test (drop n (drop start inner)) (drop n (drop start words)) in
    ap (λ xs. xs ++ kept_words test (drop past inner) (drop past words)) more
    ∙ ap (λ xs. (now ++ part) ++ kept_words test xs (drop past words)) (behind inner) ∙ ap (λ xs. (now ++ part) ++ kept_words test (drop n (drop start inner)) xs) (behind words)
    ∙ append_assoc now part rest ∙ ap (λ xs. now ++ xs) (words_append test n (drop start inner) (drop start words) (omega (arith, length-drop start inner, length-drop start words))) ∙ is

pub fiber_indices : (test : ℕ → ℕ → Bool) (inner words before now : List ℕ) (start : ℕ) → length inner ≤ start
    → now ++ kept_indices test (drop start inner) (drop start words) ≡ before ++ kept_indices test inner words
    → now ≡ before ++ kept_indices test inner words
unfolding kept_indices
fiber_indices test inner words before now start all is =
    sym (append-nil now) ∙ ap (λ xs. now ++ kept_indices test xs (drop start words)) (sym (drop_all start inner all)) ∙ is

pub fiber_words : (test : ℕ → ℕ → Bool) (inner words before now : List ℕ) (start : ℕ) → length inner ≤ start
    → now ++ kept_words test (drop start inner) (drop start words) ≡ before ++ kept_words test inner words
    → now ≡ before ++ kept_words test inner words
unfolding kept_words
fiber_words test inner words before now start all is =
    sym (append-nil now) ∙ ap (λ xs. now ++ kept_words test xs (drop start words)) (sym (drop_all start inner all)) ∙ is
