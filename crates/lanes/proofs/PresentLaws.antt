-- Words whose bits are set, one place after another.
use Rattle.std.proofs.Common.{◌≡◌, ℕ, zero, suc, ◌+◌, ◌-◌, ◌/◌, ◌%◌, ◌<◌, ◌≤◌, cond, eqb, List, [], ◌∷◌, ◌++◌, length, get_or, drop, map, take, count_ones, true, false, refl, sym, ◌∙◌, ap, arith}
use Rattle.std.specs.Int.{bit_at}
use Rattle.std.specs.List.{fold, sum}
use Rattle.std.proofs.lemmas.List.{append-nil, get_or-drop, length-drop, length-take-le, map-append, take_more}
use Rattle.std.proofs.lemmas.List.Sums.{fold-append, sum_by_push}
use Rattle.std.proofs.lemmas.Nat.Bits.{bit_at_ones}
use Rattle.algebra.specs.Operators.{combines_by, eval_of}
use Rattle.algebra.specs.declared.domain.Domain.{Domain}
use Rattle.algebra.specs.declared.kinds.MonoidKind.{MonoidKind}
use Rattle.algebra.specs.declared.kinds.BinaryKind.{BinaryKind}
use Rattle.lanes.specs.Bits.{has_bit, present_from, present_words}
use Rattle.lanes.specs.Lists.{fold_of}

present_push : (bits : List ℕ) (at : ℕ) (words : List ℕ) (word : ℕ) → present_from bits at (words ++ word ∷ []) ≡ present_from bits at words ++ cond (has_bit bits (at + length words)) (word ∷ []) []
unfolding present_from
present_push bits at [] word = let same : at + 0 ≡ at = omega arith in rw same refl
present_push bits at (w ∷ words) word =
    let next : at + 1 + length words ≡ at + length (w ∷ words) = omega arith in
    let rest = present_push bits (at + 1) words word in
    let more : present_from bits (at + 1) (words ++ word ∷ []) ≡ present_from bits (at + 1) words ++ cond (has_bit bits (at + length (w ∷ words))) (word ∷ []) [] = rest ∙ ap (λ k. present_from bits (at + 1) words ++ cond (has_bit bits k) (word ∷ []) []) next in
    elim (has_bit bits at) as (λ b. cond b (w ∷ present_from bits (at + 1) (words ++ word ∷ [])) (present_from bits (at + 1) (words ++ word ∷ [])) ≡ cond b (w ∷ present_from bits (at + 1) words) (present_from bits (at + 1) words) ++ cond (has_bit bits (at + length (w ∷ words))) (word ∷ []) []) [
      | true ↦ ap (λ ws. w ∷ ws) more
      | false ↦ more
    ]

-- one place more
pub fold_more : (kind : MonoidKind) (d : Domain) (op : BinaryKind) (bits words : List ℕ) (k total : ℕ) → op ≡ combines_by kind → k < length words → total ≡ fold_of kind d (present_words bits (take k words))
    → cond (has_bit bits k) (eval_of op d total (get_or words k 0)) total ≡ fold_of kind d (present_words bits (take (k + 1) words))
fold_more kind d op bits words k total is within here =
    let word = get_or words k 0 in
    let taken : length (take k words) ≡ k = length-take-le k words (omega arith) in
    let long : 0 + length (take k words) ≡ k = omega arith in
    let all : present_words bits (take (k + 1) words) ≡ present_words bits (take k words) ++ cond (has_bit bits k) (word ∷ []) [] =
    ap (present_from bits 0) (take_more words k 0 within) ∙ present_push bits 0 (take k words) word ∙ ap (λ n. present_words bits (take k words) ++ cond (has_bit bits n) (word ∷ []) []) long in
    let f = eval_of (combines_by kind) d in
    rw (all, here, is) (elim (has_bit bits k) as (λ b. cond b (f (fold_of kind d (present_words bits (take k words))) word) (fold_of kind d (present_words bits (take k words))) ≡ fold_of kind d (present_words bits (take k words) ++ cond b (word ∷ []) [])) [
      | true ↦ sym (fold-append f _ (present_words bits (take k words)) (word ∷ []))
      | false ↦ ap (fold_of kind d) (sym (append-nil (present_words bits (take k words))))
    ])

-- a word more of those from a place on, and of which none is left out
pub fold_next : (f : ℕ → ℕ → ℕ) (words : List ℕ) (base n before : ℕ) → base + n < length words
    → fold f before (take (n + 1) (drop base words)) ≡ f (fold f before (take n (drop base words))) (get_or words (base + n) 0)
fold_next f words base n before within =
    let long = length-drop base words in
    let more = take_more (drop base words) n 0 (omega arith) in
    ap (fold f before) more ∙ fold-append f before (take n (drop base words)) (get_or (drop base words) n 0 ∷ []) ∙ ap (f (fold f before (take n (drop base words)))) (get_or-drop base words n 0)

-- places more, all of whose bits are set
pub fold_all_more : (kind : MonoidKind) (d : Domain) (op : BinaryKind) (bits words : List ℕ) (base n total : ℕ) → op ≡ combines_by kind → base + n ≤ length words
    → ((k : ℕ) → base ≤ k → k < base + n → has_bit bits k ≡ true) → total ≡ fold_of kind d (present_words bits (take base words))
    → fold (eval_of op d) total (take n (drop base words)) ≡ fold_of kind d (present_words bits (take (base + n) words))
fold_all_more kind d op bits words base zero total is within all here = let same : base + 0 ≡ base = omega arith in rw same here
fold_all_more kind d op bits words base (suc n) total is within all here =
    let f = eval_of op d in
    let sum = fold f total (take n (drop base words)) in
    let rest = fold_all_more kind d op bits words base n total is (omega arith) (λ k low high. all k low (omega arith)) here in
    let there = all (base + n) (omega arith) (omega arith) in
    let last : f sum (get_or words (base + n) 0) ≡ fold_of kind d (present_words bits (take (base + n + 1) words)) = rw there at (fold_more kind d op bits words (base + n) sum is (omega arith) rest) in
    let one : suc n ≡ n + 1 = omega arith in
    let next : base + suc n ≡ base + n + 1 = omega arith in
    rw next (ap (λ m. fold f total (take m (drop base words))) one ∙ fold_next f words base n total (omega arith) ∙ last)

-- where the bits of 64 places are all set, each is
pub bit_of_all : (bits : List ℕ) (base k : ℕ) → base % 64 ≡ 0 → base ≤ k → k < base + 64 → get_or bits (base / 64) 0 ≡ 18446744073709551615 → has_bit bits k ≡ true
bit_of_all bits base k whole low high all =
    let word : k / 64 ≡ base / 64 = omega arith in
    let there : bit_at (get_or bits (k / 64) 0) (k % 64) ≡ 1 = ap (λ n. bit_at (get_or bits n 0) (k % 64)) word ∙ ap (λ n. bit_at n (k % 64)) all ∙ bit_at_ones 64 (k % 64) (omega arith) in
    rw there refl

pub bit_of_word : (bits : List ℕ) (base k : ℕ) → base % 64 ≡ 0 → base ≤ k → k < base + 64 → eqb (bit_at (get_or bits (base / 64) 0) (k - base)) 1 ≡ has_bit bits k
bit_of_word bits base k whole low high =
    let word : k / 64 ≡ base / 64 = omega arith in
    let place : k % 64 ≡ k - base = omega arith in
    rw (word, place) refl

pub ones_more : (bits : List ℕ) (k : ℕ) → k < length bits → sum (map count_ones (take (k + 1) bits)) ≡ sum (map count_ones (take k bits)) + count_ones (get_or bits k 0)
ones_more bits k within =
    ap (λ xs. sum (map count_ones xs)) (take_more bits k 0 within) ∙ ap sum (map-append count_ones (take k bits) (get_or bits k 0 ∷ [])) ∙ sum_by_push (λ (x : ℕ). x) (map count_ones (take k bits)) (count_ones (get_or bits k 0))
