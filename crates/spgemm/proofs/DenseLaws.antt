-- Sums with a place for each column, one term after another, and the row that they are.
use Rattle.std.proofs.Common.{◌≡◌, ◌≢◌, ℕ, zero, suc, ◌+◌, ◌-◌, ◌*◌, ◌/◌, ◌%◌, ◌<◌, ◌≤◌, true, false, ltb, Bool, List, [], ◌∷◌, ◌++◌, length, get_or, map, replicate, take, Option, Some, None, refl, Result, Ok, Err, OnOk, sym, ◌∙◌, ap, subst, w64, inl, inr, arith}
use Rattle.std.specs.Int.{bit_at, trailing_zeros}
use Rattle.std.specs.Option.{option_map}
use Rattle.std.specs.List.{All, cons_option}
use Rattle.std.proofs.lemmas.Bool.{cases_Bool}
use Rattle.std.proofs.lemmas.Bool.Decides.{nat_tests}
use Rattle.std.proofs.lemmas.List.{append-nil, get_or-replicate, get_or_past, length-replicate}
use Rattle.algebra.specs.declared.binary.BinaryOp.{BinaryOp}
use Rattle.model.specs.declared.entry.Entry.{Entry}
use Rattle.std.proofs.lemmas.List.Elements.{All-nil, All-cons, All-head, All-tail, All-weaker}
use Rattle.std.proofs.lemmas.Nat.Bits.{bit_at-zero}
use Rattle.store.specs.Fibers.{entries_along}
use Rattle.store.specs.Stored.{Stored, content_of}
use Rattle.store.proofs.RowEntries.{row_entries-inside}
use Rattle.model.specs.Entries.{below, count_from, entry_at, row_entries}
use Rattle.terms.specs.declared.term.Term.{Term}
use Rattle.lanes.specs.Bits.{has_bit}
use Rattle.spgemm.specs.Dense.{AreClear, AreColumnSums, HaveRoom, found, word_by, word_in}
use Rattle.terms.specs.Terms.{apply, kept_terms, sum_at, term_at, terms_of_row, times_row}
use Rattle.model.specs.declared.memory.NoMemory.{NoMemory}
use Rattle.store.specs.declared.lists.FiberLists.{FiberLists}
use Rattle.store.proofs.Positions.{filter_whole}
use Rattle.spgemm.specs.Products.{HasOpenRow, IsSumRow}
use Rattle.terms.proofs.Kept.{terms_inside}
use Rattle.spgemm.proofs.SlotRows.{all_slots, found_row}
use Rattle.lanes.proofs.BitLaws.{AreLeft, next_left, without_bit}
use Rattle.spgemm.proofs.SlotSums.{more_terms}

-- ---- a product more

pub product_more : (op mul : BinaryOp) (terms : List Term) (word : ℕ) (row : List Entry) (k : ℕ) (e : Entry)
    (bits words : List ℕ) → get_or row k e ≡ e → k < length row
    → AreColumnSums op ((terms ++ times_row mul word (take k row)) ++ term_at e.col (apply mul word e.word) ∷ []) bits words → AreColumnSums op (terms ++ times_row mul word (take (k + 1) row)) bits words
product_more op mul terms word row k e bits words this within here =
    let more : (terms ++ times_row mul word (take k row)) ++ term_at e.col (apply mul word e.word) ∷ [] ≡ terms ++ times_row mul word (take (k + 1) row) = rw this at (more_terms mul terms word row k e within) in
    subst (λ ts. AreColumnSums op ts bits words) more here

-- no terms leave all clear
pub clear_sums : (op : BinaryOp) (bits words : List ℕ) → AreClear bits → AreColumnSums op [] bits words
clear_sums op bits words clear = record {
  sums_are = λ col within. let none : has_bit bits col ≡ false = rw (clear (col / 64), bit_at-zero (col % 64)) refl in rw none refl;
}

-- what the entries of a row say of their columns
pub along_cols : (P : ℕ → Type 0) (index : ℕ) (cols words : List ℕ) → length words ≡ length cols
    → All (λ e. P e.col) (entries_along index cols words) → All P cols
along_cols P index [] words same h = All-nil P
along_cols P index (c ∷ cols) [] same h = absurd (omega arith)
along_cols P index (c ∷ cols) (w ∷ words) same h =
    All-cons P c cols (All-head (λ e. P e.col) (entry_at index c w) (entries_along index cols words) h)
    (along_cols P index cols words (omega arith) (All-tail (λ e. P e.col) (entry_at index c w) (entries_along index cols words) h))

-- the columns of a row of B are below its width
pub cols_below : (b : Stored) (i : ℕ) (cols words : List ℕ) (width : ℕ) → length words ≡ length cols
    → entries_along i cols words ≡ row_entries b.cols (content_of b) i → b.cols ≤ width → All (λ col. col < width) cols
cols_below b i cols words width same is fits =
    along_cols (λ col. col < width) i cols words same (subst (All (λ e. e.col < width)) (sym is)
    (All-weaker (λ e. (e.row ≡ i) × (e.col < b.cols)) (λ e. e.col < width) (λ e p. let low = p.1 in omega arith) (row_entries b.cols (content_of b) i) (row_entries-inside b.cols (content_of b) i)))

-- ---- what is found place by place

found_more : (f : ℕ → Option ℕ) (first : ℕ) (rest others : List Term)
    → cons_option (option_map (term_at first) (f first))
    (rest ++ others) ≡ cons_option (option_map (term_at first) (f first)) rest ++ others
found_more f first rest others = elim (f first) as (λ o. cons_option (option_map (term_at first) o) (rest ++ others) ≡ cons_option (option_map (term_at first) o) rest ++ others) [
  | None ↦ refl
  | Some w ↦ refl
]

pub found_append : (f : ℕ → Option ℕ) (first m n : ℕ) → found f first (m + n) ≡ found f first m ++ found f (first + m) n
unfolding count_from
found_append f first zero n = let same : first + 0 ≡ first = omega arith in let all : 0 + n ≡ n = omega arith in rw (same, all) refl
found_append f first (suc m) n =
    let all : suc m + n ≡ suc (m + n) = omega arith in
    let next : first + suc m ≡ first + 1 + m = omega arith in
    rw (all, next, found_append f (first + 1) m n) (found_more f first (found f (first + 1) m) (found f (first + 1 + m) n))

pub found_zero : (f : ℕ → Option ℕ) (first : ℕ) → found f first 0 ≡ []
unfolding count_from
found_zero f first = refl

pub found_none : (f : ℕ → Option ℕ) (first n : ℕ) → ((at : ℕ) → first ≤ at → at < first + n → f at ≡ None)
    → found f first n ≡ []
unfolding count_from
found_none f first zero none = refl
found_none f first (suc n) none = rw (none first (omega arith) (omega arith)) (found_none f (first + 1) n (λ at low high. none at (omega arith) (omega arith)))

pub found_agree : (f g : ℕ → Option ℕ) (first n : ℕ) → ((at : ℕ) → first ≤ at → at < first + n → f at ≡ g at)
    → found f first n ≡ found g first n
unfolding count_from
found_agree f g first zero same = refl
found_agree f g first (suc n) same =
    rw (same first (omega arith) (omega arith)) (ap (cons_option (option_map (term_at first) (g first))) (found_agree f g (first + 1) n (λ at low high. same at (omega arith) (omega arith))))

found_one : (f : ℕ → Option ℕ) (at word : ℕ) → f at ≡ Some word → found f at 1 ≡ term_at at word ∷ []
unfolding count_from
found_one f at word is = rw is refl

found_up_to : (f : ℕ → Option ℕ) (base p q word : ℕ) → p ≤ q → ((at : ℕ) → base + p ≤ at → at < base + q → f at ≡ None)
    → f (base + q) ≡ Some word → found f base (q + 1) ≡ found f base p ++ term_at (base + q) word ∷ []
found_up_to f base p q word le none is =
    let d = q - p in
    let whole : q + 1 ≡ p + (d + 1) = omega arith in
    let at : base + p + d ≡ base + q = omega arith in
    ap (found f base) whole ∙ found_append f base p (d + 1)
    ∙ ap (λ ts. found f base p ++ ts)
    (found_append f (base + p) d 1 ∙ rw (found_none f (base + p) d (λ k low high. none k low (omega arith)), at) (found_one f (base + q) word is))

-- ---- the words of 64 places, one bit after another

no_word : (bits base : ℕ) (words : List ℕ) (at : ℕ) → bit_at bits (at - base) ≡ 0 → word_by bits base words at ≡ None
no_word bits base words at none = rw none refl

a_word : (bits base : ℕ) (words : List ℕ) (at : ℕ) → bit_at bits (at - base) ≡ 1
    → word_by bits base words at ≡ Some (get_or words at 0)
a_word bits base words at there = rw there refl

-- the lowest bit that is left is that of the next word
pub next_word : (bits left p base : ℕ) (words : List ℕ) → AreLeft bits left p → left ≢ 0 → left < 18446744073709551616
    → let place = trailing_zeros w64 left in (place < 64) × AreLeft bits (without_bit left place) (place + 1) × (p ≤ place) × (bit_at bits place ≡ 1) × (found (word_by bits base words) base (place + 1) ≡ found (word_by bits base words) base p ++ term_at (base + place) (get_or words (base + place) 0) ∷ [])
next_word bits left p base words here some fits =
    let next = next_left bits left p here some fits in
    let place = trailing_zeros w64 left in
    let at_place : base + place - base ≡ place = omega arith in (
      next.0,
      next.1,
      next.2,
      next.3,
      found_up_to (word_by bits base words) base p place (get_or words (base + place) 0) next.2
          (λ at low high. no_word bits base words at (next.4 (at - base) (omega arith) (omega arith)))
          (a_word bits base words (base + place) (ap (bit_at bits) at_place ∙ next.3)),
    )

-- where no bit is left, all words were found
pub all_found : (bits p base : ℕ) (words : List ℕ) → AreLeft bits 0 p
    → found (word_by bits base words) base 64 ≡ found (word_by bits base words) base p
all_found bits p base words here =
    let f = word_by bits base words in
    let le = here.p_le in
    let whole : 64 ≡ p + (64 - p) = omega arith in
    ap (found f base) whole ∙ found_append f base p (64 - p)
    ∙ rw (found_none f (base + p) (64 - p) (λ at low high. no_word bits base words at (sym (here.high (at - base) (omega arith) (omega arith)) ∙ bit_at-zero (at - base)))) (append-nil (found f base p))

pub no_bits : (bits base : ℕ) (words : List ℕ) → bits ≡ 0 → found (word_by bits base words) base 64 ≡ []
no_bits bits base words none = found_none (word_by bits base words) base 64 (λ at low high. no_word bits base words at (ap (λ n. bit_at n (at - base)) none ∙ bit_at-zero (at - base)))

-- ---- words of bits without a bit

zero_word : (bits words : List ℕ) (col : ℕ) → get_or bits (col / 64) 0 ≡ 0 → word_in bits words col ≡ None
zero_word bits words col zero_is = let none : has_bit bits col ≡ false = rw (zero_is, bit_at-zero (col % 64)) refl in rw none refl

-- nothing is found before the first word that has a bit
pub none_before : (bits words : List ℕ) (start : ℕ) → ((at : ℕ) → at < start → get_or bits at 0 ≡ 0)
    → found (word_in bits words) 0 (64 * start) ≡ []
none_before bits words start clear = found_none (word_in bits words) 0 (64 * start) (λ col low high. zero_word bits words col (clear (col / 64) (omega arith)))

-- and nothing behind the last one
pub all_before : (bits words : List ℕ) (end : ℕ) → HaveRoom bits words → end ≤ length bits
    → ((at : ℕ) → end ≤ at → get_or bits at 0 ≡ 0)
    → found (word_in bits words) 0 (length words) ≡ found (word_in bits words) 0 (64 * end)
all_before bits words end room le clear =
    let f = word_in bits words in
    let rest = length words - 64 * end in
    let whole : length words ≡ 64 * end + rest = omega arith in
    ap (found f 0) whole ∙ found_append f 0 (64 * end) rest
    ∙ rw (found_none f (0 + 64 * end) rest (λ col low high. zero_word bits words col (clear (col / 64) (omega arith)))) (append-nil (found f 0 (64 * end)))

-- ---- all places

-- the words of 64 places are those there
pub found_here : (bits words : List ℕ) (at : ℕ) → found (word_by (get_or bits at 0) (64 * at) words)
    (64 * at) 64 ≡ found (word_in bits words) (64 * at) 64
found_here bits words at =
    found_agree (word_by (get_or bits at 0) (64 * at) words) (word_in bits words) (64 * at) 64
    (λ k low high.
    let word : k / 64 ≡ at = omega arith in
    let place : k % 64 ≡ k - 64 * at = omega arith in
    rw (word, place) refl)

pub found_next : (bits words : List ℕ) (at : ℕ)
    → found (word_in bits words) 0 (64 * (at + 1)) ≡ found (word_in bits words) 0 (64 * at) ++ found (word_by (get_or bits at 0) (64 * at) words) (64 * at) 64
found_next bits words at =
    let whole : 64 * (at + 1) ≡ 64 * at + 64 = omega arith in
    let from : 0 + 64 * at ≡ 64 * at = omega arith in
    ap (found (word_in bits words) 0) whole ∙ found_append (word_in bits words) 0 (64 * at) 64
    ∙ ap (λ ts. found (word_in bits words) 0 (64 * at) ++ ts) (ap (λ k. found (word_in bits words) k 64) from ∙ sym (found_here bits words at))

-- ---- the row

-- the sums at all columns are the row of the sums of the terms
pub dense_row : (op : BinaryOp) (index : ℕ) (terms : List Term) (bits words : List ℕ)
    → All (λ t. t.col < length words) terms → AreColumnSums op terms bits words
    → IsSumRow op index terms (map (λ s. s.col) (found (word_in bits words) 0 (length words)))
    (map (λ s. s.word) (found (word_in bits words) 0 (length words)))
dense_row op index terms bits words inside here =
    let width = length words in
    let keeps : ℕ → Bool = λ col. ltb col width in
    let f : ℕ → Option ℕ = λ col. sum_at op col terms in
    let same : found (word_in bits words) 0 width ≡ found f 0 width = found_agree (word_in bits words) f 0 width (λ at low high. here.sums_are at (omega arith)) in
    let kept : kept_terms keeps terms ≡ terms = filter_whole (λ t. keeps t.col) terms (All-weaker (λ t. t.col < width) (λ t. keeps t.col ≡ true) (λ t less. grind (arith, nat_tests)) terms inside) in
    rw same (subst (λ ts. IsSumRow op index ts (map (λ s. s.col) (found f 0 width)) (map (λ s. s.word) (found f 0 width))) kept (found_row op index keeps (below width) terms (all_slots width)))

-- the sums that were found, behind the rows
pub dense_open : (op : BinaryOp) (index : ℕ) (terms : List Term) (bits words : List ℕ) (old new : FiberLists)
    → All (λ t. t.col < length words) terms → AreColumnSums op terms bits words
    → new.ends ≡ old.ends → new.inner.items ≡ old.inner.items ++ map (λ s. s.col)
    (found (word_in bits words) 0 (length words)) → new.words.items ≡ old.words.items ++ map (λ s. s.word)
    (found (word_in bits words) 0 (length words))
    → HasOpenRow op index terms old new
dense_open op index terms bits words old new inside here same put_inner put_words = record {
  cols = map (λ s. s.col) (found (word_in bits words) 0 (length words));
  added = map (λ s. s.word) (found (word_in bits words) 0 (length words));
  sums = dense_row op index terms bits words inside here;
  inner = put_inner;
  words = put_words;
  ends = same;
}

pub dense_open_ok : (r : Result (Unit {0}) NoMemory) (op : BinaryOp) (index : ℕ) (terms : List Term)
    (bits words : List ℕ) (old new : FiberLists) → All (λ t. t.col < length words) terms
    → AreColumnSums op terms bits words
    → OnOk r (new.ends ≡ old.ends)
    → OnOk r (new.inner.items ≡ old.inner.items ++ map (λ s. s.col) (found (word_in bits words) 0 (length words)))
    → OnOk r (new.words.items ≡ old.words.items ++ map (λ s. s.word) (found (word_in bits words) 0 (length words)))
    → OnOk r (HasOpenRow op index terms old new)
dense_open_ok (Err e) op index terms bits words old new inside here same put_inner put_words = tt
dense_open_ok (Ok u) op index terms bits words old new inside here same put_inner put_words = dense_open op index terms bits words old new inside here same put_inner put_words

-- the same, whatever the index
pub dense_open_each : (r : Result (Unit {0}) NoMemory) (op : BinaryOp) (terms : List Term) (bits words : List ℕ)
    (old new : FiberLists) → All (λ t. t.col < length words) terms → AreColumnSums op terms bits words
    → OnOk r (new.ends ≡ old.ends)
    → OnOk r (new.inner.items ≡ old.inner.items ++ map (λ s. s.col) (found (word_in bits words) 0 (length words)))
    → OnOk r (new.words.items ≡ old.words.items ++ map (λ s. s.word) (found (word_in bits words) 0 (length words)))
    → OnOk r ((index : ℕ) → HasOpenRow op index terms old new)
dense_open_each (Err e) op terms bits words old new inside here same put_inner put_words = tt
dense_open_each (Ok u) op terms bits words old new inside here same put_inner put_words = λ index. dense_open op index terms bits words old new inside here same put_inner put_words

pub below_width : (op : BinaryOp) (row : List Entry) (b : Stored) (width : ℕ) → b.cols ≤ width
    → All (λ t. t.col < width) (terms_of_row op row b)
below_width op row b width fits = All-weaker (λ t. t.col < b.cols) (λ t. t.col < width) (λ t less. omega arith) (terms_of_row op row b) (terms_inside op row b)

pub clear_room : (n : ℕ) → AreClear (replicate n 0)
clear_room n = λ at.
    elim (cases_Bool (ltb at n)) [
      | inl inside ↦ get_or-replicate n at 0 0 (grind (arith, nat_tests))
      | inr past ↦ get_or_past (replicate n 0) at 0 (let le : n ≤ at = grind (arith, nat_tests) in let long : length (replicate {A = ℕ} n 0) ≡ n = length-replicate n 0 in omega arith)
    ]
