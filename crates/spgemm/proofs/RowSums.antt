-- The sums of a product with a vector in a place for each row, as a bitmap.
use Rattle.std.proofs.Common.{◌≡◌, ℕ, ◌+◌, ◌<◌, ◌≤◌, false, cond, ◌&&◌, eqb, ltb, List, [], get_or, length, Option, Some, None, refl, sym, ◌∙◌, ap, inl, inr, arith}
use Rattle.std.specs.List.{All}
use Rattle.std.proofs.lemmas.Bool.{cases_Bool, cases_eq, cases_lt, eq-eqb, ne_eqb}
use Rattle.std.proofs.lemmas.Bool.Decides.{nat_tests}
use Rattle.algebra.specs.declared.semiring.Semiring.{Semiring}
use Rattle.algebra.specs.OperatorNames.{semiring_named}
use Rattle.bitmap.specs.Bitmaps.{Held, place_of}
use Rattle.bitmap.proofs.CountLaws.{entries_length, entries_most, one_of}
use Rattle.lanes.specs.Bits.{has_bit}
use Rattle.model.specs.declared.entry.Entry.{Entry}
use Rattle.model.specs.Entries.{InOrder, IsInside, entries_between, row_entries, word_at}
use Rattle.model.specs.Object.{IsWithin, with_entry}
use Rattle.model.specs.Product.{product}
use Rattle.store.specs.Fibers.{entries_along}
use Rattle.store.specs.Forms.{of_bitmap}
use Rattle.store.specs.Stored.{Stored, content_of}
use Rattle.store.specs.Walks.{IsFirstRow}
use Rattle.store.proofs.Content.{entries_of-words, nothing_outside}
use Rattle.spgemm.specs.Columns.{AreRowSums}
use Rattle.spgemm.specs.Dense.{word_in}
use Rattle.terms.specs.Terms.{sum_at, terms_of_row}
use Rattle.spgemm.proofs.BitmapSums.{no_word}
use Rattle.spgemm.proofs.DenseLaws.{cols_below}
use Rattle.spgemm.proofs.Product.{no_factor, no_product, row_product}
use Rattle.spgemm.proofs.WalkLaws.{AreLeftFrom, left_all, left_none, next_row}

-- ---- a walk along the rows

-- the sum of the products of some entries with a vector
abbrev pub dot : Semiring → Stored → List Entry → Option ℕ
dot semiring u row = sum_at semiring.add.op 0 (terms_of_row semiring.multiply row u)

-- each row below some one has its sum, and the others, of which the rest are left, have none yet
pub record AreSummedDown (semiring : Semiring) (a u : Stored) (bits words : List ℕ) (rest : List Entry) : Type 0 where
  pub low : ℕ
  pub left : AreLeftFrom a low a.rows rest
  pub sums_are : (i : ℕ) → i < low → word_in bits words i ≡ dot semiring u (row_entries a.cols (content_of a) i)
  pub none : (i : ℕ) → low ≤ i → word_in bits words i ≡ None

pub down_none : (semiring : Semiring) (a u : Stored) (bits words : List ℕ) → ((at : ℕ) → has_bit bits at ≡ false)
    → AreSummedDown semiring a u bits words (entries_between 0 a.rows a.cols (content_of a))
down_none semiring a u bits words clear = record {
  low = 0;
  left = left_all a 0 a.rows;
  sums_are = λ i less. absurd (omega arith);
  none = λ i past. rw (clear i) refl;
}

-- the row that is next has no word yet
pub down_next : (semiring : Semiring) (a u : Stored) (bits words : List ℕ) (rest : List Entry) (index : ℕ)
    (cols line_words : List ℕ) (others : List Entry) → AreSummedDown semiring a u bits words rest
    → IsFirstRow index cols line_words rest others → (word_in bits words index ≡ None) × (index < a.rows)
down_next semiring a u bits words rest index cols line_words others here starts =
    let next = next_row a here.low a.rows index cols line_words rest others here.left starts in
    (here.none index next.above, next.below)

-- and its columns are columns of A
pub down_inside : (semiring : Semiring) (a u : Stored) (bits words : List ℕ) (rest : List Entry) (index : ℕ)
    (cols line_words : List ℕ) (others : List Entry) (width : ℕ) → AreSummedDown semiring a u bits words rest
    → IsFirstRow index cols line_words rest others → a.cols ≤ width → All (λ col. col < width) cols
down_inside semiring a u bits words rest index cols line_words others width here starts fits =
    let next = next_row a here.low a.rows index cols line_words rest others here.left starts in
    cols_below a index cols line_words width starts.lengths next.entries fits

-- where its sum is put at its place, one row more has its sum
pub down_more : (semiring : Semiring) (a u : Stored) (bits words : List ℕ) (rest : List Entry) (index : ℕ)
    (cols line_words : List ℕ) (others : List Entry) (new_bits new_words : List ℕ) (sum : Option ℕ)
    → AreSummedDown semiring a u bits words rest → IsFirstRow index cols line_words rest others
    → sum ≡ dot semiring u (entries_along index cols line_words)
    → ((at : ℕ) → word_in new_bits new_words at ≡ cond (eqb at index) sum (word_in bits words at))
    → AreSummedDown semiring a u new_bits new_words others
down_more semiring a u bits words rest index cols line_words others new_bits new_words sum here starts is put =
    let next = next_row a here.low a.rows index cols line_words rest others here.left starts in
    let above = next.above in
    record {
      low = index + 1;
      left = next.others_left;
      sums_are = λ i less. put i ∙ elim (cases_eq i index) [
        | inl at ↦ rw (eq-eqb i index at) (is ∙ ap (dot semiring u) (next.entries ∙ ap (row_entries a.cols (content_of a)) (sym at)))
        | inr away ↦ rw (ne_eqb i index away) (elim (cases_lt i here.low) [
          | inl before ↦ here.sums_are i before
          | inr gap ↦ here.none i gap ∙ sym (ap (dot semiring u) (next.empty i gap (omega arith)))
        ])
      ];
      none = λ i past. put i ∙ rw (ne_eqb i index (λ same. absurd (omega arith))) (here.none i (omega arith));
    }

-- where nothing is left, they are the product's
pub down_all : (semiring : Semiring) (a u : Stored) (bits words : List ℕ) (rest : List Entry)
    → IsWithin a.rows a.cols (content_of a) → IsWithin u.rows u.cols (content_of u)
    → AreSummedDown semiring a u bits words rest → rest ≡ [] → AreRowSums semiring a u bits words
down_all semiring a u bits words rest within u_within here nothing = record {
  sums_are = λ i.
      let product_is = row_product semiring a.cols i 0 (content_of a) u u_within in
      elim (cases_lt i here.low) [
        | inl before ↦ here.sums_are i before ∙ product_is
        | inr past ↦ here.none i past ∙ sym (elim (cases_lt i a.rows) [
          | inl inside ↦ sym product_is ∙ ap (dot semiring u) (left_none a here.low a.rows rest here.left nothing i past inside)
          | inr outside ↦ no_product (semiring_named semiring) a.cols (content_of a) (content_of u) i 0 (λ k. rw (within i k (grind (arith, nat_tests))) refl)
        ])
      ];
}

-- ---- a vector with a word in each row

is_word : (o : Option ℕ) (word : ℕ) → 1 ≤ one_of o → ((w : ℕ) → o ≡ Some w → word ≡ w) → o ≡ Some word
is_word None word one is = absurd (omega arith)
is_word (Some w) word one is = ap Some (sym (is w refl))

-- so many entries as rows: there is one in each
there : (rows : ℕ) (es : List Entry) (k : ℕ) → InOrder es → IsInside rows 1 es → length es ≡ rows → k < rows
    → 1 ≤ one_of (word_at es k 0)
there rows es k order inside full row =
    let old = word_at es in
    let new = with_entry old k 0 0 in
    let both = entries_length rows 1 k 0 new old (λ p q p_in q_in away. rw away refl) row (omega arith) in
    let set : one_of (new k 0) ≡ 1 = rw (eq-eqb k k refl) refl in
    let most = entries_most rows 1 new in
    let same = ap length (entries_of-words rows 1 es order inside) in
    omega arith

-- and the words by place are theirs
pub known_word : (u : Held) (words : List ℕ) (k : ℕ) → u.cols ≡ 1 → InOrder u.entries
    → IsInside u.rows u.cols u.entries → length u.entries ≡ u.rows
    → ((i j word : ℕ) → word_at u.entries i j ≡ Some word → get_or words (place_of u.cols i j) 0 ≡ word)
    → k < u.rows → word_at u.entries k 0 ≡ Some (get_or words k 0)
known_word u words k column order inside full words_are row =
    let place : place_of u.cols k 0 ≡ k = rw column (omega arith) in
    is_word (word_at u.entries k 0) (get_or words k 0) (there u.rows u.entries k order (rw column at inside) full row)
    (λ word is. rw place at (words_are k 0 word is))

-- ---- as a bitmap

-- a bitmap has no word outside its shape
pub bitmap_within : (u : Held) → IsInside u.rows u.cols u.entries → IsWithin u.rows u.cols (word_at u.entries)
bitmap_within u inside = λ i j out. nothing_outside u.rows u.cols u.entries i j inside out

-- what a bitmap has that is made of bits and words, one for each row
pub record IsColumnOf (made : Held) (rows : ℕ) (bits words : List ℕ) : Type 0 where
  pub rows_are : made.rows ≡ rows
  pub cols_are : made.cols ≡ 1
  pub inside : IsInside made.rows made.cols made.entries
  pub words_are : (i j : ℕ) → i < rows → j < 1
      → word_at made.entries i j ≡ cond (has_bit bits (place_of 1 i j)) (Some (get_or words (place_of 1 i j) 0)) None

no_row_sum : (semiring : Semiring) (a : Stored) (u : Held) (i j : ℕ) → u.cols ≡ 1
    → IsWithin a.rows a.cols (content_of a) → IsInside u.rows u.cols u.entries → (ltb i a.rows && ltb j 1) ≡ false
    → product (semiring_named semiring) a.cols (content_of a) (word_at u.entries) i j ≡ None
no_row_sum semiring a u i j column within inside out =
    let name = semiring_named semiring in
    no_product name a.cols (content_of a) (word_at u.entries) i j (λ k.
    elim (cases_lt i a.rows) [
      | inl in_a ↦ rw (bitmap_within u inside k j (grind (arith, nat_tests))) (no_factor name (content_of a i k))
      | inr past ↦ rw (within i k (grind (arith, nat_tests))) refl
    ])

-- no bit is set behind the last row
pub none_past : (semiring : Semiring) (a : Stored) (u : Held) (bits words : List ℕ) (at : ℕ)
    → AreRowSums semiring a (of_bitmap u) bits words → u.cols ≡ 1 → IsWithin a.rows a.cols (content_of a)
    → IsInside u.rows u.cols u.entries → a.rows ≤ at → has_bit bits at ≡ false
none_past semiring a u bits words at sums column within inside past =
    no_word (has_bit bits at) (get_or words at 0) (sums.sums_are at ∙ no_row_sum semiring a u at 0 column within inside (grind (arith, nat_tests)))

-- the bitmap made of the sums is the product as the model defines it
pub column_product : (semiring : Semiring) (a : Stored) (u made : Held) (bits words : List ℕ) (i j : ℕ)
    → AreRowSums semiring a (of_bitmap u) bits words → IsColumnOf made a.rows bits words → u.cols ≡ 1
    → IsWithin a.rows a.cols (content_of a) → IsInside u.rows u.cols u.entries
    → word_at made.entries i j ≡ product (semiring_named semiring) a.cols (content_of a) (word_at u.entries) i j
column_product semiring a u made bits words i j sums here column within inside =
    elim (cases_Bool (ltb i a.rows && ltb j 1)) [
      | inl at ↦
          let less : i < a.rows = grind (arith, nat_tests) in
          let first : j ≡ 0 = grind (arith, nat_tests) in
          let place : place_of 1 i 0 ≡ i = omega arith in
          rw first (here.words_are i 0 less (omega arith) ∙ rw place (sums.sums_are i))
      | inr out ↦
          nothing_outside made.rows made.cols made.entries i j here.inside (rw (here.rows_are, here.cols_are) out)
          ∙ sym (no_row_sum semiring a u i j column within inside out)
    ]
