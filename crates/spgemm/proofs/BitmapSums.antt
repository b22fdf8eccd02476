-- The sums of a product in a place for each column, as a bitmap.
use Rattle.std.proofs.Common.{◌≡◌, ◌≢◌, ℕ, ◌/◌, ◌%◌, ◌*◌, ◌<◌, ◌≤◌, true, false, cond, ◌&&◌, ltb, Bool, List, length, get_or, take, Some, None, refl, sym, ◌∙◌, ap, inl, inr, arith}
use Rattle.std.specs.List.{reduce}
use Rattle.std.proofs.lemmas.Bool.{cases_Bool, cases_lt}
use Rattle.std.proofs.lemmas.Bool.Decides.{nat_tests}
use Rattle.std.proofs.lemmas.List.{get_or-take, get_or_past, length-take-le}
use Rattle.std.proofs.lemmas.List.Elements.{All-weaker}
use Rattle.std.proofs.lemmas.Nat.Bits.{bit_at-zero}
use Rattle.algebra.specs.declared.binary.BinaryOp.{BinaryOp}
use Rattle.algebra.specs.declared.semiring.Semiring.{Semiring}
use Rattle.algebra.specs.OperatorNames.{semiring_named}
use Rattle.bitmap.specs.Bitmaps.{Held, place_of}
use Rattle.lanes.specs.Bits.{has_bit}
use Rattle.model.specs.declared.entry.Entry.{Entry}
use Rattle.model.specs.Entries.{IsInside, row_entries, word_at}
use Rattle.model.specs.Object.{IsWithin, transposed_content}
use Rattle.model.specs.Product.{product}
use Rattle.store.specs.Stored.{Stored, content_of}
use Rattle.store.proofs.Content.{nothing_outside}
use Rattle.terms.specs.declared.term.Term.{Term}
use Rattle.spgemm.specs.Dense.{AreColumnSums, HaveRoom}
use Rattle.terms.specs.Terms.{apply, sum_at, terms_of_row}
use Rattle.spgemm.specs.Truths.{AreTruths, truth}
use Rattle.terms.proofs.Kept.{terms_inside}
use Rattle.spgemm.proofs.Product.{no_factor, no_product, row_product}
use Rattle.terms.proofs.Terms.{words_at-none}

-- ---- places behind the last column

no_sum : (op mul : BinaryOp) (row : List Entry) (b : Stored) (col : ℕ) → b.cols ≤ col
    → sum_at op col (terms_of_row mul row b) ≡ None
no_sum op mul row b col past =
    let terms = terms_of_row mul row b in
    ap (reduce (apply op)) (words_at-none col terms (All-weaker (λ t. t.col < b.cols) (λ t. t.col ≢ col) (λ t less is. absurd (omega arith)) terms (terms_inside mul row b)))

pub no_word : (bit : Bool) (word : ℕ) → cond bit (Some word) None ≡ None → bit ≡ false
no_word true word is = absurd (cc)
no_word false word is = refl

pub none_behind : (op mul : BinaryOp) (row : List Entry) (b : Stored) (bits words : List ℕ) → HaveRoom bits words
    → AreColumnSums op (terms_of_row mul row b) bits words → (at : ℕ) → b.cols ≤ at → has_bit bits at ≡ false
none_behind op mul row b bits words room here at past =
    elim (cases_lt at (length words)) [
      | inl inside ↦ no_word (has_bit bits at) (get_or words at 0) (here.sums_are at inside ∙ no_sum op mul row b at past)
      | inr behind ↦ rw (get_or_past bits (at / 64) 0 (omega arith), bit_at-zero (at % 64)) refl
    ]

-- ..over LOR
pub no_truth_behind : (op mul : BinaryOp) (row : List Entry) (b : Stored) (bits trues : List ℕ)
    → AreTruths op (terms_of_row mul row b) bits trues → (at : ℕ) → b.cols ≤ at → has_bit bits at ≡ false
no_truth_behind op mul row b bits trues here at past =
    elim (cases_lt at (64 * length bits)) [
      | inl inside ↦ no_word (has_bit bits at) (truth (has_bit trues at)) (here.sums_are at inside ∙ no_sum op mul row b at past)
      | inr behind ↦ rw (get_or_past bits (at / 64) 0 (omega arith), bit_at-zero (at % 64)) refl
    ]

-- the sums at the first columns
pub first_sums : (op : BinaryOp) (terms : List Term) (bits words : List ℕ) (n : ℕ) → n ≤ length words
    → AreColumnSums op terms bits words → AreColumnSums op terms bits (take n words)
first_sums op terms bits words n le here =
    let long = length-take-le n words le in
    record {
      sums_are = λ col within. ap (λ word. cond (has_bit bits col) (Some word) None) (get_or-take n words col 0 (omega arith)) ∙ here.sums_are col (omega arith);
    }

-- ---- the map

-- sums of a vector's products at each column, as the words of a column
pub record AreSumsDown (semiring : Semiring) (u : Held) (a : Stored) (made : Held)
    (bits words : List ℕ) : Type 0 where
  pub sums : AreColumnSums semiring.add.op (terms_of_row semiring.multiply (row_entries a.rows (transposed_content (word_at u.entries)) 0) a) bits words
  pub each : length words ≡ a.cols
  pub rows : made.rows ≡ a.cols
  pub cols : made.cols ≡ 1
  pub inside : IsInside made.rows made.cols made.entries
  pub words_are : (i j : ℕ) → i < a.cols → j < 1
      → word_at made.entries i j ≡ cond (has_bit bits (place_of 1 i j)) (Some (get_or words (place_of 1 i j) 0)) None

sum_down : (semiring : Semiring) (u : Held) (a : Stored) (made : Held) (bits words : List ℕ) (i : ℕ)
    → AreSumsDown semiring u a made bits words → IsWithin a.rows a.cols (content_of a) → i < a.cols
    → word_at made.entries i 0 ≡ product (semiring_named semiring) a.rows (transposed_content (word_at u.entries)) (content_of a) 0 i
sum_down semiring u a made bits words i h within less =
    let place : place_of 1 i 0 ≡ i = omega arith in
    let inside : i < length words = let each = h.each in omega arith in
    h.words_are i 0 less (omega arith) ∙ rw place (h.sums.sums_are i inside ∙ row_product semiring a.rows 0 i (transposed_content (word_at u.entries)) a within)

no_sum_outside : (semiring : Semiring) (u : Held) (a : Stored) (i j : ℕ) → u.cols ≡ 1
    → IsInside u.rows u.cols u.entries → IsWithin a.rows a.cols (content_of a) → (ltb i a.cols && ltb j 1) ≡ false
    → product (semiring_named semiring) a.rows (transposed_content (word_at u.entries)) (content_of a) j i ≡ None
no_sum_outside semiring u a i j column inside within out =
    let name = semiring_named semiring in
    no_product name a.rows (transposed_content (word_at u.entries)) (content_of a) j i (λ k.
    elim (cases_lt i a.cols) [
      | inl in_a ↦ rw (nothing_outside u.rows u.cols u.entries k j inside (grind (arith, nat_tests))) refl
      | inr past ↦ rw (within k i (grind (arith, nat_tests))) (no_factor name (word_at u.entries k j))
    ])

-- they are the product as the model defines it
pub product_down : (semiring : Semiring) (u : Held) (a : Stored) (made : Held) (bits words : List ℕ) (i j : ℕ)
    → AreSumsDown semiring u a made bits words → u.cols ≡ 1 → u.rows ≡ a.rows → IsInside u.rows u.cols u.entries
    → IsWithin a.rows a.cols (content_of a)
    → word_at made.entries i j ≡ product (semiring_named semiring) u.rows (transposed_content (word_at u.entries)) (content_of a) j i
product_down semiring u a made bits words i j h column inner inside within =
    rw inner (elim (cases_Bool (ltb i a.cols && ltb j 1)) [
      | inl here ↦
          let less : i < a.cols = grind (arith, nat_tests) in
          let first : j ≡ 0 = grind (arith, nat_tests) in
          rw first (sum_down semiring u a made bits words i h within less)
      | inr out ↦
          nothing_outside made.rows made.cols made.entries i j h.inside (rw (h.rows, h.cols) out)
          ∙ sym (no_sum_outside semiring u a i j column inside within out)
    ])
