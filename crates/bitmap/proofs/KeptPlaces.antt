-- An entry set or removed leaves a word and a bit for each position, and their count.
use mir.Val.{bool_byte}
use Rattle.std.proofs.Common.{◌≡◌, ℕ, ◌^◌, ◌+◌, ◌-◌, ◌*◌, ◌/◌, ◌<◌, ◌≤◌, true, false, not, Bool, eqb, List, length, replicate, sym, ◌∙◌, ap, arith}
use Rattle.std.proofs.Math.Bool.{and-false}
use Rattle.std.proofs.lemmas.Bool.{ne_eqb}
use Rattle.std.proofs.lemmas.List.{length-replicate, length-set}
use Rattle.lanes.specs.Bits.{has_bit}
use Rattle.bitmap.specs.Bitmaps.{HasPlaces, held, place_of}
use Rattle.bitmap.proofs.CountLaws.{count_none, count_removed, count_set, entries_most, one_most}
use Rattle.bitmap.proofs.PlaceLaws.{IsCleared, IsSet, no_bit}

pub places_none : (rows cols : ℕ) (bits words : List ℕ) → rows * cols ≤ 2 ^ 24
    → words ≡ replicate (rows * cols) 0 → bits ≡ replicate (rows * cols / 64 + 1) 0 → HasPlaces rows cols 0 bits words
places_none rows cols bits words few words_are bits_are =
    let n = rows * cols / 64 + 1 in
    let long = ap length words_are ∙ length-replicate (rows * cols) 0 in
    let bits_long = ap length bits_are ∙ length-replicate n 0 in
    record {
      small = few;
      word_each = long;
      bit_each = rw long bits_long;
      none_behind = λ at past. rw bits_are (no_bit n at);
      counted = rw bits_are (sym (count_none rows cols n words));
    }

pub byte_most : (b : Bool) → bool_byte b ≤ 1
byte_most true = omega arith
byte_most false = omega arith

-- a count is small
pub few : (rows cols count : ℕ) (bits words : List ℕ) → HasPlaces rows cols count bits words → count ≤ 2 ^ 24
few rows cols count bits words h =
    let most = entries_most rows cols (held cols bits words) in
    let is = h.counted in
    let small = h.small in
    omega arith

pub places_set : (rows cols count i j word : ℕ) (bits words bits' words' : List ℕ)
    → HasPlaces rows cols count bits words → i < rows → j < cols
    → IsSet (place_of cols i j) word bits words bits' words' → length bits' ≡ length bits
    → HasPlaces rows cols (count + bool_byte (not (has_bit bits (place_of cols i j)))) bits' words'
places_set rows cols count i j word bits words bits' words' h row col put long =
    let at = place_of cols i j in
    let same : length words' ≡ length words = ap length put.words_are ∙ length-set words at word in
    record {
      small = h.small;
      word_each = same ∙ h.word_each;
      bit_each = long ∙ h.bit_each ∙ ap (λ n. n / 64 + 1) (sym same);
      none_behind = λ k past.
          let within = put.within in
          put.bits_are k ∙ rw (ne_eqb k at (λ e. absurd (omega arith))) (h.none_behind k (omega arith));
      counted = ap (λ n. n + bool_byte (not (has_bit bits at))) h.counted ∙ sym (count_set rows cols i j word bits words bits' words' row col put);
    }

pub places_removed : (rows cols count i j : ℕ) (bits words bits' : List ℕ)
    → HasPlaces rows cols count bits words → i < rows → j < cols
    → IsCleared (place_of cols i j) bits bits' → length bits' ≡ length bits
    → HasPlaces rows cols (count - bool_byte (has_bit bits (place_of cols i j))) bits' words
places_removed rows cols count i j bits words bits' h row col gone long =
    let at = place_of cols i j in
    record {
      small = h.small;
      word_each = h.word_each;
      bit_each = long ∙ h.bit_each;
      none_behind = λ k past. gone k ∙ rw (h.none_behind k past) (and-false (not (eqb k at)));
      counted =
          let less = count_removed rows cols i j bits words bits' row col gone in
          let is = h.counted in
          omega arith;
    }

-- what goes away was counted
pub was_counted : (rows cols count i j : ℕ) (bits words : List ℕ) → HasPlaces rows cols count bits words
    → i < rows → j < cols → bool_byte (has_bit bits (place_of cols i j)) ≤ count
was_counted rows cols count i j bits words h row col =
    let most = one_most rows cols i j bits words row col in
    let is = h.counted in
    omega arith
