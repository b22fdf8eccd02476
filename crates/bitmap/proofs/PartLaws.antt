-- Parts of lists of words and of bits.
use Rattle.std.proofs.Common.{◌≡◌, ℕ, ◌+◌, ◌-◌, ◌*◌, ◌/◌, ◌%◌, ◌<◌, ◌≤◌, List, length, take, drop, get_or, eqb, refl, ◌∙◌, ap, arith}
use Rattle.std.specs.Int.{bit_at}
use Rattle.std.proofs.lemmas.List.{get_or-drop, length-drop, length-take, take_all}
use Rattle.algebra.specs.declared.domain.Domain.{Domain}
use Rattle.algebra.specs.declared.kinds.BinaryKind.{BinaryKind}
use Rattle.lanes.specs.Bits.{has_bit, united_at}
use Rattle.lanes.specs.Lists.{zip_with}
use Rattle.lanes.proofs.PartLaws.{part_word}
use Rattle.bitmap.proofs.KernelLaws.{get_or-zip_with}

pub rest_is : (xs : List ℕ) (n : ℕ) → take (length xs - n) (drop n xs) ≡ drop n xs
rest_is xs n = take_all (length xs - n) (drop n xs) (omega (arith, length-drop n xs))

has_bit-drop : (bits : List ℕ) (n k : ℕ) → has_bit (drop n bits) k ≡ has_bit bits (64 * n + k)
has_bit-drop bits n k =
    let word : n + k / 64 ≡ (64 * n + k) / 64 = omega arith in
    let place : k % 64 ≡ (64 * n + k) % 64 = omega arith in
    ap (λ w. eqb (bit_at w (k % 64)) 1) (get_or-drop n bits (k / 64) 0)
    ∙ ap (λ i. eqb (bit_at (get_or bits i 0) (k % 64)) 1) word
    ∙ ap (λ i. eqb (bit_at (get_or bits ((64 * n + k) / 64) 0) i) 1) place

-- words of both lists, from a place on
pub zipped_part : (f : ℕ → ℕ → ℕ) (xs ys : List ℕ) (from n k : ℕ) → length ys ≡ length xs → k < n
    → from + n ≤ length xs
    → get_or (zip_with f (take n (drop from xs)) (take n (drop from ys))) k 0 ≡ f (get_or xs (from + k) 0) (get_or ys (from + k) 0)
zipped_part f xs ys from n k same inside fits =
    let long = length-take n (drop from xs) in
    let rest = length-drop from xs in
    let long' = length-take n (drop from ys) in
    let rest' = length-drop from ys in
    get_or-zip_with f (take n (drop from xs)) (take n (drop from ys)) k (omega arith) (omega arith)
    ∙ rw (part_word xs from n k inside, part_word ys from n k inside) refl

-- what a union has, from a place on that is the first of a word of bits
pub united_part : (kind : BinaryKind) (d : Domain) (left right a b : List ℕ) (from n k : ℕ) → from % 64 ≡ 0 → k < n
    → united_at kind d (has_bit (take (length left - from / 64) (drop (from / 64) left)) k)
    (has_bit (take (length right - from / 64) (drop (from / 64) right)) k) (get_or (take n (drop from a)) k 0)
    (get_or (take n (drop from b)) k 0)
    ≡ united_at kind d (has_bit left (from + k)) (has_bit right (from + k)) (get_or a (from + k) 0)
    (get_or b (from + k) 0)
united_part kind d left right a b from n k whole inside =
    let start : 64 * (from / 64) ≡ from = omega arith in
    rw (rest_is left (from / 64), rest_is right (from / 64), has_bit-drop left (from / 64) k, has_bit-drop right (from / 64) k, start, part_word a from n k inside, part_word b from n k inside) refl
