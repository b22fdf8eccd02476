-- Parts of lists, and words of bits that are put in their places.
use Rattle.std.proofs.Common.{◌≡◌, ℕ, ◌*◌, ◌+◌, ◌-◌, ◌/◌, ◌%◌, ◌<◌, ◌≤◌, eqb, set, take, drop, Bool, List, get_or, length, ◌∙◌, ap, inl, inr, arith}
use Rattle.std.specs.Int.{bit_at}
use Rattle.std.proofs.lemmas.Bool.{cases_eq}
use Rattle.std.proofs.lemmas.List.{get_or-drop, get_or-set_other, get_or-set_same, get_or-take, length-drop, length-take}
use Rattle.lanes.specs.Bits.{has_bit}

pub part_long : (xs : List ℕ) (from past : ℕ) → past ≤ length xs → length (take (past - from) (drop from xs)) ≡ past - from
part_long xs from past inside = length-take (past - from) (drop from xs) ∙ omega (arith, length-drop from xs)

pub part_word : (xs : List ℕ) (from n k : ℕ) → k < n → get_or (take n (drop from xs)) k 0 ≡ get_or xs (from + k) 0
part_word xs from n k inside = get_or-take n (drop from xs) k 0 inside ∙ get_or-drop from xs k 0

-- a word of bits that is put in its place
pub marked : (bits : List ℕ) (at word : ℕ) (f : ℕ → Bool) (m : ℕ) → at < length bits → m ≤ 64
    → ((k : ℕ) → k < 64 * at → has_bit bits k ≡ f k)
    → ((k : ℕ) → k < m → eqb (bit_at word k) 1 ≡ f (64 * at + k))
    → (k : ℕ) → k < 64 * at + m → has_bit (set bits at word) k ≡ f k
marked bits at word f m inside few done here k below =
    elim (cases_eq (k / 64) at) [
      | inl same ↦
          let place : 64 * at + k % 64 ≡ k = omega arith in
          let low : k % 64 < m = omega arith in
          ap (λ i. eqb (bit_at (get_or (set bits at word) i 0) (k % 64)) 1) same
          ∙ ap (λ w. eqb (bit_at w (k % 64)) 1) (get_or-set_same bits at word 0 inside)
          ∙ here (k % 64) low ∙ ap f place
      | inr other ↦
          ap (λ w. eqb (bit_at w (k % 64)) 1) (get_or-set_other bits at (k / 64) word 0 other)
          ∙ done k (omega (arith, other))
    ]
