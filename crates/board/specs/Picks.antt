-- Where a slot that can be taken stands.
use Rattle.std.specs.Prelude.{ℕ, ◌≡◌, ◌||◌, true, Bool, Some, slice_get}
use Rattle.stages.specs.Numbers.{numbers}
use Rattle.board.specs.declared.picking.Picked.{Picked}
use Rattle.board.specs.declared.picking.Picked.TheVariants.{Ready, Open}

-- where the number at a place among those that pass one of two tests stands among those that pass each
abbrev pub IsPicked : (ℕ → Bool) → (ℕ → Bool) → ℕ → ℕ → Picked → Type 0
IsPicked p q n place (Ready at) = (k : ℕ) × (slice_get (numbers p n) at ≡ Some k)
    × (slice_get (numbers (λ j. p j || q j) n) place ≡ Some k)
IsPicked p q n place (Open k) = (q k ≡ true) × (slice_get (numbers (λ j. p j || q j) n) place ≡ Some k)
