-- Lists of numbers.
use Rattle.std.specs.Prelude.{ℕ, zero, suc, ◌≡◌, ◌≤◌, ◌<◌, ◌++◌, ◌∷◌, ◌==◌, List, [], Bool}
use Rattle.std.specs.Prelude.{Option, Some, None, false, if◌then◌else◌, length, slice_get}
use Rattle.std.specs.List.{list_any}

-- the numbers below n that pass, rising
abbrev pub numbers : (ℕ → Bool) → ℕ → List ℕ
numbers p zero = []
numbers p (suc n) = numbers p n ++ (if p n then n ∷ [] else [])

-- whether a number is in a list
abbrev pub has : ℕ → List ℕ → Bool
has k ns = list_any (λ n. n == k) ns

-- ..in one that is there
abbrev pub has_in : ℕ → Option (List ℕ) → Bool
has_in k None = false
has_in k (Some ns) = has k ns

-- the place of a number in a list that rises: those from there on are as large, and the one before is below it
pub record IsPlace (ns : List ℕ) (number place : ℕ) : Type 0 where
  pub within : place ≤ length ns
  pub above : (m k : ℕ) → place ≤ m → slice_get ns m ≡ Some k → number ≤ k
  pub below : (m k : ℕ) → suc m ≡ place → slice_get ns m ≡ Some k → k < number
