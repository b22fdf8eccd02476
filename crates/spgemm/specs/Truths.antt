-- Sums that are true or false, as bits.
use Rattle.std.specs.Prelude.{ℕ, ◌≡◌, ◌<◌, ◌*◌, if◌then◌else◌, Bool, false, List, length, Option, None, Some}
use Rattle.algebra.specs.declared.binary.BinaryOp.{BinaryOp}
use Rattle.lanes.specs.Bits.{has_bit}
use Rattle.terms.specs.declared.term.Term.{Term}
use Rattle.terms.specs.Terms.{sum_at}

-- the word of a truth value
abbrev pub truth : Bool → ℕ
truth is = if is then 1 else 0

-- the truth value at a place whose bit is set
abbrev pub truth_in : List ℕ → List ℕ → ℕ → Option ℕ
truth_in bits trues at = if has_bit bits at then Some (truth (has_bit trues at)) else None

-- at each place stands whether the sum of the terms at that column is true; where there is none, it isn't
pub record AreTruths (op : BinaryOp) (terms : List Term) (bits trues : List ℕ) : Type 0 where
  pub sums_are : (col : ℕ) → col < 64 * length bits → truth_in bits trues col ≡ sum_at op col terms
  pub others_are : (col : ℕ) → has_bit bits col ≡ false → has_bit trues col ≡ false
