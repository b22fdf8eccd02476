-- Sums of a row that have a place for each column, and bits that say where there is one.
use Rattle.std.specs.Prelude.{ℕ, ◌≡◌, ◌<◌, ◌-◌, ◌*◌, ◌==◌, if◌then◌else◌, Bool, List, length, slice_index}
use Rattle.std.specs.Prelude.{Option, None, Some, false, slice_index_or}
use Rattle.std.specs.Int.{bit_at}
use Rattle.std.specs.Option.{option_map}
use Rattle.std.specs.List.{filter_map}
use Rattle.lanes.specs.Bits.{has_bit}
use Rattle.algebra.specs.Monoids.{identity_of}
use Rattle.algebra.specs.declared.binary.BinaryOp.{BinaryOp}
use Rattle.algebra.specs.declared.monoid.Monoid.{Monoid}
use Rattle.model.specs.Entries.{count_from}
use Rattle.terms.specs.declared.term.Term.{Term}
use Rattle.terms.specs.Terms.{sum_at, term_at}

-- the word at a place whose bit is set
abbrev pub word_in : List ℕ → List ℕ → ℕ → Option ℕ
word_in bits words at = if has_bit bits at then Some (slice_index words at) else None

-- the word at a place, by the word of bits of 64 places that begin at base
abbrev pub word_by : ℕ → ℕ → List ℕ → ℕ → Option ℕ
word_by bits base words at = if bit_at bits (at - base) == 1 then Some (slice_index words at) else None

-- at each place stands the sum of the terms at that column
pub record AreColumnSums (op : BinaryOp) (terms : List Term) (bits words : List ℕ) : Type 0 where
  pub sums_are : (col : ℕ) → col < length words → word_in bits words col ≡ sum_at op col terms

-- the word at a place that is marked
abbrev pub word_marked : List Bool → List ℕ → ℕ → Option ℕ
word_marked marks words at = if slice_index_or marks at false then Some (slice_index words at) else None

-- at each place that is marked stands the sum of the terms at that column, and at each other one the identity
pub record AreMarkedSums (add : Monoid) (terms : List Term) (marks : List Bool) (words : List ℕ) : Type 0 where
  pub sums_are : (col : ℕ) → col < length words → word_marked marks words col ≡ sum_at add.op col terms
  pub others_are : (col : ℕ) → col < length words → slice_index_or marks col false ≡ false
      → slice_index words col ≡ identity_of add.kind add.op.domain

-- 64 words for each word of bits
abbrev pub HaveRoom : List ℕ → List ℕ → Type 0
HaveRoom bits words = length words ≡ 64 * length bits

-- no bit is set
abbrev pub AreClear : List ℕ → Type 0
AreClear bits = (at : ℕ) → slice_index bits at ≡ 0

-- what a function has at n places from first on, each at its place
abbrev pub found : (ℕ → Option ℕ) → ℕ → ℕ → List Term
found f first n = filter_map (λ at. option_map (term_at at) (f at)) (count_from first n)
