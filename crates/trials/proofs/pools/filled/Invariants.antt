-- The store is one of the large matrix.
use Rattle.algebra.specs.declared.domain.Domain.TheVariants.{Int64}
use Rattle.calls.specs.Stores.{IsStoreOf}
use Rattle.model.specs.declared.shape.Shape.TheVariants.{Two}
use Rattle.trials.proofs.pools.filled.Given as goal

abbrev pub invariant-loop-row : goal.invariant-loop-row
invariant-loop-row l = IsStoreOf (record { domain = Int64; shape = Two 402000 1000 }) l.store
