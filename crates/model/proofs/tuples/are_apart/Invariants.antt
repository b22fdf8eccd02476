use Rattle.std.proofs.Common.{◌≡◌, ◌∷◌, drop}
use Rattle.std.specs.List.{AllPairs}
use Rattle.model.specs.Builds.{are_apart}
use Rattle.model.specs.Entries.{IsNotBehind}
use Rattle.model.proofs.tuples.are_apart.Given as goal

abbrev pub invariant-loop-entry : goal.invariant-loop-entry
invariant-loop-entry l = record {
  order : AllPairs IsNotBehind (l.last ∷ drop l.entry-index l.rest);
  same : are_apart (l.last ∷ drop l.entry-index l.rest) ≡ are_apart l.sorted;
}
