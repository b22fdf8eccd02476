use Rattle.std.proofs.Common.{◌≡◌, ◌+◌, ◌++◌, length, take}
use Rattle.store.specs.Fibers.{entries_along}
use Rattle.terms.specs.Terms.{times_row}
use Rattle.terms.proofs.products.write_all.Given as goal

abbrev pub invariant-loop-k : goal.invariant-loop-k
invariant-loop-k l = record {
  length_is : length l.terms ≡ length l.initial.terms;
  terms : take (l.start + l.k) l.terms ≡ take l.start l.initial.terms ++ times_row l.multiply l.word (take l.k (entries_along 0 l.cols l.words));
}
