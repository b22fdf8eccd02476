use Rattle.std.proofs.Common.{◌≡◌, ◌+◌, ◌≤◌, ◌++◌, length, take}
use Rattle.store.specs.Fibers.{entries_along}
use Rattle.terms.specs.Marked.{keeps_marked}
use Rattle.terms.specs.Terms.{kept_terms, times_row}
use Rattle.terms.proofs.products.write_kept.Given as goal

abbrev pub invariant-loop-k : goal.invariant-loop-k
invariant-loop-k l = record {
  length_is : length l.terms ≡ length l.initial.terms;
  high : l.end ≤ l.start + l.k;
  terms : take l.end l.terms ≡ take l.start l.initial.terms ++ kept_terms (keeps_marked l.mask) (times_row l.multiply l.word (take l.k (entries_along 0 l.cols l.words)));
}
