use Rattle.std.proofs.Common.{◌≡◌, ◌-◌, ◌≤◌, length, take}
use Rattle.store.specs.Fibers.{entries_along}
use Rattle.terms.specs.Marked.{lets_marked}
use Rattle.terms.specs.Terms.{kept_terms, terms_of_row}
use Rattle.terms.proofs.products.expand_by.Given as goal

abbrev pub invariant-loop-listed : goal.invariant-loop-listed
invariant-loop-listed l = record {
  terms : l.terms.items ≡ kept_terms (lets_marked l.mask) (terms_of_row l.semiring.multiply (take l.listed.done (entries_along l.row.index l.row.cols.now l.row.words.now)) l.b);
  bound : l.listed.done ≤ length l.row.cols.now;
}

abbrev pub decreases-loop-listed : goal.decreases-loop-listed
decreases-loop-listed l = length l.row.cols.now - l.listed.done
