use Rattle.std.proofs.Common.{◌≡◌, ◌-◌, ◌≤◌, length, take}
use Rattle.store.specs.Fibers.{entries_along}
use Rattle.terms.specs.Marked.{lets_marked}
use Rattle.terms.specs.Terms.{kept_terms, terms_of_row}
use Rattle.terms.proofs.products.append_rows.Given as goal

abbrev pub invariant-loop-listed : goal.invariant-loop-listed
invariant-loop-listed l = record {
  terms : take l.end l.terms.items ≡ kept_terms (lets_marked l.mask) (terms_of_row l.semiring.multiply (take l.listed.done (entries_along l.row.index l.row.cols.now l.row.words.now)) l.b);
  room : l.end ≤ length l.terms.items;
  low : l.fn.listed.done ≤ l.listed.done;
  high : l.listed.done ≤ l.past;
  more : l.listed.done ≤ l.fn.listed.done → l.listed.products ≡ l.fn.listed.products;
}

abbrev pub decreases-loop-listed : goal.decreases-loop-listed
decreases-loop-listed l = l.past - l.listed.done
