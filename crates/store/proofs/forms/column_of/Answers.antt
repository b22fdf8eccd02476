-- Rows and words in order are the lists of a column.
use Rattle.std.proofs.Common.{◌≡◌, ◌∙◌, sym, subst}
use Rattle.model.specs.Entries.{InOrder, IsInside}
use Rattle.store.specs.Fibers.{entries_from, last_end}
use Rattle.store.specs.Stored.{along}
use Rattle.store.specs.Walks.{entries_down}
use Rattle.store.proofs.FormLaws.{column_listed}
use Rattle.store.proofs.forms.column_of.Goals as goal

pub invariant_of-result : goal.invariant_of-result
unfolding last_end
invariant_of-result c =
    let bitmap = c.args.bitmap.now in
    let is = c.in_ok-inner.ensures in
    let order : InOrder (entries_down c.in_ok-inner.inner.items c.in_ok-inner.words.items) = subst InOrder (sym is.entries) c.rows-rows.ensures.order in
    let inside : IsInside c.rows-rows.result 1 (entries_down c.in_ok-inner.inner.items c.in_ok-inner.words.items) =
    rw (is.entries, c.rows-rows.ensures.rows) (rw c.requires at c.rows-rows.ensures.inside) in
    rw (c.close.ensures.inner, c.close.ensures.words)
    (column_listed c.rows-rows.result c.close.new.self.ends.items c.in_ok-inner.inner.items c.in_ok-inner.words.items is.lengths (rw c.new-ends.ensures.items at c.in_ok-close.ensures.ends) order inside).0

pub returns : goal.returns
unfolding last_end
returns c =
    let bitmap = c.args.bitmap.now in
    let is = c.in_ok-inner.ensures in
    let order : InOrder (entries_down c.in_ok-inner.inner.items c.in_ok-inner.words.items) = subst InOrder (sym is.entries) c.rows-rows.ensures.order in
    let inside : IsInside c.rows-rows.result 1 (entries_down c.in_ok-inner.inner.items c.in_ok-inner.words.items) =
    rw (is.entries, c.rows-rows.ensures.rows) (rw c.requires at c.rows-rows.ensures.inside) in
    let listed = column_listed c.rows-rows.result c.close.new.self.ends.items c.in_ok-inner.inner.items c.in_ok-inner.words.items is.lengths (rw c.new-ends.ensures.items at c.in_ok-close.ensures.ends) order inside in
    let entries : along 1 (entries_from 0 c.close.new.self.ends.items c.close.new.self.inner.items c.close.new.self.words.items) ≡ bitmap.entries = rw (c.close.ensures.inner, c.close.ensures.words) (listed.1 ∙ is.entries) in
    let rows = c.rows-rows.ensures.rows in
    let cols = sym c.requires in
    λ k. record { rows = rows k; cols = cols k; entries = entries k }
