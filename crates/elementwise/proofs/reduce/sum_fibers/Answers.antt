-- The sums are a column.
use Rattle.std.proofs.Common.{◌≡◌, ◌∙◌, ◌<◌, ◌≤◌, ◌∷◌, [], None, Option, ℕ, cond, eqb, true, false, length, ap, refl, rules, arith}
use Rattle.std.proofs.lemmas.Bool.Decides.{nat_tests}
use Rattle.std.proofs.lemmas.List.Elements.{All-nil}
use Rattle.model.specs.declared.entry.Entry.{Entry}
use Rattle.model.specs.Entries.{word_at}
use Rattle.store.specs.Fibers.{entries_in}
use Rattle.store.specs.Stored.{transposed}
use Rattle.store.proofs.Contents.{no_entries}
use Rattle.store.proofs.FlatLaws.{flat_none}
use Rattle.store.proofs.Walks.{no_lines}
use Rattle.elementwise.specs.Sums.{row_sum}
use Rattle.elementwise.proofs.SumLaws.{IsSumColumn, sum_column}
use Rattle.elementwise.proofs.reduce.sum_fibers.Goals as goal
use Rattle.elementwise.proofs.reduce.sum_fibers.Goals.{In_ok-close, After-new}

pub returns-then-is_empty-clause-flat : goal.returns-then-is_empty-clause-flat
returns-then-is_empty-clause-flat c = rw (c.new.ensures.ends, c.new.ensures.inner, c.new.ensures.words) flat_none

none_made : (c : After-new) → entries_in c.new.result ≡ []
none_made c = no_entries 0 c.new.result.ends.items c.new.result.inner.items c.new.result.words.items c.new.ensures.ends

pub returns-then-is_empty-clause-inside : goal.returns-then-is_empty-clause-inside
returns-then-is_empty-clause-inside c first past all = rw (none_made (search rules)) (All-nil (λ (e : Entry). ((first ≤ e.row) × (e.row < past)) × (e.col < 1)))

pub returns-then-is_empty-clause-sums : goal.returns-then-is_empty-clause-sums
unfolding word_at
returns-then-is_empty-clause-sums c i j =
    let f = c.flat-flat.result in
    let none : length f.inner.now ≡ 0 = grind (arith, nat_tests) in
    let nothing : Option ℕ = None in
    let is : row_sum c.args.monoid i c.args.fibers.now.entries ≡ nothing = ap (row_sum c.args.monoid i) (c.flat-flat.ensures.entries ∙ no_lines f.from (f.head ∷ f.others.now) f.inner.now f.words.now none) in
    ap (λ es. word_at (transposed es) i j) (none_made (search rules)) ∙ rw is (elim (eqb j 0) as (λ b. nothing ≡ cond b nothing nothing) [ true ↦ refl | false ↦ refl ])

made : (c : In_ok-close)
    → IsSumColumn c.args.monoid c.args.fibers.now.entries c.close.new.self.ends.items c.close.new.self.inner.items c.close.new.self.words.items
made c =
    let f = c.flat-flat.result in
    let left = c.flat-flat.ensures.left in
    let some : 0 < length f.inner.now = grind (arith, nat_tests) in
    rw (c.flat-flat.ensures.entries, c.close.ensures.inner, c.close.ensures.words)
    (sum_column c.args.monoid f.from (f.head ∷ f.others.now) f.inner.now f.words.now c.close.new.self.ends.items c.in_ok-inner.inner.items c.in_ok-inner.words.items
    (record { same_length = left.same_length; rises = left.rises some; whole = left.whole some; apart = left.apart })
    c.in_ok-inner.ensures.rows c.in_ok-inner.ensures.sums (rw c.new-ends.ensures.items at c.in_ok-close.ensures.ends))

pub returns-clause-flat : goal.returns-clause-flat
returns-clause-flat c = (made (search rules)).flat

pub returns-clause-inside : goal.returns-clause-inside
returns-clause-inside c = (made (search rules)).inside

pub returns-clause-sums : goal.returns-clause-sums
returns-clause-sums c = (made (search rules)).words
