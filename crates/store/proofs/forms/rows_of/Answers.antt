use Rattle.std.proofs.Common.{◌≡◌, ◌∙◌, ◌<◌, ◌≤◌, [], ap, arith, eqb, false, refl, rules, sym, ℕ}
use Rattle.std.proofs.lemmas.Bool.{ne_eqb}
use Rattle.std.specs.List.{flat_map}
use Rattle.std.proofs.lemmas.List.Elements.{All-nil, All-weaker}
use Rattle.model.specs.declared.entry.Entry.{Entry}
use Rattle.model.specs.Entries.{count_from, entries_of, row_entries, word_at}
use Rattle.store.specs.declared.lists.FiberEnd.{FiberEnd}
use Rattle.store.specs.Fibers.{entries_in}
use Rattle.store.specs.Stored.{along}
use Rattle.store.proofs.Content.{entries_of-words}
use Rattle.store.proofs.Contents.{by_rows, no_entries}
use Rattle.store.proofs.FlatLaws.{flat_none}
use Rattle.store.proofs.RowPuts.{next_row}
use Rattle.store.proofs.forms.rows_of.Goals as goal
use Rattle.store.proofs.forms.rows_of.Goals.{After-loop-i}

pub loop-i-init : goal.loop-i-init
unfolding count_from
loop-i-init c = rw (c.in_ok-lists.ensures.ends, c.in_ok-lists.ensures.inner, c.in_ok-lists.ensures.words) (record {
  flat = flat_none;
  entries = no_entries 0 [] [] [] refl;
  below = All-nil (λ (r : FiberEnd). r.outer < 0);
})

pub loop-i-preserved : goal.loop-i-preserved
loop-i-preserved c =
    let s = c.loop-i in
    let made = c.in_ok-append_row.ensures in
    rw (made.ends, made.inner, made.words)
    (next_row c.args.bitmap.now.cols (word_at c.args.bitmap.now.entries) s.i s.lists.ends.items s.lists.inner.items s.lists.words.items s.invariant)

-- all rows are there, and so all entries
all_there : (c : After-loop-i) → entries_in c.loop-i.lists ≡ c.args.bitmap.now.entries
unfolding entries_of
all_there c =
    let s = c.loop-i in
    let b = c.args.bitmap.now in
    let end : s.i ≡ b.rows = omega (arith, c.loop-i-test.false, c.rows-rows.ensures.rows) in
    s.invariant.entries ∙ ap (λ (n : ℕ). flat_map (row_entries b.cols (word_at b.entries)) (count_from 0 n)) end
    ∙ entries_of-words b.rows b.cols b.entries c.rows-rows.ensures.order c.rows-rows.ensures.inside

many : (c : After-loop-i) → eqb c.cols-cols.result 1 ≡ false
many c = ne_eqb c.cols-cols.result 1 (λ one. c.requires (sym c.cols-cols.ensures ∙ one))

pub invariant_of-result : goal.invariant_of-result
invariant_of-result c =
    let b = c.args.bitmap.now in
    let rows : c.rows-rows.result ≡ b.rows = c.rows-rows.ensures.rows in
    let cols : c.cols-cols.result ≡ b.cols = c.cols-cols.ensures in
    let es : along c.cols-cols.result (entries_in c.loop-i.lists) ≡ b.entries = by_rows c.cols-cols.result (entries_in c.loop-i.lists) (many (search rules)) ∙ all_there (search rules) in
    record {
      flat = c.loop-i.invariant.flat;
      inside = rw (es, rows, cols) (All-weaker (λ (e : Entry). (e.row < b.rows) × (e.col < b.cols)) (λ (e : Entry). ((0 ≤ e.row) × (e.row < b.rows)) × (e.col < b.cols)) (λ e p. ((omega arith, p.0), p.1)) b.entries c.rows-rows.ensures.inside);
    }

pub returns : goal.returns
returns c =
    let entries = by_rows c.cols-cols.result (entries_in c.loop-i.lists) (many (search rules)) ∙ all_there (search rules) in
    let rows = c.rows-rows.ensures.rows in
    let cols = c.cols-cols.ensures in
    λ k. record { rows = rows k; cols = cols k; entries = entries k }
