-- What passes of the entries passes of the map.
use Rattle.std.proofs.Common.{◌≡◌, ◌∙◌, ◌≤◌, ◌<◌, List, ap}
use Rattle.std.specs.List.{filter}
use Rattle.std.specs.Option.{option_and_then}
use Rattle.std.proofs.Common.{cond, Some, None}
use Rattle.std.proofs.lemmas.List.Elements.{All-filter}
use Rattle.model.specs.declared.entry.Entry.{Entry}
use Rattle.model.specs.Entries.{entries_between, word_at}
use Rattle.store.specs.Fibers.{entries_in}
use Rattle.store.specs.Stored.{along, content_of}
use Rattle.store.proofs.RowEntries.{entries_between-inside}
use Rattle.elementwise.specs.Tests.{passes_by}
use Rattle.elementwise.proofs.SelectLaws.{along-filter, word_at-filter}
use Rattle.elementwise.proofs.select.select_rows.Goals as goal

pub of_fibers-requires-clause-inside : goal.of_fibers-requires-clause-inside
of_fibers-requires-clause-inside c =
    let a = c.args.a.now in
    let first = c.args.range.start in
    let past = c.args.range.end in
    let test = passes_by c.args.op c.args.s in
    let es = c.fibers_in-fibers.result.entries in
    let is : along a.cols (entries_in c.in_ok-lists.lists) ≡ filter (λ (e : Entry). test e.row e.col e.word) (along a.cols es) = ap (along a.cols) (rw c.cols-cols.ensures at c.in_ok-lists.ensures.entries) ∙ along-filter a.cols test es in
    rw (c.cols-cols.ensures, is, c.fibers_in-fibers.ensures.entries) (All-filter (λ (e : Entry). test e.row e.col e.word) (λ (e : Entry). ((first ≤ e.row) × (e.row < past)) × (e.col < a.cols)) (entries_between first past a.cols (content_of a)) (entries_between-inside first past a.cols (content_of a)))

pub returns-clause-words : goal.returns-clause-words
returns-clause-words c i j low high =
    let a = c.args.a.now in
    let test = passes_by c.args.op c.args.s in
    let es = c.fibers_in-fibers.result.entries in
    let is : along a.cols (entries_in c.in_ok-lists.lists) ≡ filter (λ (e : Entry). test e.row e.col e.word) (along a.cols es) = ap (along a.cols) (rw c.cols-cols.ensures at c.in_ok-lists.ensures.entries) ∙ along-filter a.cols test es in
    ap (λ (es : List Entry). word_at es i j) ((rw c.cols-cols.ensures at c.of_fibers.ensures.entries) ∙ is)
    ∙ word_at-filter test (along a.cols es) i j c.fibers_in-fibers.ensures.order
    ∙ ap (option_and_then (λ word. cond (test i j word) (Some word) None)) (c.fibers_in-fibers.ensures.words i j low high)
