-- What is made of the entries is made of the map.
use Rattle.std.proofs.Common.{◌≡◌, ◌∙◌, List, ap}
use Rattle.std.specs.Option.{option_map}
use Rattle.algebra.specs.Functions.{function_named, function_of}
use Rattle.model.specs.declared.entry.Entry.{Entry}
use Rattle.model.specs.Entries.{word_at}
use Rattle.store.specs.Fibers.{entries_in}
use Rattle.store.specs.Stored.{along, content_of}
use Rattle.store.proofs.RowEntries.{entries_between-inside}
use Rattle.elementwise.specs.Mapped.{mapped}
use Rattle.elementwise.proofs.MappedLaws.{along-mapped, mapped-in, word_at-mapped}
use Rattle.elementwise.proofs.apply.apply_rows.Goals as goal

pub of_fibers-requires-clause-inside : goal.of_fibers-requires-clause-inside
of_fibers-requires-clause-inside c =
    let a = c.args.a.now in
    let f = function_of (function_named c.args.function) in
    let es = c.fibers_in-fibers.result.entries in
    let is : along a.cols (entries_in c.in_ok-lists.lists) ≡ mapped f (along a.cols es) = ap (along a.cols) (rw c.cols-cols.ensures at c.in_ok-lists.ensures.entries) ∙ along-mapped a.cols f es in
    rw (c.cols-cols.ensures, is, c.fibers_in-fibers.ensures.entries) (mapped-in f c.args.range.start c.args.range.end a.cols _ (entries_between-inside c.args.range.start c.args.range.end a.cols (content_of a)))

pub returns-clause-words : goal.returns-clause-words
returns-clause-words c i j low high =
    let a = c.args.a.now in
    let f = function_of (function_named c.args.function) in
    let es = c.fibers_in-fibers.result.entries in
    let is : along a.cols (entries_in c.in_ok-lists.lists) ≡ mapped f (along a.cols es) = ap (along a.cols) (rw c.cols-cols.ensures at c.in_ok-lists.ensures.entries) ∙ along-mapped a.cols f es in
    ap (λ (es : List Entry). word_at es i j) ((rw c.cols-cols.ensures at c.of_fibers.ensures.entries) ∙ is)
    ∙ word_at-mapped f (along a.cols es) i j ∙ ap (option_map (f i j)) (c.fibers_in-fibers.ensures.words i j low high)
