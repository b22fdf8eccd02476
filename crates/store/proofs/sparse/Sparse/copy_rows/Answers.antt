-- Entries of some rows stand in them.
use Rattle.std.proofs.Common.{◌≡◌, ◌∙◌, ap, subst, sym, List}
use Rattle.model.specs.declared.entry.Entry.{Entry}
use Rattle.model.specs.Entries.{entries_between}
use Rattle.store.specs.Fibers.{entries_in}
use Rattle.store.specs.Stored.{along, AreIn, content_of}
use Rattle.store.proofs.RowEntries.{entries_between-inside}
use Rattle.store.proofs.sparse.Sparse.copy_rows.Goals as goal

pub of_fibers-requires-clause-inside : goal.of_fibers-requires-clause-inside
of_fibers-requires-clause-inside c =
    let cols = c.self.inside.cols in
    let same : cols ≡ c.args.self.now.cols = ap (λ s. s.cols) c.self.view_is in
    let is : along cols (entries_in c.in_ok-lists.lists) ≡ entries_between c.args.range.start c.args.range.end cols (content_of c.args.self.now) = ap (λ (es : List Entry). along cols es) c.in_ok-lists.ensures.entries ∙ rw same c.fibers_in.ensures.entries in
    subst (AreIn c.args.range.start c.args.range.end cols) (sym is) (entries_between-inside c.args.range.start c.args.range.end cols (content_of c.args.self.now))
