-- What is kept lies where it lay.
use Rattle.std.proofs.Common.{◌≡◌, ◌∙◌, ap, refl}
use Rattle.model.specs.Entries.{word_at}
use Rattle.store.specs.Fibers.{entries_in}
use Rattle.store.specs.Stored.{along, content_of}
use Rattle.masks.specs.Keeps.{kept_by}
use Rattle.masks.proofs.BlockLaws.{kept_along, kept_in}
use Rattle.masks.proofs.blocks.keep_listed.Goals as goal

pub of_fibers-requires-clause-inside : goal.of_fibers-requires-clause-inside
of_fibers-requires-clause-inside c =
    let b = c.args.block in
    rw (c.first-first.ensures, c.past-past.ensures, c.cols-cols.ensures, c.keep_entries-lists.ensures.entries)
    (kept_in c.args.test b.first b.past b.cols c.fibers_in.result.entries (entries_in c.into_lists.result) (rw c.into_lists.ensures.entries c.into_lists.ensures.inside))

pub returns-clause-words : goal.returns-clause-words
returns-clause-words c i j low high =
    let b = c.args.block in
    let test = c.args.test in
    let stored = c.fibers_in.result.entries in
    let there : word_at (along b.cols stored) i j ≡ content_of c.args.stored.now i j = rw c.requires (c.fibers_in.ensures.words i j (rw c.first-first.ensures low) (rw c.past-past.ensures high)) in
    let is : c.of_fibers.result.entries ≡ along b.cols (kept_by test stored (entries_in c.into_lists.result)) = c.of_fibers.ensures.entries ∙ rw (c.cols-cols.ensures, c.keep_entries-lists.ensures.entries) refl in
    ap (λ es. word_at es i j) is
    ∙ kept_along test b.cols stored (entries_in c.into_lists.result) i j
    ∙ rw (there, c.into_lists.ensures.entries) refl
