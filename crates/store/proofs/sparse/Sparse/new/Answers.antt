-- Lists without a fiber hold no entry.
use Rattle.std.proofs.Common.{◌≡◌, ℕ, List, ap, ◌∙◌, refl, None, []}
use Rattle.model.specs.declared.entry.Entry.{Entry}
use Rattle.model.specs.Entries.{word_at}
use Rattle.store.specs.declared.lists.FiberEnd.{FiberEnd}
use Rattle.store.specs.Fibers.{entries_from}
use Rattle.store.specs.Stored.{along}
use Rattle.store.proofs.Contents.{along_none, no_entries, none_held}
use Rattle.store.proofs.sparse.Sparse.new.Goals as goal

pub invariant_of-result : goal.invariant_of-result
invariant_of-result c = rw (c.new.ensures.ends, c.new.ensures.inner, c.new.ensures.words) (none_held 0 c.args.rows c.args.cols)

none_there : (i j : ℕ) → word_at [] i j ≡ None
unfolding word_at
none_there i j = refl

empty_there : (cols i j : ℕ) (ends : List FiberEnd) (inner words : List ℕ) → ends ≡ []
    → word_at (along cols (entries_from 0 ends inner words)) i j ≡ None
empty_there cols i j ends inner words none =
    ap (λ (es : List Entry). word_at (along cols es) i j) (no_entries 0 ends inner words none) ∙ ap (λ (es : List Entry). word_at es i j) (along_none cols) ∙ none_there i j

pub returns-clause-content : goal.returns-clause-content
returns-clause-content c i j = empty_there c.args.cols i j c.new.result.ends.items c.new.result.inner.items c.new.result.words.items c.new.ensures.ends
