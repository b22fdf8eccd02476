use Rattle.std.proofs.Common.{◌≡◌, ◌∙◌, length, rules, sym}
use Rattle.store.proofs.ColumnPuts.{length_held}
use Rattle.store.proofs.forms.into_bitmap.Goals as goal

pub full_column-requires-clause-full : goal.full_column-requires-clause-full
full_column-requires-clause-full c =
    let s = c.sparse.inside in
    let long : c.len.result ≡ length s.lists.inner.items = search rules in
    rw (← c.sparse.view_is) (length_held s.cols s.lists.ends.items s.lists.inner.items s.lists.words.items c.sparse.invariant.flat ∙ sym long ∙ c.if-len-sparse.true)
