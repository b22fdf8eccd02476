-- Where no row has an entry, all of them stand before.
use Rattle.std.proofs.Common.{◌≡◌, ◌∙◌, [], arith, sym}
use Rattle.std.proofs.lemmas.Bool.{eqb-true}
use Rattle.std.proofs.lemmas.List.{nil_from_length}
use Rattle.std.proofs.lemmas.List.Elements.{All-nil}
use Rattle.std.specs.Vec.{vec_len}
use Rattle.model.specs.Entries.{Precedes}
use Rattle.store.proofs.Contents.{no_entries}
use Rattle.store.proofs.tuples.goes_on.Goals as goal

pub returns-then-is_empty-clause-yes : goal.returns-then-is_empty-clause-yes
returns-then-is_empty-clause-yes c h =
    let rows = c.args.rows.now in
    let ok = rows.ends.ok in
    let zero : vec_len rows.ends ≡ 0 = eqb-true (vec_len rows.ends) 0 (sym c.is_empty.ensures ∙ c.if-is_empty.true) in
    let none : rows.ends.items ≡ [] = nil_from_length rows.ends.items (omega arith) in
    rw (no_entries 0 rows.ends.items rows.inner.items rows.words.items none) (All-nil (λ e. Precedes e c.args.entry.now))
