-- The first entry is that of the first fiber.
use Rattle.std.proofs.Common.{◌≡◌, ◌<◌, ◌++◌, ◌∙◌, ap, drop, length, refl, rules, sym}
use Rattle.store.specs.Fibers.{entries_along, entries_in}
use Rattle.store.proofs.JoinLaws.{row_first}
use Rattle.store.proofs.tuples.first_entry.Goals as goal

pub returns : goal.returns
returns c =
    let cols = c.split.result.0.now in
    let words = c.split.result.1.now in
    let others = c.split.result.2.entries in
    let whole : entries_in c.args.rows.now ≡ entries_along c.outer-row.result cols words ++ others =
    sym (c.of_lists-fibers.ensures ∙ rw (c.deref.ensures.value, c.deref-2.ensures.value, c.deref-3.ensures.value) refl) ∙ c.split.ensures.whole in
    let some : 0 < length cols = search rules in
    let first = row_first c.outer-row.result cols words c.split.ensures.lengths some in
    (entries_along c.outer-row.result (drop 1 cols) (drop 1 words) ++ others, whole ∙ ap (λ es. es ++ others) first)
