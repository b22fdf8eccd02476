use Rattle.std.proofs.Common.{◌∙◌, ap, sym, inl, inr, arith}
use Rattle.std.proofs.lemmas.Bool.{cases_lt}
use Rattle.std.proofs.lemmas.List.Sorted.{searched}
use Rattle.model.specs.Entries.{word_at}
use Rattle.store.specs.Fibers.{entries_along}
use Rattle.store.proofs.RangeLaws.{rising_not_falling}
use Rattle.shapes.proofs.RowWords.{found_word, missing_word}
use Rattle.shapes.proofs.extracting.find_word.Goals as goal

pub returns-in-Ok : goal.returns-in-Ok
returns-in-Ok c i =
    let cs = c.args.cols.now in
    let search = searched cs c.args.col c.binary_search.result c.binary_search.ensures.position (λ i j low within. rising_not_falling cs c.requires.rising i j 0 low within) in
    let at = rw c.in-Ok.is at search in
    ap (λ col. word_at (entries_along i cs c.args.words.now) i col) (sym at.1) ∙ found_word i c.in-Ok.at cs c.args.words.now c.requires.lengths c.requires.rising at.0

pub returns-in-Err : goal.returns-in-Err
returns-in-Err c i =
    let cs = c.args.cols.now in
    let search = searched cs c.args.col c.binary_search.result c.binary_search.ensures.position (λ i j low within. rising_not_falling cs c.requires.rising i j 0 low within) in
    let at = rw c.in-Err.is at search in
    missing_word i c.args.col cs c.args.words.now (λ k within same. elim (cases_lt k c.in-Err.field-0) [
      | inl before ↦ absurd (let less = at.1 k before in omega arith)
      | inr behind ↦ absurd (let more = at.2 k behind within in omega arith)
    ])
