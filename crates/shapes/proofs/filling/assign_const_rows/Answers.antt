use Rattle.std.proofs.Common.{length, rules, ◌≡◌, ◌∙◌, ◌<◌, ◌≤◌, None, ap, arith, sym}
use Rattle.std.proofs.lemmas.List.Elements.{All-weaker}
use Rattle.model.specs.Entries.{word_at}
use Rattle.model.specs.Regions.{filled}
use Rattle.store.specs.Stored.{transposed}
use Rattle.shapes.specs.Lists.{spread}
use Rattle.shapes.specs.Rows.{IsMade}
use Rattle.shapes.proofs.FillLaws.{column_inside, column_words, nothing, no_col_filled, no_row_filled, none_filled, spread_is}
use Rattle.shapes.proofs.filling.assign_const_rows.Goals as goal
use Rattle.shapes.proofs.filling.assign_const_rows.Goals.{then-count-eq0-via-then-count-eq0, then-count-eq0-via-else-count-eq0+then-count-eq0-2}

pub returns-then-count-eq0-clause-words : goal.returns-then-count-eq0-clause-words
returns-then-count-eq0-clause-words c i j low high =
    let rows = c.args.rows.now in
    let cols = c.args.cols.now in
    let none : filled c.args.shape.0 c.args.shape.1 rows cols c.args.word i j ≡ None =
    elim c.then-count-eq0.branch [
      | then-count-eq0-via-then-count-eq0 w ↦ no_row_filled c.args.shape.0 c.args.shape.1 c.args.word rows cols i j (sym c.count.ensures ∙ w.if-count-eq0.true)
      | then-count-eq0-via-else-count-eq0+then-count-eq0-2 w ↦ no_col_filled c.args.shape.0 c.args.shape.1 c.args.word rows cols i j (sym w.count-else-count-eq0.ensures ∙ w.if-count-eq0-2.true)
    ] in
    nothing c.new.result.entries i j c.new.ensures.entries ∙ sym none

pub returns-then-is_empty-clause-words : goal.returns-then-is_empty-clause-words
returns-then-is_empty-clause-words c i j low high =
    let list = c.in_ok-rows.rows.items in
    let none : length list ≡ 0 = search rules in
    nothing c.new-then-is_empty.result.entries i j c.new-then-is_empty.ensures.entries
    ∙ sym (none_filled c.args.shape.0 c.args.shape.1 c.args.word c.args.rows.now c.args.cols.now c.args.range.start c.args.range.end i j list none (c.in_ok-rows.ensures c.args.shape.0 c.requires.end) low high)

pub fill_column-requires : goal.fill_column-requires
fill_column-requires c = rw c.deref.ensures.value (c.in_ok-rows.ensures c.args.shape.0 c.requires.end).rising

pub fill_rows-requires-clause-rows : goal.fill_rows-requires-clause-rows
fill_rows-requires-clause-rows c = rw c.deref-2.ensures.value (c.in_ok-rows.ensures c.args.shape.0 c.requires.end).rising

pub fill_rows-requires-clause-cols : goal.fill_rows-requires-clause-cols
fill_rows-requires-clause-cols c = rw c.deref-3.ensures.value (c.in_ok-cols.ensures c.args.shape.1 (omega arith)).rising

made : (c : goal.In_ok-lists-2)
    → IsMade (spread c.in_ok-rows.rows.items c.in_ok-cols.cols.items c.args.word) c.args.range.start c.args.range.end c.args.shape.1 c.in_ok-lists-2.lists
made c =
    let rows = c.in_ok-rows.ensures c.args.shape.0 c.requires.end in
    let cols = c.in_ok-cols.ensures c.args.shape.1 (omega arith) in
    rw (c.deref-2.ensures.value, c.deref-3.ensures.value) at c.in_ok-lists-2.ensures c.args.range.start c.args.range.end c.args.shape.1 c.requires.start rows.part.inside
    (All-weaker (λ x. (0 ≤ x) × (x < c.args.shape.1)) (λ x. x < c.args.shape.1) (λ x p. p.1) c.in_ok-cols.cols.items cols.part.inside)

pub of_rows-requires-clause-flat : goal.of_rows-requires-clause-flat
of_rows-requires-clause-flat c = (made c).flat

pub of_rows-requires-clause-inside : goal.of_rows-requires-clause-inside
of_rows-requires-clause-inside c = (made c).inside

pub returns-clause-words : goal.returns-clause-words
returns-clause-words c i j low high =
    let rows = c.in_ok-rows.ensures c.args.shape.0 c.requires.end in
    let cols = c.in_ok-cols.ensures c.args.shape.1 (omega arith) in
    let is : IsMade (spread c.in_ok-rows.rows.items c.in_ok-cols.cols.items c.args.word) c.args.range.start c.args.range.end c.args.shape.1 c.in_ok-lists-2.lists =
    rw (c.deref-2.ensures.value, c.deref-3.ensures.value) at c.in_ok-lists-2.ensures c.args.range.start c.args.range.end c.args.shape.1 c.requires.start rows.part.inside
    (All-weaker (λ x. (0 ≤ x) × (x < c.args.shape.1)) (λ x. x < c.args.shape.1) (λ x p. p.1) c.in_ok-cols.cols.items cols.part.inside) in
    ap (λ es. word_at es i j) c.of_rows.ensures.entries ∙ is.words i j low high
    ∙ spread_is c.args.shape.0 c.args.shape.1 c.args.range.start c.args.range.end c.args.word c.args.rows.now c.args.cols.now c.in_ok-rows.rows.items c.in_ok-cols.cols.items c.requires.end c.requires.cols rows cols i j low high

pub of_fibers-requires-clause-inside : goal.of_fibers-requires-clause-inside
of_fibers-requires-clause-inside c =
    let rows = c.in_ok-rows.ensures c.args.shape.0 c.requires.end in
    let list : c.deref.result.now ≡ c.in_ok-rows.rows.items = c.deref.ensures.value in
    let is = rw list at c.in_ok-lists.ensures.entries in
    rw is (column_inside c.args.range.start c.args.range.end c.args.word c.in_ok-rows.rows.items rows.part.inside)

pub returns-then-len-eq1-clause-words : goal.returns-then-len-eq1-clause-words
returns-then-len-eq1-clause-words c i j low high =
    let rows = c.in_ok-rows.ensures c.args.shape.0 c.requires.end in
    let cols = c.in_ok-cols.ensures c.args.shape.1 (omega arith) in
    let row_list = c.in_ok-rows.rows.items in
    let col_list = c.in_ok-cols.cols.items in
    let list : c.deref.result.now ≡ row_list = c.deref.ensures.value in
    let is = rw list at c.in_ok-lists.ensures.entries in
    let one : length col_list ≡ 1 = search rules in
    let below = All-weaker (λ x. (0 ≤ x) × (x < c.args.shape.1)) (λ x. x < 1) (λ x p. let less = p.1 in omega (arith, c.if-shape-eq1.true)) col_list cols.part.inside in
    ap (λ es. word_at es i j) (c.of_fibers.ensures.entries ∙ ap transposed is) ∙ column_words row_list col_list c.args.word i j one below
    ∙ spread_is c.args.shape.0 c.args.shape.1 c.args.range.start c.args.range.end c.args.word c.args.rows.now c.args.cols.now row_list col_list c.requires.end c.requires.cols rows cols i j low high
