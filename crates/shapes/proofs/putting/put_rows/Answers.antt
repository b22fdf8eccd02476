use Rattle.std.proofs.Common.{◌≡◌, ◌∙◌, ◌<◌, ◌≤◌, ℕ, true, None, cond, ap, arith}
use Rattle.model.specs.ElementWise.{of_either}
use Rattle.model.specs.Regions.{is_listed}
use Rattle.store.specs.Stored.{Block, block_content, content_of}
use Rattle.masks.specs.declared.join.Joining.TheVariants.{Right}
use Rattle.masks.specs.Joins.{alone_of, both_of}
use Rattle.shapes.specs.Named.{IsNamed}
use Rattle.shapes.specs.Sides.{on_side, one_side}
use Rattle.shapes.proofs.Going.{if_ok}
use Rattle.shapes.proofs.SideLaws.{two_sides}
use Rattle.shapes.proofs.putting.put_rows.Goals as goal

pub returns-clause-words : goal.returns-clause-words
returns-clause-words c =
    let old = c.args.old.now in
    let new = c.args.new in
    let rows = c.args.rows.now in
    let cols = c.args.cols.now in
    let store = c.from_block-new.result in
    let outside = c.from_block-outside.result in
    let inside = c.from_block-inside.result in
    let first : c.first-first.result ≡ new.first = c.first-first.ensures in
    let past : c.past-past.result ≡ new.past = c.past-past.ensures in
    let named : IsNamed rows cols (record { rows = c.in_ok-members_of.field-0; cols = c.in_ok-members_of-2.field-0 }) = record { row_members = c.in_ok-members_of.ensures; col_members = c.in_ok-members_of-2.ensures } in
    let fits : c.past-past.result ≤ old.rows = omega (arith, past, c.requires.end) in
    if_ok (λ (block : Block). (i j : ℕ) → c.first-first.result ≤ i → i < c.past-past.result → block_content block i j ≡ of_either (alone_of Right) (alone_of Right) (both_of Right) (content_of outside i j) (content_of inside i j))
    (λ (block : Block). (i j : ℕ) → new.first ≤ i → i < new.past → block_content block i j ≡ cond (is_listed old.rows old.cols rows cols i j) (block_content new i j) (content_of old i j)) c.join_rows.result
    (λ block is i j low high.
    let low' : c.first-first.result ≤ i = omega (arith, first) in
    let high' : i < c.past-past.result = omega (arith, past) in
    let left = c.from_block-outside.ensures.content i j ∙ c.in_ok-outside.ensures.words rows cols old.rows i j named fits low' high' in
    let right = c.from_block-inside.ensures.content i j ∙ c.in_ok-inside.ensures.words rows cols old.rows i j named fits low' high'
    ∙ ap (λ n. one_side true old.rows n rows cols (content_of store) i j) (c.from_block-new.ensures.cols ∙ c.requires.columns)
    ∙ ap (λ o. cond (on_side true (is_listed old.rows old.cols rows cols i j)) o None) (c.from_block-new.ensures.content i j) in
    is i j low' high' ∙ rw (left, right) (two_sides (is_listed old.rows old.cols rows cols i j) (content_of old i j) (block_content new i j))) c.join_rows.ensures.words
