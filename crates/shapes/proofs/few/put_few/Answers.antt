-- Rows that are listed have the words of both sides, and the others those of the old store.
use Rattle.std.proofs.Common.{◌≡◌, ◌∙◌, ◌<◌, ◌≤◌, ℕ, cond, true}
use Rattle.model.specs.Indices.{Indices}
use Rattle.model.specs.Object.{Content}
use Rattle.model.specs.Regions.{is_listed}
use Rattle.store.specs.Stored.{Block, block_content, content_of}
use Rattle.shapes.specs.Lists.{with_rows}
use Rattle.shapes.specs.Named.{IsNamed}
use Rattle.shapes.specs.Sides.{one_side}
use Rattle.shapes.proofs.FewLaws.{mixed_word}
use Rattle.shapes.proofs.Going.{if_ok}
use Rattle.shapes.proofs.few.put_few.Goals as goal

pub keep_named-requires-clause-inside : goal.keep_named-requires-clause-inside
keep_named-requires-clause-inside c =
    let names = c.requires.named in
    (c.requires.part names.0 names.1 c.args.range.end names.2).inside

pub replace_rows-requires-clause-inside : goal.replace_rows-requires-clause-inside
replace_rows-requires-clause-inside c =
    let names = c.requires.named in
    (c.requires.part names.0 names.1 c.args.range.end names.2).inside

pub returns-clause-words : goal.returns-clause-words
returns-clause-words c =
    let first = c.args.range.start in
    let past = c.args.range.end in
    let listed = c.args.listed.now in
    let old = c.args.old.now in
    let inside = content_of c.args.inside.now in
    let outside = content_of c.from_block-outside.result in
    let mixed = content_of c.from_block-mixed.result in
    if_ok (λ (block : Block). (i j : ℕ) → first ≤ i → i < past → block_content block i j ≡ with_rows listed mixed (content_of old) i j)
    (λ (block : Block). (rows cols : Indices) (c' : Content) (size i j : ℕ) → IsNamed rows cols c.args.named.now → past ≤ size → first ≤ i → i < past → inside i j ≡ one_side true size old.cols rows cols c' i j → block_content block i j ≡ cond (is_listed size old.cols rows cols i j) (c' i j) (content_of old i j)) c.replace_rows.result
    (λ block is rows cols c' size i j named fits low high here.
    let part = c.requires.part rows cols size named in
    is i j low high
    ∙ mixed_word size old.cols i j rows cols listed c' (content_of old) mixed outside inside (part.members i low high)
    (c.from_block-outside.ensures.content i j ∙ c.in_ok-outside.ensures.words rows cols size i j named fits low high) here
    (c.from_block-mixed.ensures.content i j ∙ c.in_ok-mixed.ensures.words i j low high)) c.replace_rows.ensures.words
